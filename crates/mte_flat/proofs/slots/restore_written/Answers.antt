use Rattle.std.proofs.Common.{◌∙◌, length, take, sym, arith}
use Rattle.std.proofs.lemmas.List.{ext_get_or, get_or-take, length-take-le}
use Rattle.mte_flat.specs.Inner.Places.{no_slot}
use Rattle.mte_flat.proofs.slots.restore_written.Goals as goal

pub returns : goal.returns
returns c =
    let n = length c.args.slots.now in
    let saved = c.args.saved.now in
    let long = length-take-le n saved c.requires.few in
    record {
      items = ext_get_or no_slot c.loop-i.slots (take n saved) (c.loop-i.invariant.len ∙ sym long)
          (λ k l. c.loop-i.invariant.done k no_slot (omega (arith, c.loop-i.invariant.len)) ∙ sym (get_or-take n saved k no_slot (omega (arith, c.loop-i.invariant.len))));
    }
