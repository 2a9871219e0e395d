use Rattle.std.proofs.Common.{set, get_or, ap}
use Rattle.scudo_primary.specs.Inner.{no_entry, entry_at}
use Rattle.scudo_primary.proofs.lists.set_mark.Goals as goal

pub returns : goal.returns
unfolding entry_at
returns c =
    let es = c.args.entries.now in
    ap (λ t. set es t (record { next = (get_or es t no_entry).next; free = c.args.free; last = (get_or es t no_entry).last })) c.place-at.ensures
