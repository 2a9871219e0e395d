use Rattle.std.proofs.Common.{◌≡◌, ◌+◌, ◌-◌, ◌∙◌, ◌∷◌, ◌++◌, [], ap, sym, length, arith}
use Rattle.mte_translate.specs.declared.translation.Translation.{Translation}
use Rattle.mte_translate.specs.Translations.{newest, without}
use Rattle.mte_translate.specs.Whole.{hashes_of}
use Rattle.mte_translate.proofs.TlbLemmas.{others-all, one-each-drop, one-each-push}
use Rattle.mte_translate.proofs.ChainLemmas.{chained-same, hashes-push, hashes_long}
use Rattle.mte_translate.proofs.tlb.Tlb.add.Goals as goal

left_is : (c : goal.After-push-2) → c.make_room.new.translations.items ≡ newest 63 (without c.args.asid c.args.page c.args.self.now)
left_is c = c.make_room.ensures.items ∙ ap (newest 63) (c.self.view_is ∙ sym (others-all c.args.asid c.args.page c.args.self.now c.requires))

pub invariant_of-self : goal.invariant_of-self
invariant_of-self c =
    let t : Translation = record { asid = c.args.asid; page = c.args.page; frame = c.args.frame; attrs = c.args.attrs } in
    let old = c.self.inside.translations.items in
    let w = c.make_room.new.translations in
    let long = hashes_long w.items in
    let end : w.first + length (hashes_of w.items) ≡ c.end.result = omega (arith, long, c.end.ensures.end) in
    record {
      one_each = one-each-push t c.args.self.now w.items _ (one-each-drop (length old - 63) old w.items c.self.invariant.one_each c.make_room.ensures.items) (left_is c) c.push-2.ensures.items;
      chained = chained-same _ _ _ _ _ _ (c.push.ensures w.first (hashes_of w.items) end c.make_room.ensures.chained) c.push-2.ensures.first (hashes-push _ _ t c.push-2.ensures.items);
    }

pub returns : goal.returns
returns c = c.push-2.ensures.items ∙ ap (λ ts. ts ++ record { asid = c.args.asid; page = c.args.page; frame = c.args.frame; attrs = c.args.attrs } ∷ []) (left_is c)
