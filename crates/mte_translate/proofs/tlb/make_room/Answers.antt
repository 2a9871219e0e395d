use Rattle.std.proofs.Common.{◌≤◌, ◌<◌, ◌+◌, ap, length, refl, arith}
use Rattle.mte_translate.specs.Whole.{hashes_of, IsChained}
use Rattle.mte_translate.proofs.ChainLemmas.{chained-same, chained-drop, hashes-drop, hashes_long}
use Rattle.mte_translate.proofs.tlb.make_room.Goals.{then-len-eq-TLB_ENTRIES, else-len-eq-TLB_ENTRIES}
use Rattle.mte_translate.proofs.tlb.make_room.Goals as goal

pub returns-then-end-eq-PLACES-clause-chained : goal.returns-then-end-eq-PLACES-clause-chained
returns-then-end-eq-PLACES-clause-chained c =
    let w = c.if-len-eq-TLB_ENTRIES.translations in
    let chained : IsChained w.first c.args.chains.now.heads c.args.chains.now.gaps (hashes_of w.items) =
    elim c.if-len-eq-TLB_ENTRIES.branch [
      | then-len-eq-TLB_ENTRIES b ↦
          let long = hashes_long c.args.translations.now.items in
          let some : 0 < length (hashes_of c.args.translations.now.items) = omega (arith, long, b.if-len-eq-TLB_ENTRIES.true, c.len.ensures.count) in
          rw b.translations-is (chained-same _ _ _ _ _ _ (chained-drop _ _ _ _ c.requires.chained some) b.drop_oldest.ensures.first (hashes-drop _ _ b.drop_oldest.ensures.items))
      | else-len-eq-TLB_ENTRIES b ↦ rw b.translations-is c.requires.chained
    ] in
    let long = hashes_long w.items in
    let few : c.first.result + length (hashes_of w.items) ≤ 128 = omega (arith, long, c.first.ensures, c.end.ensures.end, c.end.ensures.most) in
    chained-same _ _ _ _ _ _ (c.move_to_front.ensures (hashes_of w.items) few (chained-same _ _ _ _ _ _ chained c.first.ensures refl)) c.move_to_front-then-end-eq-PLACES.ensures.first (ap hashes_of c.move_to_front-then-end-eq-PLACES.ensures.items)

pub returns-else-end-eq-PLACES-clause-chained : goal.returns-else-end-eq-PLACES-clause-chained
returns-else-end-eq-PLACES-clause-chained c = elim c.if-len-eq-TLB_ENTRIES.branch [
  | then-len-eq-TLB_ENTRIES b ↦
      let long = hashes_long c.args.translations.now.items in
      let some : 0 < length (hashes_of c.args.translations.now.items) = omega (arith, long, b.if-len-eq-TLB_ENTRIES.true, c.len.ensures.count) in
      rw b.translations-is (chained-same _ _ _ _ _ _ (chained-drop _ _ _ _ c.requires.chained some) b.drop_oldest.ensures.first (hashes-drop _ _ b.drop_oldest.ensures.items))
  | else-len-eq-TLB_ENTRIES b ↦ rw b.translations-is c.requires.chained
]
