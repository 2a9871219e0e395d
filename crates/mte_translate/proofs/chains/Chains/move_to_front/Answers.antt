use Rattle.std.proofs.Common.{◌∙◌, ap, inl, inr, slice_index, arith}
use Rattle.std.proofs.lemmas.List.{get_or_past}
use Rattle.std.proofs.lemmas.Bool.{cases_lt}
use Rattle.mte_translate.proofs.ChainLemmas.{chained-front}
use Rattle.mte_translate.proofs.chains.Chains.move_to_front.Goals as goal

pub returns : goal.returns
returns c = λ hs few chained.
    chained-front c.args.first _ _ hs _ _ chained
    (λ j below.
    c.copy_within.ensures.by_index.0 j 0 (omega arith) (omega (arith, below, few, c.copy_within.ensures.len, c.loop-head-test.array_long.1)) ∙ ap (slice_index c.args.self.now.gaps) (omega arith))
    (λ k. elim (cases_lt k c.loop-head.head-index) [
      | inl below ↦ c.loop-head.invariant.done k below
      | inr above ↦
          let past = get_or_past c.loop-head.head-items k 0 (omega (arith, above)) in
          let same = c.loop-head.invariant.left k above in
          omega (arith, past, same)
    ])
