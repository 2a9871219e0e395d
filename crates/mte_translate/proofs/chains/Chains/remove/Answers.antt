use Rattle.std.proofs.Common.{◌∙◌, ℕ, ◌+◌, ◌-◌, ◌<◌, ◌≤◌, List, sym, ap, subst, slice_index, arith}
use Rattle.mte_translate.specs.Windows.{IsHeadWithout, IsGapWithout}
use Rattle.mte_translate.proofs.ChainLemmas.{chained-remove}
use Rattle.mte_translate.proofs.chains.Chains.remove.Goals as goal

pub returns : goal.returns
returns c = λ first i hs at last few chained.
    let place = c.args.place in
    let heads = c.args.self.now.heads in
    let left = c.remove_from_gaps.new.self.gaps in
    let HeadsOf : List ℕ → Type 0 = λ news. (h : ℕ) → IsHeadWithout place (place - slice_index c.args.self.now.gaps place) (slice_index heads h) (slice_index news h) in
    let GapsOf : List ℕ → Type 0 = λ gaps. (k : ℕ) → place ≤ k → k + 1 < c.args.end → IsGapWithout (k - place) (slice_index gaps place) (slice_index gaps (k + 1)) (slice_index left k) in
    chained-remove first i place c.args.end heads c.args.self.now.gaps hs c.remove_from_gaps.new.self.heads left chained (omega (arith, at, last, c.requires.within)) few at last
    (subst HeadsOf (sym c.remove_from_gaps.ensures.heads) c.remove_from_heads.ensures.heads)
    (λ k l. c.remove_from_gaps.ensures.older k l ∙ ap (λ gaps. slice_index gaps k) c.remove_from_heads.ensures.gaps)
    (subst GapsOf c.remove_from_heads.ensures.gaps c.remove_from_gaps.ensures.younger)
