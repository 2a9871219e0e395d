use Rattle.std.proofs.Common.{◌≡◌, ℕ, ◌<◌, ◌≤◌, slice_index}
use Rattle.mte_translate.specs.Windows.{IsHeadWithout}
use Rattle.mte_translate.proofs.chains.Chains.remove_from_heads.Given as goal

abbrev pub invariant-loop-head : goal.invariant-loop-head
invariant-loop-head l = record {
  done : (k : ℕ) → k < l.head-index → IsHeadWithout l.place l.end (slice_index l.fn.self.heads k) (slice_index l.head-items k);
  left : (k : ℕ) → l.head-index ≤ k → slice_index l.head-items k ≡ slice_index l.fn.self.heads k;
}
