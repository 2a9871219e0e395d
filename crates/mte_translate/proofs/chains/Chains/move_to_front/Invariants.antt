use Rattle.std.proofs.Common.{◌≡◌, ℕ, ◌-◌, ◌<◌, ◌≤◌, slice_index}
use Rattle.mte_translate.proofs.chains.Chains.move_to_front.Given as goal

abbrev pub invariant-loop-head : goal.invariant-loop-head
invariant-loop-head l = record {
  done : (k : ℕ) → k < l.head-index → slice_index l.head-items k ≡ slice_index l.fn.self.heads k - l.first;
  left : (k : ℕ) → l.head-index ≤ k → slice_index l.head-items k ≡ slice_index l.fn.self.heads k;
}
