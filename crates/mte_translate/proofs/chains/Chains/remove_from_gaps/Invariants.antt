use Rattle.std.proofs.Common.{◌≡◌, ℕ, ◌+◌, ◌-◌, ◌<◌, ◌≤◌, slice_index}
use Rattle.mte_translate.specs.Windows.{IsGapWithout}
use Rattle.mte_translate.proofs.chains.Chains.remove_from_gaps.Given as goal

abbrev pub invariant-loop-younger : goal.invariant-loop-younger
invariant-loop-younger l = record {
  heads : l.self.heads ≡ l.fn.self.heads;
  older : (i : ℕ) → i < l.place → slice_index l.self.gaps i ≡ slice_index l.fn.self.gaps i;
  done : (i : ℕ) → l.place ≤ i → i + 1 < l.younger → IsGapWithout (i - l.place) (slice_index l.fn.self.gaps l.place) (slice_index l.fn.self.gaps (i + 1)) (slice_index l.self.gaps i);
  left : (i : ℕ) → l.younger ≤ i + 1 → slice_index l.self.gaps i ≡ slice_index l.fn.self.gaps i;
}
