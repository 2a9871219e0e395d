use Rattle.std.proofs.Common.{◌≢◌, ℕ, ◌<◌, slice_index_or}
use Rattle.mte_flat.specs.declared.slot.Slot.{Slot}
use Rattle.mte_flat.proofs.slot.search.Given as goal

abbrev pub invariant-loop-s : goal.invariant-loop-s
invariant-loop-s l = (k : ℕ) (d : Slot) → k < l.s → (slice_index_or l.slots k d).page ≢ l.page
