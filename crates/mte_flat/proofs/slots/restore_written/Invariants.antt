use Rattle.std.proofs.Common.{◌≡◌, ◌<◌, ◌≤◌, ℕ, length, get_or}
use Rattle.mte_flat.specs.declared.slot.Slot.{Slot}
use Rattle.mte_flat.proofs.slots.restore_written.Given as goal

-- Those so far are the slots of before, the others what they were.
abbrev pub invariant-loop-i : goal.invariant-loop-i
invariant-loop-i l = record {
  len : length l.slots ≡ length l.initial.slots;
  done : (k : ℕ) (d : Slot) → k < l.i → get_or l.slots k d ≡ get_or l.saved k d;
  rest : (k : ℕ) (d : Slot) → l.i ≤ k → get_or l.slots k d ≡ get_or l.initial.slots k d;
}
