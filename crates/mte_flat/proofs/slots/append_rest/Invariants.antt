use Rattle.std.proofs.Common.{◌≡◌, ◌≤◌, ◌-◌, length, take, vec_len, vec_capacity}
use Rattle.mte_flat.proofs.slots.append_rest.Given as goal

abbrev pub invariant-loop-slots : goal.invariant-loop-slots
invariant-loop-slots l = record {
  first : l.slots.items ≡ take (vec_len l.slots) l.saved;
  few : vec_len l.slots ≤ length l.saved;
  capacity : vec_capacity l.slots ≡ vec_capacity l.initial.slots;
}

abbrev pub decreases-loop-slots : goal.decreases-loop-slots
decreases-loop-slots l = length l.saved - vec_len l.slots
