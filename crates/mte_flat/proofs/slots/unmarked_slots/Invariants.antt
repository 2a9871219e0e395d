use Rattle.std.proofs.Common.{◌≡◌, ◌≤◌, map, take, vec_len, vec_capacity}
use Rattle.mte_flat.specs.Inner.Written.{without_mark}
use Rattle.mte_flat.proofs.slots.unmarked_slots.Given as goal

abbrev pub invariant-loop-slot : goal.invariant-loop-slot
invariant-loop-slot l =
    (l.copies.items ≡ map without_mark (take l.slot-index l.slots))
    × (vec_len l.copies ≡ l.slot-index)
    × (l.limit ≤ vec_capacity l.copies)
