use Rattle.std.proofs.Common.{◌≡◌, take, vec_len, vec_capacity}
use Rattle.common.proofs.list_copy.copy_list.Given as goal

-- Those so far are copied, with memory for the others.
abbrev pub invariant-loop-item : goal.invariant-loop-item
invariant-loop-item g l =
    (l.copy.items ≡ take l.item-index l.item-items)
    × (vec_len l.copy ≡ l.item-index)
    × (vec_capacity l.copy ≡ vec_capacity l.list)
