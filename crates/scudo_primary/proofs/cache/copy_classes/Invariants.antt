use Rattle.std.proofs.Common.{◌≡◌, take, vec_len, vec_capacity}
use Rattle.scudo_primary.proofs.cache.copy_classes.Given as goal

-- Those so far are copied, with memory for the others.
abbrev pub invariant-loop-class : goal.invariant-loop-class
invariant-loop-class l =
    (l.copy.items ≡ take l.class-index l.class-items)
    × (vec_len l.copy ≡ l.class-index)
    × (vec_capacity l.copy ≡ vec_capacity l.classes)
