use Rattle.std.proofs.Common.{arith}
use Rattle.a64_bits.specs.Shifts.{rotated_right}
use Rattle.a64_bits.proofs.ShiftLemmas.{low_moved, parts_below, pow_le_64}
use Rattle.a64_bits.proofs.shifts.rotate_right.Goals as goal

pub overflow_add-result : goal.overflow_add-result
overflow_add-result c =
    let moved = low_moved c.args.value c.args.amount c.args.size c.requires.within c.requires.size in
    let below = parts_below c.args.value c.args.value c.args.amount c.args.size c.requires.within c.requires.fits in
    let fits = pow_le_64 c.args.size c.requires.size in
    rw (c.low_bits.ensures, moved) (omega arith)

pub returns : goal.returns
unfolding rotated_right
returns c =
    let moved = low_moved c.args.value c.args.amount c.args.size c.requires.within c.requires.size in
    rw (c.low_bits.ensures, moved) (omega arith)
