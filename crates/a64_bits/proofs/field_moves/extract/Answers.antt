use Rattle.std.proofs.Common.{arith, sym}
use Rattle.a64_bits.proofs.ShiftLemmas.{low_moved, parts_below, pow_le_64}
use Rattle.a64_bits.proofs.MoveLemmas.{extr-value-zero, extr-value-parts}
use Rattle.a64_bits.proofs.field_moves.extract.Goals as goal

pub returns-then-lsb-eq0 : goal.returns-then-lsb-eq0
returns-then-lsb-eq0 c = rw c.if-lsb-eq0.true (sym (extr-value-zero c.args.size c.args.high c.args.low c.requires.low))

pub overflow_add-result : goal.overflow_add-result
overflow_add-result c =
    let moved = low_moved c.args.high c.args.lsb c.args.size c.requires.lsb (omega arith) in
    let below = parts_below c.args.high c.args.low c.args.lsb c.args.size c.requires.lsb c.requires.low in
    let fits = pow_le_64 c.args.size (omega arith) in
    rw (c.low_bits.ensures, moved) (omega arith)

pub returns : goal.returns
returns c =
    let moved = low_moved c.args.high c.args.lsb c.args.size c.requires.lsb (omega arith) in
    rw (c.low_bits.ensures, moved) (sym (extr-value-parts c.args.size c.args.high c.args.low c.args.lsb c.requires.lsb c.requires.low))
