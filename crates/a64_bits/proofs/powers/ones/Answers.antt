use Rattle.std.proofs.Common.{◌-◌, arith}
use Rattle.std.proofs.lemmas.Nat.{pow_pos}
use Rattle.a64_bits.proofs.FieldLemmas.{doubled}
use Rattle.a64_bits.proofs.ShiftLemmas.{pow_le_64}
use Rattle.a64_bits.proofs.powers.ones.Goals as goal

pub overflow_sub-result : goal.overflow_sub-result
overflow_sub-result c =
    let positive = pow_pos (c.args.width - 1) in
    omega (arith, c.power_of_two-half.ensures)

pub overflow_add-result : goal.overflow_add-result
overflow_add-result c =
    let positive = pow_pos (c.args.width - 1) in
    let double = doubled c.args.width c.requires.some in
    let fits = pow_le_64 c.args.width c.requires.narrow in
    omega (arith, c.power_of_two-half.ensures)

pub returns : goal.returns
returns c =
    let positive = pow_pos (c.args.width - 1) in
    let double = doubled c.args.width c.requires.some in
    omega (arith, c.power_of_two-half.ensures)
