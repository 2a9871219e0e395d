use Rattle.std.proofs.Common.{◌+◌, ◌-◌, ◌/◌, ◌%◌, ◌^◌, ◌<◌, ◌≤◌, arith}
use Rattle.std.proofs.lemmas.Nat.{mod_below, pow_pos}
use Rattle.a64_bits.proofs.ShiftLemmas.{pow_le_64}
use Rattle.a64_bits.proofs.MoveLemmas.{field_moved, field_below, power_le, placed-negative, placed-positive, placed-in, placed-zeros}
use Rattle.a64_bits.proofs.field_moves.place_field.Goals as goal

-- ---- into rd

pub overflow_sub-result : goal.overflow_sub-result
overflow_sub-result c =
    let width = c.args.width in
    let place = c.args.place in
    let out = field_moved (c.args.rd / 2 ^ place) width place c.args.size c.requires.within c.requires.size in
    let parts = placed-in c.args.size c.args.rd (c.args.bits % 2 ^ width) width place (mod_below c.args.bits (2 ^ width) (pow_pos width)) c.requires.within c.requires.rd in
    rw (c.low_bits.ensures, out) parts.0

pub overflow_add-result : goal.overflow_add-result
overflow_add-result c =
    let width = c.args.width in
    let place = c.args.place in
    let out = field_moved (c.args.rd / 2 ^ place) width place c.args.size c.requires.within c.requires.size in
    let in_ = field_moved c.args.bits width place c.args.size c.requires.within c.requires.size in
    let parts = placed-in c.args.size c.args.rd (c.args.bits % 2 ^ width) width place (mod_below c.args.bits (2 ^ width) (pow_pos width)) c.requires.within c.requires.rd in
    let fits = pow_le_64 c.args.size c.requires.size in
    rw (c.low_bits.ensures, c.low_bits-field.ensures, out, in_) (omega (arith, parts.2))

pub returns-then-opc-eq1 : goal.returns-then-opc-eq1
returns-then-opc-eq1 c =
    let width = c.args.width in
    let place = c.args.place in
    let out = field_moved (c.args.rd / 2 ^ place) width place c.args.size c.requires.within c.requires.size in
    let in_ = field_moved c.args.bits width place c.args.size c.requires.within c.requires.size in
    let parts = placed-in c.args.size c.args.rd (c.args.bits % 2 ^ width) width place (mod_below c.args.bits (2 ^ width) (pow_pos width)) c.requires.within c.requires.rd in
    rw (c.low_bits.ensures, c.low_bits-field.ensures, out, in_, c.if-opc-eq1.true) parts.1

-- ---- with signs

pub overflow_sub-result-else-field-power_of_two : goal.overflow_sub-result-else-field-power_of_two
overflow_sub-result-else-field-power_of_two c =
    let room = power_le (c.args.place + c.args.width) c.args.size c.requires.within in
    rw (c.ones.ensures, c.ones-else-field-power_of_two.ensures) (omega arith)

pub overflow_add-result-else-field-power_of_two : goal.overflow_add-result-else-field-power_of_two
overflow_add-result-else-field-power_of_two c =
    let width = c.args.width in
    let place = c.args.place in
    let in_ = field_moved c.args.bits width place c.args.size c.requires.within c.requires.size in
    let low = field_below (c.args.bits % 2 ^ width) width place (mod_below c.args.bits (2 ^ width) (pow_pos width)) in
    let room = power_le (place + width) c.args.size c.requires.within in
    let fits = pow_le_64 c.args.size c.requires.size in
    rw (c.ones.ensures, c.ones-else-field-power_of_two.ensures, c.low_bits-field.ensures, in_) (omega arith)

pub returns-then-field-power_of_two : goal.returns-then-field-power_of_two
returns-then-field-power_of_two c =
    let width = c.args.width in
    let in_ = field_moved c.args.bits width c.args.place c.args.size c.requires.within c.requires.size in
    let low : c.args.bits % 2 ^ width < 2 ^ (width - 1) = omega (arith, c.low_bits-field.ensures, c.power_of_two.ensures) in
    rw (c.low_bits-field.ensures, in_, c.if-opc-eq0.true) (placed-positive c.args.size c.args.rd (c.args.bits % 2 ^ width) width c.args.place low)

pub returns-else-field-power_of_two : goal.returns-else-field-power_of_two
returns-else-field-power_of_two c =
    let width = c.args.width in
    let in_ = field_moved c.args.bits width c.args.place c.args.size c.requires.within c.requires.size in
    let high : 2 ^ (width - 1) ≤ c.args.bits % 2 ^ width = omega (arith, c.low_bits-field.ensures, c.power_of_two.ensures) in
    rw (c.ones.ensures, c.ones-else-field-power_of_two.ensures, c.low_bits-field.ensures, in_, c.if-opc-eq0.true)
    (placed-negative c.args.size c.args.rd (c.args.bits % 2 ^ width) width c.args.place c.requires.some c.requires.within (mod_below c.args.bits (2 ^ width) (pow_pos width)) high)

-- ---- with zeros

pub returns-else-opc-eq0 : goal.returns-else-opc-eq0
returns-else-opc-eq0 c =
    let width = c.args.width in
    let in_ = field_moved c.args.bits width c.args.place c.args.size c.requires.within c.requires.size in
    rw (c.low_bits-field.ensures, in_) (placed-zeros c.args.opc c.args.size c.args.rd (c.args.bits % 2 ^ width) width c.args.place (omega arith) (omega arith))
