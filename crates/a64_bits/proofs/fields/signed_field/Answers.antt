use Rattle.std.proofs.Common.{◌≡◌, ◌*◌, ◌%◌, ◌<◌, ◌≤◌, ◌^◌, ◌-◌, ◌/◌, ap, sym, ◌∙◌, negsuc, arith}
use Rattle.std.proofs.lemmas.Nat.{pow_below, mod_below, pow_pos}
use Rattle.a64_bits.proofs.FieldLemmas.{one_shifted, doubled, signed_of_large, computed}
use Rattle.a64_bits.specs.Fields.{signed_of}
use Rattle.a64_bits.proofs.fields.signed_field.Goals as goal

pub returns-else-bits-half : goal.returns-else-bits-half
returns-else-bits-half c =
    let width = c.args.width in
    let bits = c.field-bits.result in
    let half = 1 * 2 ^ (width - 1) % 4294967296 in
    let is_half : half ≡ 2 ^ (width - 1) = one_shifted (width - 1) (omega arith) in
    let double = doubled width c.requires.some in
    let bound : 2 ^ width < 2 ^ 31 = pow_below width 31 (omega arith) in
    let high : bits < 2 ^ width = omega (arith, c.field-bits.ensures, mod_below (c.args.word / 2 ^ c.args.position) (2 ^ width) (pow_pos width)) in
    let low : half ≤ bits = omega arith in
    computed bits half low (omega arith) (omega arith) ∙ sym (ap (signed_of width) (sym c.field-bits.ensures) ∙ (signed_of_large width bits (omega arith) ∙ ap negsuc (omega arith)))
