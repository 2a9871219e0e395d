use Rattle.std.proofs.Common.{◌≡◌, ℤ, pos, negsuc, ◌+◌, ◌*◌, ◌%◌, ◌^◌, ◌∙◌}
use Rattle.std.proofs.Common.{ap, refl, mul_comm, arith}
use Rattle.std.proofs.Math.Nat.{add-mod-mod}
use Rattle.std.proofs.lemmas.Int.{to_z-of_z}
use Rattle.std.specs.Int.{cast_unsigned, w64}
use Rattle.a64_bits.specs.Fields.{twos_complement}
use Rattle.a64_step.specs.Addressing.{offset_address}
use Rattle.a64_step.proofs.addressing.moved_by.Goals as goal

-- the two ways to say the bits of a signed number
cast-twos_complement : (z : ℤ) → cast_unsigned w64 z ≡ twos_complement 64 z
cast-twos_complement (pos n) = refl
cast-twos_complement (negsuc n) = omega arith

pub returns : goal.returns
unfolding offset_address
returns c =
    let z = c.args.offset in
    let bits : c.cast_unsigned.result ≡ twos_complement 64 z =
    c.cast_unsigned.ensures
    ∙ ap (cast_unsigned w64) (to_z-of_z w64 z c.ranges.offset)
    ∙ cast-twos_complement z in
    let product = mul_comm c.cast_unsigned.result c.args.unit ∙ ap (λ n. c.args.unit * n) bits in
    add-mod-mod c.args.address (c.cast_unsigned.result * c.args.unit) (2 ^ 64)
    ∙ ap (λ n. (c.args.address + n) % 2 ^ 64) product
