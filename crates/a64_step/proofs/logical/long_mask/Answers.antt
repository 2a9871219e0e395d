use Rattle.std.proofs.Common.{◌≡◌, ◌+◌, ◌-◌, ◌*◌, ◌%◌, ◌^◌, ◌∙◌, ap, refl, arith}
use Rattle.std.proofs.lemmas.Nat.{one_shl, pow_pos}
use Rattle.a64_bits.specs.Shifts.{rotated_right}
use Rattle.a64_bits.specs.Masks.{IsMask, element_of}
use Rattle.a64_bits.proofs.MaskLemmas.{by_wide_some}
use Rattle.a64_step.specs.Logical.{mask_or_zero}
use Rattle.a64_step.proofs.logical.long_mask.Goals as goal

pub overflow_sub-imms : goal.overflow_sub-imms
overflow_sub-imms c = rw (one_shl (c.args.imms + 1) 64 (omega arith)) (pow_pos (c.args.imms + 1))

pub returns : goal.returns
unfolding element_of
returns c =
    let i : c.args.imms ≡ c.args.imms % 64 = omega arith in
    let r : c.args.immr ≡ c.args.immr % 64 = omega arith in
    let free : IsMask 1 c.args.imms = omega arith in
    let ones = one_shl (c.args.imms + 1) 64 (omega arith) in
    let element : c.rotate_right.result ≡ element_of 64 c.args.imms c.args.immr =
    c.rotate_right.ensures
    ∙ ap (λ k. rotated_right 64 k (1 * 2 ^ (c.args.imms + 1) % 2 ^ 64 - 1)) (c.from.ensures ∙ r)
    ∙ ap (λ v. rotated_right 64 (c.args.immr % 64) (v - 1)) ones
    ∙ ap (λ k. rotated_right 64 (c.args.immr % 64) (2 ^ (k + 1) - 1)) i in
    ap mask_or_zero
    (by_wide_some 1 c.args.imms c.args.immr 64 c.rotate_right.result free refl refl element)
