use Rattle.std.proofs.lemmas.Nat.{mod_below}
use Rattle.a64_bits.proofs.MaskLemmas.{ones_fit, rotated_right_below}
use Rattle.a64_bits.proofs.masks.element.Goals as goal

pub rotate_right-requires-clause-fits : goal.rotate_right-requires-clause-fits
rotate_right-requires-clause-fits c =
    let fit = ones_fit c.args.bits c.args.imms c.requires.some c.requires.is_mask in
    rw c.ones.ensures fit

pub returns-clause-below : goal.returns-clause-below
returns-clause-below c =
    let fit = ones_fit c.args.bits c.args.imms c.requires.some c.requires.is_mask in
    rw (c.rotate_right.ensures, c.ones.ensures) (rotated_right_below c.args.bits _ _ (mod_below c.args.immr c.args.bits c.requires.some) fit)
