use Rattle.std.proofs.Common.{◌∙◌}
use Rattle.a64_bits.proofs.MoveLemmas.{moved-down, moved-up}
use Rattle.a64_bits.proofs.field_moves.move_field.Goals as goal

pub returns-then-immr-imms : goal.returns-then-immr-imms
returns-then-immr-imms c =
    c.place_field.ensures ∙ moved-down c.args.opc c.args.size c.args.rd c.args.rn c.args.immr c.args.imms c.if-immr-imms.true

pub returns-else-immr-imms : goal.returns-else-immr-imms
returns-else-immr-imms c =
    c.place_field-else-immr-imms.ensures ∙ moved-up c.args.opc c.args.size c.args.rd c.args.rn c.args.immr c.args.imms c.if-immr-imms.false
