use Rattle.std.proofs.Common.{◌≡◌, sym, ◌∙◌}
use Rattle.debug_lines.specs.Numbers.{signed_of}
use Rattle.debug_lines.proofs.NumberLemmas.{signed_of-negative, signed_of-positive}
use Rattle.debug_lines.proofs.reader.Reader.signed.Goals as goal
use Rattle.debug_lines.proofs.reader.Reader.signed.Goals.{then-is_negative, else-is_negative}

pub returns-clause-value : goal.returns-clause-value
returns-clause-value c =
    let value : c.joined.result ≡ signed_of c.in_ok-number.number.now = elim c.if-is_negative.branch [
      | then-is_negative w ↦ signed_of-negative c.in_ok-number.number.now c.joined.result (sym c.is_negative.ensures ∙ w.if-is_negative.true) (rw w.above-is at c.joined.ensures)
      | else-is_negative w ↦ signed_of-positive c.in_ok-number.number.now c.joined.result (sym c.is_negative.ensures ∙ w.if-is_negative.false) (rw w.above-is at c.joined.ensures)
    ] in
    rw (c.in_ok-number.ensures.bytes, value)
