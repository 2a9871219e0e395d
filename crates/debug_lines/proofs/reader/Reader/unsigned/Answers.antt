use Rattle.debug_lines.proofs.NumberLemmas.{unsigned_of-bits}
use Rattle.debug_lines.proofs.reader.Reader.unsigned.Goals as goal

pub returns-clause-value : goal.returns-clause-value
returns-clause-value c =
    rw (c.in_ok-number.ensures.bytes, unsigned_of-bits c.in_ok-number.number.now c.joined.result c.joined.ensures)
