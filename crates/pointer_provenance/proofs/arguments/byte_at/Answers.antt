use Rattle.pointer_provenance.proofs.ReadLemmas.{unchanged}
use Rattle.pointer_provenance.proofs.arguments.byte_at.Goals as goal

-- src/arguments.rt:207:1
pub returns-then-is_ok-clause-memory : goal.returns-then-is_ok-clause-memory
returns-then-is_ok-clause-memory g c = unchanged _ _ _ _ _ c.read.ensures.memory
