use Rattle.tenant_snapshot.proofs.UncheckedReads.{stays}
use Rattle.tenant_snapshot.proofs.tenant.read_without_tags.Goals as goal

pub returns-clause-memory : goal.returns-clause-memory
returns-clause-memory g c = stays _ _ _ _ _ c.read.ensures.memory
