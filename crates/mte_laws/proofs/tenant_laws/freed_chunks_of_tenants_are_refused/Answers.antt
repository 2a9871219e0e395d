use Rattle.mte_laws.proofs.TenantDisciplines.{freed-stay}
use Rattle.mte_laws.proofs.Sessions.{freed-of-tenants}
use Rattle.mte_laws.proofs.tenant_laws.freed_chunks_of_tenants_are_refused.Goals as goal

pub returns-clause-instructions : goal.returns-clause-instructions
returns-clause-instructions c = freed-stay

pub returns-clause-sessions : goal.returns-clause-sessions
returns-clause-sessions c = freed-of-tenants
