use Rattle.mte_laws.proofs.Starts.{tenants-start}
use Rattle.mte_laws.proofs.TenantDisciplines.{slices}
use Rattle.mte_laws.proofs.Sessions.{tenants-stay}
use Rattle.mte_laws.proofs.tenant_laws.careful_tenants_are_sound.Goals as goal

pub returns-clause-start : goal.returns-clause-start
returns-clause-start c = tenants-start

pub returns-clause-slices : goal.returns-clause-slices
returns-clause-slices c = slices

pub returns-clause-sessions : goal.returns-clause-sessions
returns-clause-sessions c = tenants-stay
