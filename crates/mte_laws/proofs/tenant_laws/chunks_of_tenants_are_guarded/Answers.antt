use Rattle.mte_laws.proofs.Sessions.{guarded-in-session}
use Rattle.mte_laws.proofs.tenant_laws.chunks_of_tenants_are_guarded.Goals as goal

pub returns : goal.returns
returns c = guarded-in-session
