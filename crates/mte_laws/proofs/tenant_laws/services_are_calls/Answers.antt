use Rattle.mte_laws.proofs.TenantCalls.{services-are-calls}
use Rattle.mte_laws.proofs.tenant_laws.services_are_calls.Goals as goal

pub returns : goal.returns
returns c = services-are-calls
