use Rattle.mte_laws.proofs.TenantCalls.{asked-of-tenants}
use Rattle.mte_laws.proofs.tenant_laws.answers_of_tenants_are_pointers.Goals as goal

pub returns : goal.returns
returns c = asked-of-tenants
