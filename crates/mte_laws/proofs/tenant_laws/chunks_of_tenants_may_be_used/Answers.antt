use Rattle.mte_laws.proofs.TenantCalls.{chunks-of-tenants-usable}
use Rattle.mte_laws.proofs.tenant_laws.chunks_of_tenants_may_be_used.Goals as goal

pub returns : goal.returns
returns c = chunks-of-tenants-usable
