use Rattle.mte_laws.proofs.TenantDisciplines.{reused-stay}
use Rattle.mte_laws.proofs.tenant_laws.reused_tags_of_tenants_differ.Goals as goal

pub returns : goal.returns
returns c = reused-stay
