use Rattle.mte_laws.proofs.Sessions.{pages-in-session}
use Rattle.mte_laws.proofs.tenant_laws.freed_pages_of_tenants_are_refused.Goals as goal

pub returns : goal.returns
returns c = pages-in-session
