use Rattle.mte_svc.proofs.FixedServices.{services_fixed}
use Rattle.mte_svc.proofs.laws.services_keep_fixed_pages.Goals as goal

pub returns : goal.returns
returns c = services_fixed
