use Rattle.mte_sched.proofs.IsolationLemmas.{tenants_are_alone}
use Rattle.mte_sched.proofs.isolation.tenants_are_alone.Goals as goal

pub returns : goal.returns
returns c = tenants_are_alone
