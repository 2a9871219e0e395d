use Rattle.mte_sched.proofs.BehaviourLemmas.{tenants_are_alone}
use Rattle.mte_sched.proofs.isolation.behaviours_are_alone.Goals as goal

pub returns : goal.returns
returns c s = tenants_are_alone
