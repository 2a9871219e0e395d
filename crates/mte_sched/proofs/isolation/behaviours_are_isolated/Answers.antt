use Rattle.mte_sched.proofs.BehaviourLemmas.{tenants_are_isolated}
use Rattle.mte_sched.proofs.isolation.behaviours_are_isolated.Goals as goal

pub returns : goal.returns
returns c s = tenants_are_isolated
