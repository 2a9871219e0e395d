use Rattle.mte_sched.proofs.TenantLemmas.{slice-bounded, turn-bounded}
use Rattle.mte_sched.proofs.isolation.slices_are_bounded.Goals as goal

pub returns-clause-machine : goal.returns-clause-machine
returns-clause-machine c = slice-bounded

pub returns-clause-host : goal.returns-clause-host
returns-clause-host c = turn-bounded
