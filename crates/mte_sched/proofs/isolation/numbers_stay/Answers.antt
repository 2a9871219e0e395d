use Rattle.mte_sched.proofs.TenantLemmas.{numbers_stay}
use Rattle.mte_sched.proofs.isolation.numbers_stay.Goals as goal

pub returns : goal.returns
returns c = numbers_stay
