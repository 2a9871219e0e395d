use Rattle.mte_sched.proofs.FlagLemmas.{flag_is_clear}
use Rattle.mte_sched.proofs.isolation.flag_is_clear.Goals as goal

pub returns : goal.returns
returns c = flag_is_clear
