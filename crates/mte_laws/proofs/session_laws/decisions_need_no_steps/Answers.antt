use Rattle.mte_laws.proofs.PartLemmas.{decisions_need_no_steps}
use Rattle.mte_laws.proofs.session_laws.decisions_need_no_steps.Goals as goal

pub returns : goal.returns
returns c = decisions_need_no_steps
