use Rattle.mte_laws.proofs.LineLemmas.{lines_may_be_left_out}
use Rattle.mte_laws.proofs.session_laws.lines_may_be_left_out.Goals as goal

pub returns : goal.returns
returns c = lines_may_be_left_out
