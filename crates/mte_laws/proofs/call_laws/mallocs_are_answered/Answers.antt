use Rattle.mte_laws.proofs.Requests.{answered}
use Rattle.mte_laws.proofs.call_laws.mallocs_are_answered.Goals as goal

pub returns : goal.returns
returns c = answered
