use Rattle.mte_laws.proofs.PartLemmas.{accepted_alone}
use Rattle.mte_laws.proofs.session_laws.accepted_alone.Goals as goal

pub returns : goal.returns
returns c = accepted_alone
