use Rattle.mte_laws.proofs.Uses.{chunks-usable}
use Rattle.mte_laws.proofs.laws.chunks_may_be_used.Goals as goal

pub returns : goal.returns
returns c = chunks-usable
