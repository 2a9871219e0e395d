use Rattle.mte_laws.proofs.FreedHeaders.{double-frees}
use Rattle.mte_laws.proofs.free_laws.double_frees_abort.Goals as goal

pub returns : goal.returns
returns c = double-frees
