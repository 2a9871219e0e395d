use Rattle.mte_laws.proofs.LargeFrees.{large-frees}
use Rattle.mte_laws.proofs.free_laws.large_double_frees_abort.Goals as goal

pub returns : goal.returns
returns c = large-frees
