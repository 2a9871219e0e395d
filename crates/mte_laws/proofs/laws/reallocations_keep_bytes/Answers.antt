use Rattle.mte_laws.proofs.Reallocs.{realloc-keeps-bytes}
use Rattle.mte_laws.proofs.laws.reallocations_keep_bytes.Goals as goal

pub returns : goal.returns
returns c = realloc-keeps-bytes
