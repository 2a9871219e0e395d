use Rattle.mte_laws.proofs.NewChunks.{new-zero}
use Rattle.mte_laws.proofs.laws.new_chunks_are_zero.Goals as goal

pub returns : goal.returns
returns c = new-zero
