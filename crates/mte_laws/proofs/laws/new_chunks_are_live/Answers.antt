use Rattle.mte_laws.proofs.NewChunks.{new-live, sizes-and-alignments}
use Rattle.mte_laws.proofs.Moves.{reallocated-live}
use Rattle.mte_laws.proofs.laws.new_chunks_are_live.Goals as goal

pub returns-clause-chunks : goal.returns-clause-chunks
returns-clause-chunks c = new-live

pub returns-clause-sizes : goal.returns-clause-sizes
returns-clause-sizes c = sizes-and-alignments

pub returns-clause-reallocated : goal.returns-clause-reallocated
returns-clause-reallocated c = reallocated-live
