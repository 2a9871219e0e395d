use Rattle.mte_laws.proofs.Clearing.{freed-zero}
use Rattle.mte_laws.proofs.call_laws.freed_chunks_are_zero.Goals as goal

pub returns : goal.returns
returns c = freed-zero
