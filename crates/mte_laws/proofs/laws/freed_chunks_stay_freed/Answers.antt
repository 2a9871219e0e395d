use Rattle.mte_laws.proofs.Turns.{freed-in-turns}
use Rattle.mte_laws.proofs.laws.freed_chunks_stay_freed.Goals as goal

pub returns : goal.returns
returns c = freed-in-turns
