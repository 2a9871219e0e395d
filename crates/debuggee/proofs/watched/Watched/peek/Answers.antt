use Rattle.debuggee.proofs.MemoryLemmas.{kept}
use Rattle.debuggee.proofs.watched.Watched.peek.Goals as goal

pub returns : goal.returns
returns c = kept _ _ _ _ _ c.read.ensures.memory
