use Rattle.mte_laws.proofs.Disciplines.{guarded}
use Rattle.mte_laws.proofs.tag_laws.chunks_are_guarded.Goals as goal

pub returns : goal.returns
returns c = guarded
