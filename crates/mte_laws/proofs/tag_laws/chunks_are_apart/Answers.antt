use Rattle.mte_laws.proofs.Disciplines.{apart}
use Rattle.mte_laws.proofs.tag_laws.chunks_are_apart.Goals as goal

pub returns : goal.returns
returns c = apart
