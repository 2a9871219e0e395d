use Rattle.mte_laws.proofs.Disciplines.{neighbours}
use Rattle.mte_laws.proofs.tag_laws.neighbours_differ.Goals as goal

pub returns : goal.returns
returns c = neighbours
