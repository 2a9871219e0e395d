use Rattle.mte_laws.proofs.Disciplines.{chunks-tagged}
use Rattle.mte_laws.proofs.tag_laws.chunks_are_tagged.Goals as goal

pub returns : goal.returns
returns c = chunks-tagged
