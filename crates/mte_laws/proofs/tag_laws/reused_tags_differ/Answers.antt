use Rattle.mte_laws.proofs.Disciplines.{reused-differ}
use Rattle.mte_laws.proofs.tag_laws.reused_tags_differ.Goals as goal

pub returns : goal.returns
returns c = reused-differ
