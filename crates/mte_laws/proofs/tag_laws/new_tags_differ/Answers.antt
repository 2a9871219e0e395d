use Rattle.mte_laws.proofs.Disciplines.{fresh}
use Rattle.mte_laws.proofs.tag_laws.new_tags_differ.Goals as goal

pub returns : goal.returns
returns c = fresh
