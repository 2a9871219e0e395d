use Rattle.mte_laws.proofs.Disciplines.{freed-pages-refused}
use Rattle.mte_laws.proofs.tag_laws.freed_pages_are_refused.Goals as goal

pub returns : goal.returns
returns c = freed-pages-refused
