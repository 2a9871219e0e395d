use Rattle.mte_laws.proofs.DrawnTags.{tags-drawn}
use Rattle.mte_laws.proofs.tag_laws.allowed_tags_are_drawn.Goals as goal

pub returns : goal.returns
returns c = tags-drawn
