use Rattle.mte_laws.proofs.OtherTags.{other-tags}
use Rattle.mte_laws.proofs.tag_laws.other_tags_are_refused.Goals as goal

pub returns : goal.returns
returns c = other-tags
