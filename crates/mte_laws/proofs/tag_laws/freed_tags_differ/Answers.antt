use Rattle.mte_laws.proofs.OtherTags.{freed-tags}
use Rattle.mte_laws.proofs.tag_laws.freed_tags_differ.Goals as goal

pub returns : goal.returns
returns c = freed-tags
