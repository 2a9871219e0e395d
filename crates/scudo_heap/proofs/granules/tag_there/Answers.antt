use Rattle.scudo_heap.proofs.OpenLemmas.{tag_loaded}
use Rattle.scudo_heap.proofs.granules.tag_there.Goals as goal

pub returns-in-Err-clause-tag : goal.returns-in-Err-clause-tag
returns-in-Err-clause-tag g c = let e = tag_loaded _ _ _ c.load_tag.ensures.answer c.requires.open in let was = c.in-Err.is in cc
