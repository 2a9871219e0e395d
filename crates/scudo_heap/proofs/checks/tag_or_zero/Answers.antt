use Rattle.scudo_heap.proofs.OpenLemmas.{tag_loaded}
use Rattle.scudo_heap.proofs.checks.tag_or_zero.Goals as goal

pub returns-in-Err-clause-tag : goal.returns-in-Err-clause-tag
returns-in-Err-clause-tag g c = λ o. (let e = tag_loaded _ _ _ c.load_tag.ensures.answer o in let was = c.in-Err.is in cc)

pub returns-in-Ok-clause-tag : goal.returns-in-Ok-clause-tag
returns-in-Ok-clause-tag g c = λ o. (let e = tag_loaded _ _ _ c.load_tag.ensures.answer o in let was = c.in-Ok.is in cc)
