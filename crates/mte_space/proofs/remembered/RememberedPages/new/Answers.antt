use Rattle.mte_space.proofs.RememberedSteps.{nothing_remembered}
use Rattle.mte_space.proofs.remembered.RememberedPages.new.Goals as goal

pub returns : goal.returns
returns c = λ m. nothing_remembered m _ c.in_ok-pages.ensures.ok
