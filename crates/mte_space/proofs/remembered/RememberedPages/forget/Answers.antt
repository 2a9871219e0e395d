use Rattle.std.proofs.Common.{refl}
use Rattle.mte_space.proofs.RememberedSteps.{nothing_remembered}
use Rattle.mte_space.proofs.remembered.RememberedPages.forget.Goals as goal

pub returns : goal.returns
returns c = λ m. nothing_remembered m _ refl
