use Rattle.a64_step.proofs.Effects.{step_orderly}
use Rattle.a64_step.proofs.laws.steps_keep_tags.Goals as goal

pub returns : goal.returns
returns c = λ r m none. (step_orderly r m).tags none
