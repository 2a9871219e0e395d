use Rattle.a64_step.proofs.Effects.{step_orderly}
use Rattle.a64_step.proofs.Modes.{run_keeps_state}
use Rattle.a64_step.proofs.laws.steps_keep_pages.Goals as goal

pub returns-clause-attrs : goal.returns-clause-attrs
returns-clause-attrs c = λ r m q. (step_orderly r m).state.attrs q

pub returns-clause-left : goal.returns-clause-left
returns-clause-left c = λ r m. (step_orderly r m).state.left

pub returns-clause-limit : goal.returns-clause-limit
returns-clause-limit c = λ r m. (step_orderly r m).state.limit

pub returns-clause-whole : goal.returns-clause-whole
returns-clause-whole c = λ r m. (step_orderly r m).state.whole

pub returns-clause-run_attrs : goal.returns-clause-run_attrs
returns-clause-run_attrs c = λ n r m q. (run_keeps_state n r m).attrs q

pub returns-clause-run_left : goal.returns-clause-run_left
returns-clause-run_left c = λ n r m. (run_keeps_state n r m).left
