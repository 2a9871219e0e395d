use Rattle.a64_step.proofs.Effects.{step_orderly}
use Rattle.a64_step.proofs.Modes.{run_keeps_state}
use Rattle.a64_step.proofs.laws.steps_keep_tag_mode.Goals as goal

pub returns-clause-mode : goal.returns-clause-mode
returns-clause-mode c = λ r m. (step_orderly r m).state.mode

pub returns-clause-flag : goal.returns-clause-flag
returns-clause-flag c = λ r m s. (step_orderly r m).state.flag s

pub returns-clause-run_mode : goal.returns-clause-run_mode
returns-clause-run_mode c = λ n r m. (run_keeps_state n r m).mode

pub returns-clause-run_flag : goal.returns-clause-run_flag
returns-clause-run_flag c = λ n r m s. (run_keeps_state n r m).flag s
