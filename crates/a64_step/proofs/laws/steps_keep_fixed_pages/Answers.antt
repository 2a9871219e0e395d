use Rattle.a64_step.proofs.FixedSteps.{step_keeps_fixed, run_keeps_fixed}
use Rattle.a64_step.proofs.laws.steps_keep_fixed_pages.Goals as goal

pub returns-clause-step : goal.returns-clause-step
returns-clause-step c = step_keeps_fixed

pub returns-clause-run : goal.returns-clause-run
returns-clause-run c = run_keeps_fixed
