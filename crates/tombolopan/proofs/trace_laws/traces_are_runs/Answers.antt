use Rattle.tombolopan.proofs.Runs.{is_run}
use Rattle.tombolopan.proofs.trace_laws.traces_are_runs.Goals as goal

pub returns : goal.returns
returns c = λ n q r m e. is_run n q r m e
