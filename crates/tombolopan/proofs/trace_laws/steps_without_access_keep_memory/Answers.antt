use Rattle.tombolopan.proofs.WithoutAccess.{step_without_access}
use Rattle.tombolopan.proofs.trace_laws.steps_without_access_keep_memory.Goals as goal

pub returns : goal.returns
returns c = λ r m e. step_without_access r m e
