use Rattle.mte_laws.proofs.StaleCalls.{stale-calls}
use Rattle.mte_laws.proofs.free_laws.stale_calls_are_served.Goals as goal

pub returns : goal.returns
returns c = stale-calls
