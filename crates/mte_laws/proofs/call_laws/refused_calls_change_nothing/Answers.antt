use Rattle.mte_laws.proofs.Refusals.{refused}
use Rattle.mte_laws.proofs.call_laws.refused_calls_change_nothing.Goals as goal

pub returns : goal.returns
returns c = refused
