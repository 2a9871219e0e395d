use Rattle.mte_sched.proofs.IsolationLemmas.{ledger_follows}
use Rattle.mte_sched.proofs.isolation.ledger_follows.Goals as goal

pub returns : goal.returns
returns c = ledger_follows
