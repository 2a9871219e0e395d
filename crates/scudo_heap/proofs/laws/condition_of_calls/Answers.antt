use Rattle.scudo_heap.proofs.FirstLemmas.{served-first, served-same, served-others}
use Rattle.scudo_heap.proofs.laws.condition_of_calls.Goals as goal

pub returns-clause-first : goal.returns-clause-first
returns-clause-first c = served-first

pub returns-clause-same : goal.returns-clause-same
returns-clause-same c = served-same

pub returns-clause-others : goal.returns-clause-others
returns-clause-others c = served-others
