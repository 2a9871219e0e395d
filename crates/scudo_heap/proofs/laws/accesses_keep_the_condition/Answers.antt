use Rattle.scudo_heap.proofs.FirstLemmas.{served-read, served-write, served-tags}
use Rattle.scudo_heap.proofs.laws.accesses_keep_the_condition.Goals as goal

pub returns-clause-read : goal.returns-clause-read
returns-clause-read c = served-read

pub returns-clause-write : goal.returns-clause-write
returns-clause-write c = served-write

pub returns-clause-tags : goal.returns-clause-tags
returns-clause-tags c = served-tags
