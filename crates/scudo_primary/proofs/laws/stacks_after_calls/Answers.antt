use Rattle.scudo_primary.specs.Caches.{entries_of, after_refill}
use Rattle.scudo_primary.proofs.ClassLemmas.{lists-taken, lists-put}
use Rattle.scudo_primary.proofs.CacheLaws.{one-stack-taken, one-stack-put, used-taken}
use Rattle.scudo_primary.proofs.laws.stacks_after_calls.Goals as goal

pub returns-clause-take : goal.returns-clause-take
returns-clause-take c = one-stack-taken

pub returns-clause-used : goal.returns-clause-used
returns-clause-used c = λ v p k b e. used-taken k (after_refill k (entries_of v k) p) b e

pub returns-clause-put : goal.returns-clause-put
returns-clause-put c = one-stack-put

pub returns-clause-lists_taken : goal.returns-clause-lists_taken
returns-clause-lists_taken c = λ v p k n. lists-taken k (entries_of v k) p n

pub returns-clause-lists_put : goal.returns-clause-lists_put
returns-clause-lists_put c = λ v p k b l. lists-put k b (entries_of v k) p l
