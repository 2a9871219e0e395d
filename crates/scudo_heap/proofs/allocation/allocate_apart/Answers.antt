use Rattle.std.proofs.Common.{◌∙◌, ap}
use Rattle.scudo_heap.specs.Allocation.{AllocationResult, answer_of}
use Rattle.scudo_heap.proofs.allocation.allocate_apart.Goals as goal

pub returns-clause-answer : goal.returns-clause-answer
returns-clause-answer g c = c.address_or_null.ensures ∙ ap (λ (x : AllocationResult). answer_of x.chunk) c.allocate-chunk.ensures.made

pub returns-clause-world : goal.returns-clause-world
returns-clause-world g c = ap (λ (x : AllocationResult). x.world) c.allocate-chunk.ensures.made
