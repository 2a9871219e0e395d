use Rattle.std.proofs.Common.{◌≡◌, ◌*◌, ◌∙◌, ap, inl, inr, arith}
use Rattle.std.proofs.lemmas.Bool.{cases_lt}
use Rattle.scudo_header.specs.declared.headers.Origin.TheVariants.{Malloc}
use Rattle.scudo_header.specs.declared.config.TheConstants.{MAX_REQUEST}
use Rattle.scudo_heap.specs.Placing.{world_of}
use Rattle.scudo_heap.specs.Allocation.{AllocationResult, answer_of, no_chunk, after_allocate, after_malloc, after_calloc}
use Rattle.scudo_heap.proofs.AllocationLemmas.{after-allocate-over}
use Rattle.scudo_heap.proofs.heap.Heap.calloc.Given as given
use Rattle.scudo_heap.proofs.heap.Heap.calloc.Goals as goal

too_large : (g : given.Over) (c : goal.In-None g) → (let w = world_of (g.M.Tagged.memory c.args.memory.now) c.args.self.now c.args.rgsr.now in no_chunk w ≡ after_calloc w c.args.count c.args.size)
unfolding after_calloc
too_large g c =
    let w = world_of (g.M.Tagged.memory c.args.memory.now) c.args.self.now c.args.rgsr.now in
    elim (cases_lt MAX_REQUEST (c.args.count * c.args.size)) [
      | inl l ↦ after-allocate-over w Malloc 16 (c.args.count * c.args.size) l
      | inr l ↦ absurd (c.in-None.ensures (omega arith))
    ]

pub returns-in-None-clause-answer : goal.returns-in-None-clause-answer
returns-in-None-clause-answer g c = ap (λ (x : AllocationResult). answer_of x.chunk) (too_large g c)

pub returns-in-None-clause-world : goal.returns-in-None-clause-world
returns-in-None-clause-world g c = ap (λ (x : AllocationResult). x.world) (too_large g c)

pub returns-in-Some-clause-answer : goal.returns-in-Some-clause-answer
unfolding after_calloc after_malloc
returns-in-Some-clause-answer g c =
    let m = g.M.Tagged.memory c.args.memory.now in
    let w = world_of m c.args.self.now c.args.rgsr.now in
    c.malloc.ensures.answer ∙ ap (λ n. answer_of (after_allocate w Malloc 16 n).chunk) c.in-Some.ensures.1

pub returns-in-Some-clause-world : goal.returns-in-Some-clause-world
unfolding after_calloc after_malloc
returns-in-Some-clause-world g c =
    let m = g.M.Tagged.memory c.args.memory.now in
    let w = world_of m c.args.self.now c.args.rgsr.now in
    c.malloc.ensures.world ∙ ap (λ n. (after_allocate w Malloc 16 n).world) c.in-Some.ensures.1
