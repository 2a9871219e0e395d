use Rattle.std.proofs.Common.{◌∙◌, ap}
use Rattle.scudo_header.specs.declared.headers.Origin.TheVariants.{Malloc}
use Rattle.scudo_heap.specs.Placing.{world_of}
use Rattle.scudo_heap.specs.Allocation.{answer_of, after_allocate, after_malloc}
use Rattle.scudo_heap.proofs.CallSteps.{least-align}
use Rattle.scudo_heap.proofs.PartLemmas.{parts-of, sound-after-address}
use Rattle.scudo_heap.proofs.heap.Heap.malloc.Goals as goal

pub returns-clause-answer : goal.returns-clause-answer
unfolding after_malloc
returns-clause-answer g c =
    let m = g.M.Tagged.memory c.args.memory.now in
    c.allocate_address.ensures.answer
    ∙ ap (λ h. answer_of (after_allocate (world_of m h c.args.rgsr.now) Malloc 16 c.args.size).chunk) c.self.view_is

pub returns-clause-world : goal.returns-clause-world
unfolding after_malloc
returns-clause-world g c =
    let m = g.M.Tagged.memory c.args.memory.now in
    c.allocate_address.ensures.world
    ∙ ap (λ h. (after_allocate (world_of m h c.args.rgsr.now) Malloc 16 c.args.size).world) c.self.view_is

pub invariant_of-self : goal.invariant_of-self
invariant_of-self g c = parts-of _ (sound-after-address _ _ _ _ _ _ _ _ c.self.view_is c.self.invariant c.requires.served least-align c.allocate_address.ensures.world)

pub returns-clause-served : goal.returns-clause-served
returns-clause-served g c = (sound-after-address _ _ _ _ _ _ _ _ c.self.view_is c.self.invariant c.requires.served least-align c.allocate_address.ensures.world).owned
