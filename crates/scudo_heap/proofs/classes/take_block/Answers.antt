use Rattle.std.proofs.Common.{◌∙◌, refl, ap}
use Rattle.scudo_heap.specs.Heaps.{heap_of}
use Rattle.scudo_heap.specs.Placing.{world_of}
use Rattle.scudo_heap.specs.Allocation.{allocation_of, after_class_allocation}
use Rattle.scudo_heap.proofs.ClassLemmas.{after-class-allocation-first}
use Rattle.scudo_heap.proofs.classes.take_block.Goals as goal

pub returns-in-Some-clause-made : goal.returns-in-Some-clause-made
returns-in-Some-clause-made g c = λ ms. after-class-allocation-first _ _ _ _ _ _ _ (c.in-Some.ensures.made ms)

pub returns-clause-made : goal.returns-clause-made
returns-clause-made g c = λ ms.
    let e = c.in_default.ensures in
    let x = world_of (g.M.Tagged.memory c.grow_and_take-chunk.new.memory) (heap_of c.args.cookie c.grow_and_take-chunk.new.stacks ms) c.grow_and_take-chunk.new.rgsr in
    ap (allocation_of x) c.by_fields.ensures ∙ c.grow_and_take-chunk.ensures.made ms
    ∙ (λ i. after_class_allocation (world_of (e.memory refl i) (heap_of c.args.cookie (e.stacks refl i) ms) (e.rgsr refl i)) c.args.request.origin c.args.request.align c.args.request.size c.args.class)
