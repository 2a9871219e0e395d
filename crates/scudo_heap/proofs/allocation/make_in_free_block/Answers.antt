use Rattle.std.proofs.Common.{◌∙◌, ap}
use Rattle.scudo_header.specs.Classes.{class_for}
use Rattle.scudo_heap.specs.Heaps.{heap_of}
use Rattle.scudo_heap.specs.Placing.{world_of}
use Rattle.scudo_heap.specs.Allocation.{allocate_cases}
use Rattle.scudo_heap.proofs.ClassLemmas.{after-class-allocation-first}
use Rattle.scudo_heap.proofs.allocation.make_in_free_block.Goals as goal

pub returns-in-Some-take_top-clause-made : goal.returns-in-Some-take_top-clause-made
returns-in-Some-take_top-clause-made g c =
    let p = c.args.parts.now in
    let r = c.args.request in
    let w = world_of (g.M.Tagged.memory c.args.memory.now) (heap_of p.cookie p.stacks p.maps) c.args.rgsr.now in
    after-class-allocation-first w _ r.origin r.align r.size c.in-Some.class c.in-Some-take_top.chunk (c.in-Some-take_top.ensures.made p.maps)
    ∙ ap (allocate_cases w r.origin r.align r.size) (c.in-Some.ensures.class ∙ ap class_for c.need.ensures)
