use Rattle.std.proofs.Common.{◌≡◌, ◌≢◌, ◌∙◌, [], sym, ap}
use Rattle.std.proofs.lemmas.Bool.{cond-true, cond-false}
use Rattle.scudo_heap.specs.Stacks.{StackState, stack_of, after_carve}
use Rattle.scudo_heap.specs.Heaps.{heap_of}
use Rattle.scudo_heap.specs.Placing.{World, world_of, after_grow, more_pages, next_page, heap_attrs}
use Rattle.mte_tags.specs.Memory.{with_new_pages}
use Rattle.scudo_heap.specs.Allocation.{no_chunk, after_take}
use Rattle.scudo_heap.proofs.ClassLemmas.{after-class-allocation-refused, in_class-after-grow}
use Rattle.scudo_heap.proofs.classes.grow_and_take.Goals as goal

pub returns-then-not-grow-clause-made : goal.returns-then-not-grow-clause-made
returns-then-not-grow-clause-made g c = λ ms.
    let m = g.M.Tagged.memory c.args.memory.now in
    let s = c.args.stacks.now in
    let no = c.if-not-grow.true in
    let memory : g.M.Tagged.memory c.grow.new.memory ≡ m = c.grow.ensures.memory ∙ cond-false _ _ _ no in
    let stacks : c.grow.new.stacks ≡ s = c.grow.ensures.stacks ∙ cond-false _ _ _ no in
    let w = world_of m (heap_of c.args.cookie s ms) c.args.rgsr.now in
    let same : world_of (g.M.Tagged.memory c.grow.new.memory) (heap_of c.args.cookie c.grow.new.stacks ms) c.args.rgsr.now ≡ w =
    λ i. world_of (memory i) (heap_of c.args.cookie (stacks i) ms) c.args.rgsr.now in
    ap no_chunk same ∙ after-class-allocation-refused w c.args.request.origin c.args.request.align c.args.request.size c.args.class c.requires.empty (sym no ∙ c.grow.ensures.answer)

pub returns-clause-made : goal.returns-clause-made
unfolding after_grow
returns-clause-made g c = λ ms.
    let m = g.M.Tagged.memory c.args.memory.now in
    let s = c.args.stacks.now in
    let k = c.args.class in
    let n = more_pages k in
    let yes = c.if-not-grow.false in
    let w = world_of m (heap_of c.args.cookie s ms) c.args.rgsr.now in
    let memory : g.M.Tagged.memory c.grow.new.memory ≡ with_new_pages m (next_page s k) n heap_attrs = c.grow.ensures.memory ∙ cond-true _ _ _ yes in
    let stacks : c.grow.new.stacks ≡ after_carve s k n = c.grow.ensures.stacks ∙ cond-true _ _ _ yes in
    let v = world_of (g.M.Tagged.memory c.grow.new.memory) (heap_of c.args.cookie c.grow.new.stacks ms) c.args.rgsr.now in
    let same : v ≡ after_grow w k = λ i. world_of (memory i) (heap_of c.args.cookie (stacks i) ms) c.args.rgsr.now in
    let some : stack_of (after_grow w k).heap.stacks k ≢ [] = λ z. c.grow.ensures.some yes (ap (λ (t : StackState). stack_of t k) stacks ∙ z) in
    c.take_top.ensures.made ms
    ∙ ap (λ (t : World). after_take t t c.args.request.origin c.args.request.align c.args.request.size k (stack_of t.heap.stacks k)) same
    ∙ in_class-after-grow w c.args.request.origin c.args.request.align c.args.request.size k c.requires.empty (sym yes ∙ c.grow.ensures.answer) some
