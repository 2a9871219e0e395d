use Rattle.std.proofs.Common.{◌≡◌, ◌+◌, arith, ◌∙◌, Some, sym, ap, subst}
use Rattle.scudo_header.specs.Classes.{size_of}
use Rattle.scudo_primary.proofs.BlockLemmas.{block-IsCell}
use Rattle.scudo_heap.specs.declared.chunk.Place.{Place}
use Rattle.scudo_heap.specs.declared.chunk.Chunk.TheVariants.{Small}
use Rattle.scudo_heap.specs.Stacks.{stack_of}
use Rattle.scudo_heap.specs.Heaps.{heap_of}
use Rattle.scudo_heap.specs.Placing.{world_of, after_place}
use Rattle.scudo_heap.specs.Allocation.{allocation_of}
use Rattle.scudo_heap.specs.Inner.{FitsIn, IsOpen}
use Rattle.scudo_heap.proofs.ServedLemmas.{block-open-in}
use Rattle.scudo_heap.proofs.ClassLemmas.{allocation_at, new-fits, none-top, after-take-some}
use Rattle.scudo_heap.proofs.classes.take_top.Goals as goal

pub place-place-requires-clause-block : goal.place-place-requires-clause-block
place-place-requires-clause-block g c =
    let o = block-open-in (g.M.Tagged.memory c.args.memory.now) c.args.stacks.now c.args.class c.in-Some.block c.requires.regions c.requires.request.class c.in-Some.ensures.block in
    let below = o.below in
    omega arith

pub place-place-requires-clause-granule : goal.place-place-requires-clause-granule
place-place-requires-clause-granule g c =
    let cell = block-IsCell c.args.class _ c.in-Some.block c.requires.request.class c.in-Some.ensures.block in
    let granule = cell.granule in
    omega arith

pub make_chunk-tag-requires-clause-place : goal.make_chunk-tag-requires-clause-place
make_chunk-tag-requires-clause-place g c = subst FitsIn (sym c.place-place.ensures)
    (new-fits c.args.class _ c.in-Some.block c.args.request c.in-Some.ensures.block c.requires.request)

pub make_chunk-tag-requires-clause-open : goal.make_chunk-tag-requires-clause-open
make_chunk-tag-requires-clause-open g c =
    let m = g.M.Tagged.memory c.args.memory.now in
    subst (λ (p : Place). IsOpen m p.block (p.block + size_of p.class)) (sym c.place-place.ensures)
    (block-open-in m c.args.stacks.now c.args.class c.in-Some.block c.requires.regions c.requires.request.class c.in-Some.ensures.block)

pub returns-in-None-clause-empty : goal.returns-in-None-clause-empty
returns-in-None-clause-empty g c = λ _. none-top _ c.in-None.ensures.answer

pub returns-in-Some-clause-made : goal.returns-in-Some-clause-made
unfolding after_place
returns-in-Some-clause-made g c = λ ms.
    let w = world_of (g.M.Tagged.memory c.args.memory.now) (heap_of c.args.cookie c.args.stacks.now ms) c.args.rgsr.now in
    let p = c.place-place.result in
    let e = c.make_chunk-tag.ensures in
    let popped = c.take.ensures.stacks ∙ ap (λ (t : Place). Rattle.scudo_heap.specs.Stacks.after_pop c.args.stacks.now t.class) (sym c.place-place.ensures) in
    let done : allocation_of (world_of (g.M.Tagged.memory c.make_chunk-tag.new.memory) (heap_of c.args.cookie c.take.new.self ms) c.make_chunk-tag.new.rgsr) (Some (Small p c.make_chunk-tag.result)) ≡ allocation_at p (after_place w c.args.request.origin p) =
    λ i. allocation_of (world_of (e.memory i) (heap_of c.args.cookie (popped i) ms) (e.rgsr i)) (Some (Small p (e.tag i))) in
    done ∙ ap (λ (t : Place). allocation_at t (after_place w c.args.request.origin t)) c.place-place.ensures
    ∙ after-take-some w w c.args.request.origin c.args.request.align c.args.request.size c.args.class c.in-Some.block (stack_of c.args.stacks.now c.args.class) c.in-Some.ensures.answer

pub returns-in-Some-clause-low_chunk : goal.returns-in-Some-clause-low_chunk
returns-in-Some-clause-low_chunk g c =
    let f = subst FitsIn (sym c.place-place.ensures)
    (new-fits c.args.class _ c.in-Some.block c.args.request c.in-Some.ensures.block c.requires.request) in
    let within = f.within in
    let m = g.M.Tagged.memory c.args.memory.now in
    let o = subst (λ (p : Place). IsOpen m p.block (p.block + size_of p.class)) (sym c.place-place.ensures)
    (block-open-in m c.args.stacks.now c.args.class c.in-Some.block c.requires.regions c.requires.request.class c.in-Some.ensures.block) in
    let below = o.below in
    (omega arith, c.make_chunk-tag.ensures.small)
