use Rattle.std.proofs.Common.{◌≡◌, ◌+◌, ◌-◌, ◌*◌, ◌∙◌, Some, ap, arith}
use Rattle.std.proofs.Math.Nat.{div-mul-le_self}
use Rattle.common.specs.declared.limits.TheConstants.{PAGE_SIZE}
use Rattle.scudo_heap.specs.declared.chunk.Chunk.TheVariants.{Large}
use Rattle.scudo_heap.specs.Heaps.{heap_of}
use Rattle.scudo_heap.specs.Placing.{world_of, pages_for}
use Rattle.scudo_heap.specs.Large.{mapping_for, large_placed}
use Rattle.scudo_heap.specs.Allocation.{allocation_of, no_chunk, after_large_allocation}
use Rattle.scudo_heap.proofs.MapLemmas.{is-at}
use Rattle.scudo_heap.proofs.LargeLemmas.{after_map_chunk, request-large, after-large-allocation-none, after-large-allocation-refused, after-large-allocation-made}
use Rattle.scudo_heap.proofs.pages.take_pages.Goals as goal

pub returns-in_default-clause-made : goal.returns-in_default-clause-made
returns-in_default-clause-made g c = λ s r.
    let w = world_of (g.M.Tagged.memory c.args.memory.now) (heap_of c.args.cookie s c.args.maps.now) r in
    let q = c.args.request in
    after-large-allocation-none w q.origin q.align q.size (pages_for c.need.result) c.in_default.ensures.place
    ∙ ap (λ n. after_large_allocation w q.origin q.align q.size (pages_for n)) c.need.ensures

pub returns-then-pages-pages_left-clause-made : goal.returns-then-pages-pages_left-clause-made
returns-then-pages-pages_left-clause-made g c = λ s r.
    let w = world_of (g.M.Tagged.memory c.args.memory.now) (heap_of c.args.cookie s c.args.maps.now) r in
    let q = c.args.request in
    let left = c.pages_left.ensures.answer in
    let more = c.if-pages-pages_left.true in
    ap (λ t. no_chunk (world_of t (heap_of c.args.cookie s c.args.maps.now) r)) c.pages_left.ensures.memory
    ∙ after-large-allocation-refused w q.origin q.align q.size (pages_for c.need.result) c.in-Some.start c.in-Some.ensures.place (omega arith)
    ∙ ap (λ n. after_large_allocation w q.origin q.align q.size (pages_for n)) c.need.ensures

pub overflow_add-end : goal.overflow_add-end
overflow_add-end g c =
    let w = is-at c.args.maps.now.mappings (pages_for c.need.result) c.in-Some.start c.in-Some.ensures.fits in
    let below = w.below in
    omega arith

pub overflow_mul-user : goal.overflow_mul-user
overflow_mul-user g c =
    let w = is-at c.args.maps.now.mappings (pages_for c.need.result) c.in-Some.start c.in-Some.ensures.fits in
    let below = w.below in
    let low = div-mul-le_self (c.in-Some.start + PAGE_SIZE * pages_for c.need.result - c.args.request.size) c.args.request.align in
    omega arith

pub map_chunk-requires-clause-large : goal.map_chunk-requires-clause-large
map_chunk-requires-clause-large g c =
    let w = is-at c.args.maps.now.mappings (pages_for c.need.result) c.in-Some.start c.in-Some.ensures.fits in
    request-large c.in-Some.start c.need.result c.args.request w.aligned w.above w.below c.need.ensures c.requires.request

pub returns-clause-made : goal.returns-clause-made
unfolding large_placed
returns-clause-made g c = λ s r.
    let m = g.M.Tagged.memory c.args.memory.now in
    let left = c.pages_left.ensures.answer in
    let enough = c.if-pages-pages_left.false in
    let q = c.args.request in
    let w = world_of m (heap_of c.args.cookie s c.args.maps.now) r in
    let v = world_of (g.M.Tagged.memory c.pages_left.new.self) (heap_of c.args.cookie s c.args.maps.now) r in
    let n = mapping_for c.in-Some.start (pages_for c.need.result) q.align q.size in
    let e = c.map_chunk.ensures in
    let done : allocation_of (world_of (g.M.Tagged.memory c.map_chunk.new.memory) (heap_of c.args.cookie s c.map_chunk.new.maps) r) (Some (Large n q.size)) ≡ after_map_chunk v q.origin q.size n =
    λ i. allocation_of (world_of (e.memory i) (heap_of c.args.cookie s (e.maps i)) r) (Some (Large n q.size)) in
    done ∙ ap (λ t. after_map_chunk (world_of t (heap_of c.args.cookie s c.args.maps.now) r) q.origin q.size n) c.pages_left.ensures.memory
    ∙ after-large-allocation-made w q.origin q.align q.size (pages_for c.need.result) c.in-Some.start c.in-Some.ensures.place (omega arith)
    ∙ ap (λ k. after_large_allocation w q.origin q.align q.size (pages_for k)) c.need.ensures

pub returns-clause-low_chunk : goal.returns-clause-low_chunk
returns-clause-low_chunk g c =
    let w = is-at c.args.maps.now.mappings (pages_for c.need.result) c.in-Some.start c.in-Some.ensures.fits in
    let last = w.below in
    let large = request-large c.in-Some.start c.need.result c.args.request w.aligned w.above w.below c.need.ensures c.requires.request in
    let below = large.below in
    omega arith
