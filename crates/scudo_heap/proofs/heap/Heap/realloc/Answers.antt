use Rattle.std.proofs.Common.{◌≡◌, ◌∙◌, Ok, Err, sym, ap}
use Rattle.scudo_heap.specs.Heaps.{heap_of}
use Rattle.scudo_heap.specs.Placing.{world_of}
use Rattle.scudo_heap.specs.Allocation.{AllocationResult, allocation_of, answer_of}
use Rattle.scudo_heap.specs.Realloc.{ReallocResult, realloc_answer, realloc_cases, checked_realloc_cases, after_realloc}
use Rattle.scudo_heap.proofs.FoundLemmas.{check-pointer-is, check-plain}
use Rattle.scudo_heap.proofs.ReallocLemmas.{realloc-null, realloc-by}
use Rattle.scudo_heap.proofs.PartLemmas.{parts-of, sound-after-realloc}
use Rattle.scudo_heap.proofs.heap.Heap.realloc.Given as given
use Rattle.scudo_heap.proofs.heap.Heap.realloc.Goals as goal

pub returns-then-pointer-eq0-clause-answer : goal.returns-then-pointer-eq0-clause-answer
returns-then-pointer-eq0-clause-answer g c =
    let w = world_of (g.M.Tagged.memory c.args.memory.now) c.args.self.now c.args.rgsr.now in
    ap (λ n. Ok n) c.malloc.ensures.answer ∙ ap (λ (r : ReallocResult). realloc_answer r.result) (realloc-null w c.args.pointer c.args.size c.if-pointer-eq0.true)

pub returns-then-pointer-eq0-clause-world : goal.returns-then-pointer-eq0-clause-world
returns-then-pointer-eq0-clause-world g c =
    let w = world_of (g.M.Tagged.memory c.args.memory.now) c.args.self.now c.args.rgsr.now in
    c.malloc.ensures.world ∙ ap (λ (r : ReallocResult). r.world) (realloc-null w c.args.pointer c.args.size c.if-pointer-eq0.true)

pub reallocate-chunk-requires-clause-found : goal.reallocate-chunk-requires-clause-found
reallocate-chunk-requires-clause-found g c = check-pointer-is (g.M.Tagged.memory c.args.memory.now) _ c.plain.result c.in-Ok.found (sym c.in-Ok.ensures.answer)

refused : (g : given.Over) (c : goal.In-Err g) → (let w = world_of (g.M.Tagged.memory c.args.memory.now) c.args.self.now c.args.rgsr.now in checked_realloc_cases w c.args.size (Err c.in-Err.abort) ≡ after_realloc w c.args.pointer c.args.size)
refused g c = realloc-by _ c.args.pointer c.args.size _ c.if-pointer-eq0.false (check-plain _ _ _ _ _ _ c.in-Err.ensures.answer c.self.view_is c.plain.ensures)

reallocated : (g : given.Over) (c : goal.After-address_or_null g) → (let w = world_of (g.M.Tagged.memory c.args.memory.now) c.args.self.now c.args.rgsr.now in checked_realloc_cases w c.args.size (Ok c.in-Ok.found) ≡ after_realloc w c.args.pointer c.args.size)
reallocated g c = realloc-by _ c.args.pointer c.args.size _ c.if-pointer-eq0.false (check-plain _ _ _ _ _ _ c.in-Ok.ensures.answer c.self.view_is c.plain.ensures)

made : (g : given.Over) (c : goal.After-address_or_null g)
    → allocation_of (world_of (g.M.Tagged.memory c.reallocate-chunk.new.memory) (heap_of c.reallocate-chunk.new.parts.cookie c.reallocate-chunk.new.parts.stacks c.reallocate-chunk.new.parts.maps) c.reallocate-chunk.new.rgsr) c.reallocate-chunk.result
    ≡ realloc_cases (world_of (g.M.Tagged.memory c.args.memory.now) c.args.self.now c.args.rgsr.now) c.in-Ok.found c.args.size
made g c =
    let h = heap_of c.self.inside.parts.cookie c.self.inside.parts.stacks c.self.inside.parts.maps in
    c.reallocate-chunk.ensures.made
    ∙ ap (λ t. realloc_cases (world_of t h c.args.rgsr.now) c.in-Ok.found c.args.size) c.find_chunk.ensures.memory
    ∙ ap (λ k. realloc_cases (world_of (g.M.Tagged.memory c.args.memory.now) k c.args.rgsr.now) c.in-Ok.found c.args.size) c.self.view_is

pub returns-in-Err-clause-answer : goal.returns-in-Err-clause-answer
returns-in-Err-clause-answer g c = ap (λ (r : ReallocResult). realloc_answer r.result) (refused g c)

pub returns-in-Err-clause-world : goal.returns-in-Err-clause-world
returns-in-Err-clause-world g c = ap (λ t. world_of t c.args.self.now c.args.rgsr.now) c.find_chunk.ensures.memory ∙ ap (λ (r : ReallocResult). r.world) (refused g c)

pub returns-in-Ok-clause-answer : goal.returns-in-Ok-clause-answer
returns-in-Ok-clause-answer g c =
    ap (λ a. Ok a) (c.address_or_null.ensures ∙ ap (λ (x : AllocationResult). answer_of x.chunk) (made g c))
    ∙ ap (λ (r : ReallocResult). realloc_answer r.result) (reallocated g c)

pub returns-in-Ok-clause-world : goal.returns-in-Ok-clause-world
returns-in-Ok-clause-world g c = ap (λ (x : AllocationResult). x.world) (made g c) ∙ ap (λ (r : ReallocResult). r.world) (reallocated g c)

pub invariant_of-self : goal.invariant_of-self
invariant_of-self g c = parts-of _ (sound-after-realloc _ _ _ _ _ _ _ _ _ _ c.self.view_is c.self.invariant c.requires.served c.find_chunk.ensures.memory c.in-Ok.ensures.answer c.reallocate-chunk.ensures.made)

pub returns-in-Ok-clause-served : goal.returns-in-Ok-clause-served
returns-in-Ok-clause-served g c = (sound-after-realloc _ _ _ _ _ _ _ _ _ _ c.self.view_is c.self.invariant c.requires.served c.find_chunk.ensures.memory c.in-Ok.ensures.answer c.reallocate-chunk.ensures.made).owned
