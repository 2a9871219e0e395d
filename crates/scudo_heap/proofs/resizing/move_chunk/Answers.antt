use Rattle.std.proofs.Common.{◌≡◌, ◌+◌, min, Some, None, sym, ap, subst, ◌∙◌, arith}
use Rattle.scudo_heap.specs.Heaps.{heap_of}
use Rattle.scudo_heap.specs.Placing.{world_of}
use Rattle.scudo_heap.specs.Allocation.{allocation_of, no_chunk, after_malloc}
use Rattle.scudo_heap.specs.Checks.{size_found}
use Rattle.scudo_heap.specs.Freeing.{without_chunk}
use Rattle.scudo_heap.specs.Realloc.{user_of, user_of_chunk, after_copy, with_copied_bytes, move_cases, after_move}
use Rattle.scudo_heap.specs.Inner.{AreApart}
use Rattle.scudo_heap.proofs.BesideLemmas.{malloc-beside, malloc-none, found-within, beside-apart, open-in}
use Rattle.scudo_header.specs.declared.headers.Origin.TheVariants.{Malloc}
use Rattle.scudo_heap.proofs.CallSteps.{least-align, copied-rest}
use Rattle.scudo_heap.specs.Served.{HeapOwnsItsPages}
use Rattle.scudo_heap.proofs.FirstLemmas.{served-same}
use Rattle.scudo_heap.proofs.PartLemmas.{sound-made}
use Rattle.scudo_heap.proofs.resizing.move_chunk.Goals as goal

pub returns-in_default-clause-made : goal.returns-in_default-clause-made
unfolding after_move after_malloc
returns-in_default-clause-made g c =
    let w = world_of (g.M.Tagged.memory c.args.memory.now) (heap_of c.args.parts.now.cookie c.args.parts.now.stacks c.args.parts.now.maps) c.args.rgsr.now in
    let x = world_of (g.M.Tagged.memory c.allocate.new.memory) (heap_of c.allocate.new.parts.cookie c.allocate.new.parts.stacks c.allocate.new.parts.maps) c.allocate.new.rgsr in
    let made : allocation_of x None ≡ after_malloc w c.args.size = c.in_default.ensures.made in
    ap no_chunk (malloc-none w x c.args.size made) ∙ ap (move_cases w c.args.found c.args.size) made

pub copy_bytes-requires-clause-source : goal.copy_bytes-requires-clause-source
unfolding after_malloc
copy_bytes-requires-clause-source g c =
    let w = world_of (g.M.Tagged.memory c.args.memory.now) (heap_of c.args.parts.now.cookie c.args.parts.now.stacks c.args.parts.now.maps) c.args.rgsr.now in
    let x = world_of (g.M.Tagged.memory c.allocate.new.memory) (heap_of c.allocate.new.parts.cookie c.allocate.new.parts.stacks c.allocate.new.parts.maps) c.allocate.new.rgsr in
    let v = sound-made w x Malloc 16 c.args.size (Some c.in-Some.chunk) c.requires.sound least-align c.in-Some.ensures.made in
    let b = malloc-beside w x c.args.size c.args.found c.in-Some.chunk c.requires.sound.parts.stacks c.requires.sound.parts.mappings v.owned c.requires.size.some c.requires.size.most c.requires.found c.in-Some.ensures.made in
    let size = c.size.ensures in
    let least = c.min-count.ensures in
    let user = c.user.ensures in
    let in_it = found-within x.memory x.heap c.args.found c.min-count.result v.owned v.parts.mappings b.found (omega arith) in
    open-in x.memory (user_of c.args.found) (user_of c.args.found + c.min-count.result) _ _ in_it.bytes (omega arith) (omega arith)

pub copy_bytes-requires-clause-target : goal.copy_bytes-requires-clause-target
unfolding after_malloc
copy_bytes-requires-clause-target g c =
    let w = world_of (g.M.Tagged.memory c.args.memory.now) (heap_of c.args.parts.now.cookie c.args.parts.now.stacks c.args.parts.now.maps) c.args.rgsr.now in
    let x = world_of (g.M.Tagged.memory c.allocate.new.memory) (heap_of c.allocate.new.parts.cookie c.allocate.new.parts.stacks c.allocate.new.parts.maps) c.allocate.new.rgsr in
    let v = sound-made w x Malloc 16 c.args.size (Some c.in-Some.chunk) c.requires.sound least-align c.in-Some.ensures.made in
    let b = malloc-beside w x c.args.size c.args.found c.in-Some.chunk c.requires.sound.parts.stacks c.requires.sound.parts.mappings v.owned c.requires.size.some c.requires.size.most c.requires.found c.in-Some.ensures.made in
    let least = c.min-count.ensures in
    let user = c.user-2.ensures in
    open-in x.memory (user_of_chunk c.in-Some.chunk) (user_of_chunk c.in-Some.chunk + c.args.size) _ _ b.bytes (omega arith) (omega arith)

pub copy_bytes-requires-clause-apart : goal.copy_bytes-requires-clause-apart
unfolding after_malloc
copy_bytes-requires-clause-apart g c =
    let w = world_of (g.M.Tagged.memory c.args.memory.now) (heap_of c.args.parts.now.cookie c.args.parts.now.stacks c.args.parts.now.maps) c.args.rgsr.now in
    let x = world_of (g.M.Tagged.memory c.allocate.new.memory) (heap_of c.allocate.new.parts.cookie c.allocate.new.parts.stacks c.allocate.new.parts.maps) c.allocate.new.rgsr in
    let v = sound-made w x Malloc 16 c.args.size (Some c.in-Some.chunk) c.requires.sound least-align c.in-Some.ensures.made in
    let b = malloc-beside w x c.args.size c.args.found c.in-Some.chunk c.requires.sound.parts.stacks c.requires.sound.parts.mappings v.owned c.requires.size.some c.requires.size.most c.requires.found c.in-Some.ensures.made in
    let size = c.size.ensures in
    let least = c.min-count.ensures in
    let count = c.min-count.result in
    let in_it = found-within x.memory x.heap c.args.found count v.owned v.parts.mappings b.found (omega arith) in
    let apart = beside-apart x.memory x.memory x.heap c.args.found c.in-Some.chunk c.args.size count count b in_it (omega arith) (omega arith) in
    subst (λ a. AreApart a c.user-2.result count) (sym c.user.ensures) (subst (λ a. AreApart (user_of c.args.found) a count) (sym c.user-2.ensures) apart)

pub free_found-requires-clause-found : goal.free_found-requires-clause-found
unfolding after_malloc
free_found-requires-clause-found g c =
    let w = world_of (g.M.Tagged.memory c.args.memory.now) (heap_of c.args.parts.now.cookie c.args.parts.now.stacks c.args.parts.now.maps) c.args.rgsr.now in
    let x = world_of (g.M.Tagged.memory c.allocate.new.memory) (heap_of c.allocate.new.parts.cookie c.allocate.new.parts.stacks c.allocate.new.parts.maps) c.allocate.new.rgsr in
    let v = sound-made w x Malloc 16 c.args.size (Some c.in-Some.chunk) c.requires.sound least-align c.in-Some.ensures.made in
    (malloc-beside w x c.args.size c.args.found c.in-Some.chunk c.requires.sound.parts.stacks c.requires.sound.parts.mappings v.owned c.requires.size.some c.requires.size.most c.requires.found c.in-Some.ensures.made).found

pub free_found-requires-clause-served : goal.free_found-requires-clause-served
free_found-requires-clause-served g c =
    let w = world_of (g.M.Tagged.memory c.args.memory.now) (heap_of c.args.parts.now.cookie c.args.parts.now.stacks c.args.parts.now.maps) c.args.rgsr.now in
    let x = world_of (g.M.Tagged.memory c.allocate.new.memory) (heap_of c.allocate.new.parts.cookie c.allocate.new.parts.stacks c.allocate.new.parts.maps) c.allocate.new.rgsr in
    let v = sound-made w x Malloc 16 c.args.size (Some c.in-Some.chunk) c.requires.sound least-align c.in-Some.ensures.made in
    let e = copied-rest x.memory c.user.result c.user-2.result c.min-count.result in
    subst (λ t. HeapOwnsItsPages t x.heap) (sym c.copy_bytes.ensures.memory) (served-same x.memory _ x.heap v.owned e.attrs e.left)

pub returns-clause-made : goal.returns-clause-made
unfolding after_move after_malloc
returns-clause-made g c =
    let w = world_of (g.M.Tagged.memory c.args.memory.now) (heap_of c.args.parts.now.cookie c.args.parts.now.stacks c.args.parts.now.maps) c.args.rgsr.now in
    let m = g.M.Tagged.memory c.allocate.new.memory in
    let h = heap_of c.allocate.new.parts.cookie c.allocate.new.parts.stacks c.allocate.new.parts.maps in
    let x = world_of m h c.allocate.new.rgsr in
    let f = c.args.found in
    let ch = c.in-Some.chunk in
    let count : c.min-count.result ≡ min (size_found f) c.args.size = c.min-count.ensures ∙ ap (λ n. min n c.args.size) c.size.ensures in
    let copy : world_of (g.M.Tagged.memory c.copy_bytes.new.memory) h c.allocate.new.rgsr ≡ with_copied_bytes x f ch c.args.size =
    ap (λ t. world_of t h c.allocate.new.rgsr) (c.copy_bytes.ensures.memory ∙ (λ i. after_copy m (c.user.ensures i) (c.user-2.ensures i) (count i))) in
    ap (λ t. allocation_of t (Some ch)) (c.free_found.ensures.world ∙ ap (λ t. without_chunk t f) copy) ∙ ap (move_cases w f c.args.size) c.in-Some.ensures.made
