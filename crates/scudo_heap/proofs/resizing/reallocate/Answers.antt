use Rattle.std.proofs.Common.{◌≡◌, Some, None, sym, ap, subst, ◌∙◌, arith}
use Rattle.scudo_heap.specs.declared.chunk.Chunk.TheVariants.{Small}
use Rattle.scudo_heap.specs.Chunks.{with_size}
use Rattle.scudo_heap.specs.Heaps.{heap_of}
use Rattle.scudo_heap.specs.Placing.{world_of, after_resize}
use Rattle.scudo_heap.specs.Allocation.{allocation_of}
use Rattle.scudo_heap.specs.Realloc.{after_move, after_resize_in_block, with_new_size}
use Rattle.scudo_heap.specs.Inner.{IsFound, IsFoundBlock}
use Rattle.scudo_heap.proofs.ServedLemmas.{block-open}
use Rattle.scudo_heap.proofs.ReallocLemmas.{realloc-cases-none, realloc-cases-over, realloc-cases-some, size-in_place, size-after-move, size-pages, holds-of, placed-fits, resized-fits}
use Rattle.scudo_heap.proofs.resizing.reallocate.Goals.{in_default-via-in-InBlock+else-fits, in_default-via-in_default}
use Rattle.scudo_heap.proofs.resizing.reallocate.Goals as goal

pub returns-then-size-eq0-clause-made : goal.returns-then-size-eq0-clause-made
returns-then-size-eq0-clause-made g c =
    let w = world_of (g.M.Tagged.memory c.args.memory.now) (heap_of c.args.parts.now.cookie c.args.parts.now.stacks c.args.parts.now.maps) c.args.rgsr.now in
    ap (λ t. allocation_of t None) c.free_found.ensures.world ∙ realloc-cases-none w c.args.found c.args.size c.if-size-eq0.true

pub returns-then-size-gt-MAX_REQUEST-clause-made :
    goal.returns-then-size-gt-MAX_REQUEST-clause-made
returns-then-size-gt-MAX_REQUEST-clause-made g c =
    realloc-cases-over (world_of (g.M.Tagged.memory c.args.memory.now) (heap_of c.args.parts.now.cookie c.args.parts.now.stacks c.args.parts.now.maps) c.args.rgsr.now) c.args.found c.args.size c.if-size-eq0.false c.if-size-gt-MAX_REQUEST.true

pub fits-requires-clause-place : goal.fits-requires-clause-place
fits-requires-clause-place g c =
    let h = heap_of c.args.parts.now.cookie c.args.parts.now.stacks c.args.parts.now.maps in
    let there : IsFoundBlock c.args.parts.now.stacks c.in-InBlock.place c.in-InBlock.header = subst (IsFound h) c.in-InBlock.is c.requires.found in
    placed-fits c.args.parts.now.stacks c.in-InBlock.place there.place

pub resize-tag-requires-clause-place : goal.resize-tag-requires-clause-place
resize-tag-requires-clause-place g c =
    let h = heap_of c.args.parts.now.cookie c.args.parts.now.stacks c.args.parts.now.maps in
    let there : IsFoundBlock c.args.parts.now.stacks c.in-InBlock.place c.in-InBlock.header = subst (IsFound h) c.in-InBlock.is c.requires.found in
    placed-fits c.args.parts.now.stacks c.in-InBlock.place there.place

pub resize-tag-requires-clause-resized : goal.resize-tag-requires-clause-resized
resize-tag-requires-clause-resized g c =
    let h = heap_of c.args.parts.now.cookie c.args.parts.now.stacks c.args.parts.now.maps in
    let p = c.in-InBlock.place in
    let there : IsFoundBlock c.args.parts.now.stacks p c.in-InBlock.header = subst (IsFound h) c.in-InBlock.is c.requires.found in
    let some = c.if-size-eq0.false in
    resized-fits c.args.parts.now.stacks p c.args.size there.place (omega arith) (holds-of p c.args.size (sym c.fits.ensures ∙ c.if-fits.true))

pub resize-tag-requires-clause-open : goal.resize-tag-requires-clause-open
resize-tag-requires-clause-open g c =
    let h = heap_of c.args.parts.now.cookie c.args.parts.now.stacks c.args.parts.now.maps in
    let p = c.in-InBlock.place in
    let there : IsFoundBlock c.args.parts.now.stacks p c.in-InBlock.header = subst (IsFound h) c.in-InBlock.is c.requires.found in
    let q = there.place in
    block-open (g.M.Tagged.memory c.args.memory.now) h p.class p.block c.requires.sound.owned (record { low = q.low; high = q.high }) q.carved

pub returns-in-InBlock-clause-made : goal.returns-in-InBlock-clause-made
unfolding after_resize
returns-in-InBlock-clause-made g c =
    let h = heap_of c.args.parts.now.cookie c.args.parts.now.stacks c.args.parts.now.maps in
    let w = world_of (g.M.Tagged.memory c.args.memory.now) h c.args.rgsr.now in
    let p = c.in-InBlock.place in
    let n = c.args.size in
    let e = c.resize-tag.ensures in
    let done : allocation_of (world_of (g.M.Tagged.memory c.resize-tag.new.memory) h c.args.rgsr.now) (Some (Small (with_size p n) c.resize-tag.result)) ≡ after_resize_in_block w p c.in-InBlock.header n =
    λ i. allocation_of (world_of (e.memory i) h c.args.rgsr.now) (Some (Small (with_size p n) (e.tag i))) in
    done ∙ size-in_place w p c.in-InBlock.header n (sym c.fits.ensures ∙ c.if-fits.true)
    ∙ ap (λ f. with_new_size w f n) (sym c.in-InBlock.is)
    ∙ realloc-cases-some w c.args.found n c.if-size-eq0.false c.if-size-gt-MAX_REQUEST.false

pub returns-in_default-clause-made : goal.returns-in_default-clause-made
returns-in_default-clause-made g c =
    let w = world_of (g.M.Tagged.memory c.args.memory.now) (heap_of c.args.parts.now.cookie c.args.parts.now.stacks c.args.parts.now.maps) c.args.rgsr.now in
    let n = c.args.size in
    let not_here : after_move w c.in_default.found n ≡ with_new_size w c.args.found n = elim c.in_default.branch [
      | in_default-via-in-InBlock+else-fits b ↦ ap (λ f. after_move w f n) b.found-is
          ∙ size-after-move w b.in-InBlock.place b.in-InBlock.header n (sym b.fits.ensures ∙ b.if-fits.false)
          ∙ ap (λ f. with_new_size w f n) (sym b.in-InBlock.is)
      | in_default-via-in_default b ↦ ap (λ f. after_move w f n) (b.found-is ∙ b.in_default.is)
          ∙ size-pages w b.in_default.field-0 b.in_default.field-1 n
          ∙ ap (λ f. with_new_size w f n) (sym b.in_default.is)
    ] in
    c.move_chunk.ensures.made ∙ not_here ∙ realloc-cases-some w c.args.found n c.if-size-eq0.false c.if-size-gt-MAX_REQUEST.false
