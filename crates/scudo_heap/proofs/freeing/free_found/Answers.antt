use Rattle.std.proofs.Common.{◌≡◌, ◌+◌, ◌∙◌, sym, ap, subst}
use Rattle.std.specs.Option.{IfSome}
use Rattle.mte_tags.specs.Memory.{tag_at}
use Rattle.mte_tags.specs.RandomTags.{after_draw}
use Rattle.scudo_header.specs.Classes.{size_of}
use Rattle.scudo_header.specs.declared.headers.State.TheVariants.{Available}
use Rattle.scudo_heap.specs.declared.chunk.Found.{Found}
use Rattle.scudo_heap.specs.Chunks.{excluded_tags, with_chunk_tag, with_header}
use Rattle.scudo_heap.specs.Heaps.{heap_of}
use Rattle.scudo_heap.specs.Placing.{world_of, after_give_back}
use Rattle.scudo_heap.specs.Large.{large_given_back}
use Rattle.scudo_heap.specs.Freeing.{without_chunk}
use Rattle.scudo_heap.specs.Realloc.{user_of}
use Rattle.scudo_heap.specs.Inner.{IsFound, IsOpen}
use Rattle.scudo_heap.proofs.ServedLemmas.{block-open, mapping-open}
use Rattle.scudo_heap.proofs.FreeLemmas.{found-open}
use Rattle.scudo_heap.proofs.freeing.free_found.Goals as goal

pub choose_tag-tag-requires-clause-class : goal.choose_tag-tag-requires-clause-class
choose_tag-tag-requires-clause-class g c =
    let h = heap_of c.args.parts.now.cookie c.args.parts.now.stacks c.args.parts.now.maps in
    let f = subst (IsFound h) c.in-InBlock.is c.requires.found in
    record { low = f.place.low; high = f.place.high }

pub choose_tag-tag-requires-clause-open : goal.choose_tag-tag-requires-clause-open
choose_tag-tag-requires-clause-open g c =
    let m = g.M.Tagged.memory c.args.memory.now in
    let h = heap_of c.args.parts.now.cookie c.args.parts.now.stacks c.args.parts.now.maps in
    found-open m h c.in-InBlock.place c.in-InBlock.header c.requires.served (subst (IsFound h) c.in-InBlock.is c.requires.found)

pub choose_tag-tag-requires-clause-known : goal.choose_tag-tag-requires-clause-known
choose_tag-tag-requires-clause-known g c =
    let m = g.M.Tagged.memory c.args.memory.now in
    let h = heap_of c.args.parts.now.cookie c.args.parts.now.stacks c.args.parts.now.maps in
    let first = found-open m h c.in-InBlock.place c.in-InBlock.header c.requires.served (subst (IsFound h) c.in-InBlock.is c.requires.found) in
    subst (λ (f : Found). IsOpen m (user_of f) (user_of f + 1) → IfSome c.args.known (λ tag. tag ≡ tag_at m (user_of f))) c.in-InBlock.is c.requires.known first

pub free_block-requires-clause-open : goal.free_block-requires-clause-open
free_block-requires-clause-open g c =
    let m = g.M.Tagged.memory c.args.memory.now in
    let h = heap_of c.args.parts.now.cookie c.args.parts.now.stacks c.args.parts.now.maps in
    let p = c.in-InBlock.place in
    let f = subst (IsFound h) c.in-InBlock.is c.requires.found in
    subst (λ t. IsOpen t p.block (p.block + size_of p.class)) (sym c.choose_tag-tag.ensures.memory)
    (block-open m h p.class p.block c.requires.served (record { low = f.place.low; high = f.place.high }) f.place.carved)

pub free_pages-requires-clause-open : goal.free_pages-requires-clause-open
free_pages-requires-clause-open g c =
    let m = g.M.Tagged.memory c.args.memory.now in
    let h = heap_of c.args.parts.now.cookie c.args.parts.now.stacks c.args.parts.now.maps in
    λ k. mapping-open m h c.in-InPages.mapping c.requires.served k (subst (IsFound h) c.in-InPages.is c.requires.found)

pub returns-in-InBlock-clause-world : goal.returns-in-InBlock-clause-world
unfolding without_chunk after_give_back
returns-in-InBlock-clause-world g c =
    let w = world_of (g.M.Tagged.memory c.args.memory.now) (heap_of c.args.parts.now.cookie c.args.parts.now.stacks c.args.parts.now.maps) c.args.rgsr.now in
    let e = c.free_block.ensures in
    let d = c.choose_tag-tag.ensures in
    let p = c.in-InBlock.place in
    let memory : g.M.Tagged.memory c.free_block.new.memory ≡ with_header (with_chunk_tag w.memory p (after_draw w.rgsr (excluded_tags w.memory p)).tag) c.args.parts.now.cookie p.user (record c.in-InBlock.header { state = Available }) =
    e.memory ∙ (λ i. with_header (with_chunk_tag (d.memory i) p (d.tag i)) c.args.parts.now.cookie p.user (record c.in-InBlock.header { state = Available })) in
    let done : world_of (g.M.Tagged.memory c.free_block.new.memory) (heap_of c.args.parts.now.cookie c.free_block.new.stacks c.args.parts.now.maps) c.choose_tag-tag.new.rgsr ≡ after_give_back w c.in-InBlock.place c.in-InBlock.header =
    λ i. record { memory = memory i; heap = heap_of c.args.parts.now.cookie (e.stacks i) c.args.parts.now.maps; rgsr = d.rgsr i } in
    done ∙ ap (without_chunk w) (sym c.in-InBlock.is)

pub returns-in-InPages-clause-world : goal.returns-in-InPages-clause-world
unfolding without_chunk large_given_back
returns-in-InPages-clause-world g c =
    let w = world_of (g.M.Tagged.memory c.args.memory.now) (heap_of c.args.parts.now.cookie c.args.parts.now.stacks c.args.parts.now.maps) c.args.rgsr.now in
    let e = c.free_pages.ensures in
    let done : world_of (g.M.Tagged.memory c.free_pages.new.memory) (heap_of c.args.parts.now.cookie c.args.parts.now.stacks c.free_pages.new.maps) c.args.rgsr.now ≡ large_given_back w c.in-InPages.mapping =
    λ i. record { memory = e.memory i; heap = heap_of c.args.parts.now.cookie c.args.parts.now.stacks (e.maps i); rgsr = c.args.rgsr.now } in
    done ∙ ap (without_chunk w) (sym c.in-InPages.is)
