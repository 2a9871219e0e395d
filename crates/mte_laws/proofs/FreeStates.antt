-- A careful free, and a careful realloc, keep the live chunks Sound, and what was freed before as it is.
use Rattle.std.proofs.Common.{◌≡◌, ℕ, ◌+◌, ◌*◌, ◌/◌, ◌<◌, Some, List, sym, ap, ◌∙◌, arith}
use Rattle.mte_tags.specs.Memory.{without_pages, attrs_at}
use Rattle.mte_tags.specs.Accesses.{with_bytes_at}
use Rattle.mte_tags.proofs.StateLaws.{state-without_pages, state-with-bytes-at}
use Rattle.mte_tags.proofs.PageLaws.{ArePages-attrs, attrs_at-with-bytes-at, pages_left-with-bytes-at}
use Rattle.scudo_secondary.specs.Mappings.{mapping_of}
use Rattle.common.specs.declared.limits.TheConstants.{PAGE_SIZE}
use Rattle.scudo_heap.specs.declared.chunk.Found.{Found}
use Rattle.scudo_heap.specs.declared.chunk.Found.TheVariants.{InBlock, InPages}
use Rattle.scudo_heap.specs.Heaps.{with_less}
use Rattle.scudo_heap.specs.Large.{large_given_back}
use Rattle.scudo_heap.specs.Freeing.{without_chunk as freed_world}
use Rattle.scudo_heap.proofs.ServedLemmas.{mapping-open}
use Rattle.mte_laws.specs.LiveChunks.{BlockChunk, chunk_at}
use Rattle.mte_laws.specs.LivePages.{PageChunk, large_at}
use Rattle.mte_laws.specs.CarefulRuns.{State, without_freed_chunk, HasFree}
use Rattle.mte_laws.specs.SoundHeaps.{Sound}
use Rattle.mte_laws.proofs.Freed.{Freed, IsStale}
use Rattle.mte_laws.proofs.Serving.{blocks-of}
use Rattle.scudo_heap.proofs.SoundLemmas.{sound-same, sound-less}
use Rattle.scudo_heap.proofs.CallSteps.{given_rest, given_sound}
use Rattle.scudo_heap.specs.Placing.{after_give_back}
use Rattle.mte_laws.proofs.BlockSteps.{IsSameTags, same-with-bytes-at, same-unmapped, same-tags_sound, same-tags_stale, after-give-back-kept, free-before, stale-other}
use Rattle.mte_laws.proofs.Larges.{check-pointer-of, large-freed}
use Rattle.mte_laws.proofs.MadeStates.{state-sound}
use Rattle.mte_laws.proofs.FoundStates.{IsListed, block, pages}

-- a state after another: its live chunks are Sound, and what was freed stays as it is while its block is free
pub record IsKeptOn (s t : State) : Type 0 where
  pub sound : Sound t
  pub stale : (f : Freed) → IsStale s.world.memory s.world.heap.stacks f → HasFree f.place.class f.place.block t → IsStale t.world.memory t.world.heap.stacks f

pub kept-same : (s : State) → Sound s → IsKeptOn s s
kept-same s k = record { sound = k; stale = λ f st on. st }

abbrev pub freed : State → Found → State
freed s f = record { world = freed_world s.world f; live = without_freed_chunk s.live f }

-- ---- a chunk in a block

block-freed : (s : State) (x : BlockChunk) → Sound s → chunk_at s.live.blocks x.place.user ≡ Some x → IsKeptOn s (freed s (InBlock x.place x.header))
unfolding freed_world after_give_back
block-freed s x k e =
    let w = s.world in
    let i = k.placed.place x.place.user x e in
    let g = after-give-back-kept w s.live.blocks x x.header (blocks-of s k) e in
    let v = given_sound w x.place x.header i.carved.class i.carved.block (k.placed.unstacked x.place.user x e) k.heap in
    record {
      sound = state-sound s (freed s (InBlock x.place x.header)) k (ap (λ t. t.mode) (given_rest w x.place x.header).state) v g.sound k.large;
      stale = g.stale;
    }

-- ---- a chunk with pages of its own

pages-freed : (s : State) (x : PageChunk) → Sound s → large_at s.live.pages x.mapping.user ≡ Some x → IsKeptOn s (freed s (InPages x.mapping x.header))
unfolding freed_world large_given_back with_less
pages-freed s x k e =
    let w = s.world in
    let n = x.mapping in
    let m' = without_pages w.memory (n.start / PAGE_SIZE) n.pages in
    let there : Some n ≡ mapping_of w.heap.maps.mappings n.user = sym (k.large.place n.user x e) in
    let around = mapping-open w.memory w.heap n k.heap.owned k.heap.parts.mappings there in
    let f = check-pointer-of w.heap.maps.mappings n.user n k.heap.parts.mappings (sym there) in
    let above = f.above in
    let aligned = f.aligned in
    let at : (i : ℕ) → i < n.pages → attrs_at w.memory (n.start / PAGE_SIZE + i) ≡ Some 11 = λ i l.
    let q : n.start / PAGE_SIZE + i ≡ (n.start + PAGE_SIZE * i) / PAGE_SIZE = omega arith in
    ap (attrs_at w.memory) q ∙ around.pages (n.start + PAGE_SIZE * i) (omega arith) (omega arith) in
    let same : IsSameTags w.memory m' = same-unmapped w.memory (n.start / PAGE_SIZE) n.pages k.whole (ArePages-attrs w.memory (n.start / PAGE_SIZE) n.pages 11 at) (omega arith) in
    let b = blocks-of s k in
    record {
      sound = state-sound s (freed s (InPages n x.header)) k (ap (λ v. v.mode) (state-without_pages n.pages w.memory (n.start / PAGE_SIZE))) (sound-less w n there k.heap) (same-tags_sound w.memory m' w.heap.stacks s.live.blocks same b) (large-freed w.heap.maps.mappings s.live.pages n.user k.large);
      stale = λ g st on. same-tags_stale w.memory m' w.heap.stacks g b.stacked same st;
    }

pub free-kept : (s : State) {f : Found} → Sound s → IsListed s f → IsKeptOn s (freed s f)
free-kept s k (block x e) = block-freed s x k e
free-kept s k (pages x e) = pages-freed s x k e

-- ---- bytes are written

pub with-bytes-at-kept : (s : State) (a : ℕ) (bs : List ℕ) → Sound s → IsKeptOn s (record s { world = record s.world { memory = with_bytes_at s.world.memory a bs } })
with-bytes-at-kept s a bs k =
    let b = blocks-of s k in
    let m' = with_bytes_at s.world.memory a bs in
    let t : State = record s { world = record s.world { memory = m' } } in
    let same = same-with-bytes-at s.world.memory a bs k.whole in
    let v = sound-same s.world m' k.heap (attrs_at-with-bytes-at s.world.memory a bs) (pages_left-with-bytes-at s.world.memory a bs) in
    record {
      sound = state-sound s t k (ap (λ t. t.mode) (state-with-bytes-at s.world.memory a bs)) v (same-tags_sound s.world.memory m' s.world.heap.stacks s.live.blocks same b) k.large;
      stale = λ g st on. same-tags_stale s.world.memory m' s.world.heap.stacks g b.stacked same st;
    }

-- ---- a chunk moves

-- what is free after a live chunk is freed was free before, or is that chunk's block
free-was : (s t : State) {f : Found} (g : Freed) → Sound s → IsListed s f → IsStale s.world.memory s.world.heap.stacks g → HasFree g.place.class g.place.block (freed t f) → HasFree g.place.class g.place.block t
unfolding freed_world large_given_back
free-was s t g k (block x e) st on = free-before t.world x.place x.header g.place.class g.place.block (stale-other s.world s.live.blocks g x.place.user x (blocks-of s k) st e) on
free-was s t g k (pages x e) st on = on

pub after-move-kept : (s t : State) {f : Found} → Sound s → IsListed s f → IsListed t f → IsKeptOn s t → IsKeptOn s (freed t f)
after-move-kept s t k l m h =
    let r = free-kept t h.sound m in
    record {
      sound = r.sound;
      stale = λ g st on. r.stale g (h.stale g st (free-was s t g k l st on)) on;
    }
