-- A careful realloc keeps the live chunks Sound.
use Rattle.std.proofs.Common.{◌≡◌, ◌≢◌, ℕ, ◌<◌, ◌≤◌, ◌==◌, nat_le, Bool, true, false, cond, Option, Some, None, refl, sym, ap, subst, ◌∙◌, arith}
use Rattle.std.proofs.lemmas.Bool.{cond-false}
use Rattle.std.proofs.lemmas.Bool.Decides.{nat_tests}
use Rattle.std.specs.Prelude.{min}
use Rattle.std.specs.Cmp.{nat_cmp_total}
use Rattle.std.specs.FinMap.{get-insert}
use Rattle.mte_tags.specs.Memory.{tag_at}
use Rattle.mte_tags.specs.Accesses.{read_bytes}
use Rattle.mte_tags.proofs.Pages.{tied_other}
use Rattle.scudo_header.specs.declared.headers.Origin.{Origin}
use Rattle.scudo_header.specs.declared.headers.Origin.TheVariants.{Malloc}
use Rattle.scudo_header.specs.declared.config.TheConstants.{MAX_REQUEST}
use Rattle.scudo_heap.specs.declared.chunk.Chunk.{Chunk}
use Rattle.scudo_heap.specs.declared.chunk.Chunk.TheVariants.{Small, Large}
use Rattle.scudo_heap.specs.declared.chunk.Found.{Found}
use Rattle.scudo_heap.specs.declared.chunk.Found.TheVariants.{InBlock}
use Rattle.scudo_heap.specs.Chunks.{end_of, block_end, with_size}
use Rattle.scudo_heap.specs.Placing.{World, after_resize}
use Rattle.scudo_heap.specs.Allocation.{AllocationResult, no_chunk, after_malloc}
use Rattle.scudo_heap.specs.Freeing.{without_chunk as freed_world}
use Rattle.scudo_heap.specs.Checks.{size_found}
use Rattle.scudo_heap.specs.Realloc as heap
use Rattle.scudo_heap.specs.Realloc.{user_of, user_of_chunk, after_copy, with_copied_bytes, after_move, with_new_size, realloc_cases}
use Rattle.mte_laws.specs.LiveChunks.{BlockChunk, LiveBlocks, chunk_at, with_chunk, new_chunk}
use Rattle.mte_laws.specs.LivePages.{PageChunk, LivePages, large_at, with_large, new_large}
use Rattle.mte_laws.specs.CarefulRuns.{State, Live, with_made_chunk, without_freed_chunk, live_move_cases, with_size_of, live_after_resize_in_block, live_after_resize, live_after_realloc, HasFree}
use Rattle.mte_laws.specs.SoundHeaps.{Sound}
use Rattle.mte_laws.proofs.Views.{TaggedBlocks}
use Rattle.mte_laws.proofs.Serving.{blocks-of}
use Rattle.scudo_heap.proofs.CallSteps.{resized_rest, resized_sound}
use Rattle.mte_laws.proofs.BlockSounds.{present-tag}
use Rattle.mte_laws.proofs.BlockSteps.{at-with, after-resize-kept}
use Rattle.mte_laws.proofs.MadeStates.{state_after_allocation, IsMade, state-sound}
use Rattle.mte_laws.proofs.MadeCalls.{malloc-state-after-allocation}
use Rattle.mte_laws.proofs.FoundStates.{IsListed, block, pages}
use Rattle.mte_laws.proofs.FreeStates.{IsKeptOn, kept-same, free-kept, with-bytes-at-kept, after-move-kept}

-- ---- in its block

after-resize-state : (s : State) (x : BlockChunk) (size : ℕ) → Sound s → chunk_at s.live.blocks x.place.user ≡ Some x → 0 < size → end_of (with_size x.place size) ≤ block_end x.place
    → IsKeptOn s (record { world = after_resize s.world x.place x.header size; live = live_after_resize_in_block s.world s.live x.place x.header size })
unfolding after_resize
after-resize-state s x size k e some fits =
    let b = blocks-of s k in
    let i = b.placed.place x.place.user x e in
    let h = after-resize-kept s.world s.live.blocks size x b e (record { carved = i.carved; aligned = i.aligned; above = i.above; within = fits; some = some }) in
    let t : State = record { world = after_resize s.world x.place x.header size; live = live_after_resize_in_block s.world s.live x.place x.header size } in
    let tag : tag_at s.world.memory x.place.user ≡ x.tag = present-tag s.world.memory s.world.heap.stacks s.live.blocks b x.place.user x e in
    let blocks = subst (λ v. TaggedBlocks t.world.memory t.world.heap.stacks (with_chunk s.live.blocks (record { place = with_size x.place size; tag = v; header = with_size_of x.header size }))) (sym tag) h.sound in
    record {
      sound = state-sound s t k (ap (λ t. t.mode) (resized_rest s.world x.place x.header size).state) (resized_sound s.world x.place x.header size k.heap) blocks k.large;
      stale = h.stale;
    }

-- ---- elsewhere

pub large-with : (g : LivePages) (x : PageChunk) (u : ℕ) → x.mapping.user ≢ u → large_at (with_large g x) u ≡ large_at g u
unfolding large_at with_large
large-with g x u n = get-insert nat_cmp_total g x.mapping.user x u ∙ cond-false _ _ _ (tied_other u x.mapping.user (λ q. n (sym q)))

pub chunk-with : (l : LiveBlocks) (x : BlockChunk) (u : ℕ) → x.place.user ≢ u → chunk_at (with_chunk l x) u ≡ chunk_at l u
chunk-with l x u n = at-with l x u ∙ cond-false _ _ _ (tied_other u x.place.user (λ q. n (sym q)))

-- a chunk is there after another one was made
pub still-block : (s : State) (r : AllocationResult) (c : Chunk) (x : BlockChunk) → IsMade Malloc s r → r.chunk ≡ Some c → chunk_at s.live.blocks x.place.user ≡ Some x → chunk_at (with_made_chunk Malloc s.live (Some c)).blocks x.place.user ≡ Some x
still-block s r (Small p t) x m e g = chunk-with s.live.blocks (new_chunk Malloc p t) x.place.user (m.apart p t e x.place.user x g) ∙ g
still-block s r (Large n z) x m e g = g

-- the chunk that the checks found is there too
pub still-with-made-chunk : (s : State) (r : AllocationResult) (c : Chunk) (w : World) {f : Found} → IsMade Malloc s r → r.chunk ≡ Some c → IsListed s f → IsListed (record { world = w; live = with_made_chunk Malloc s.live (Some c) }) f
still-with-made-chunk s r c w m e (block x g) = block x (still-block s r c x m e g)
still-with-made-chunk s r (Small p t) w m e (pages x g) = pages x g
still-with-made-chunk s r (Large n z) w m e (pages x g) = pages x (large-with s.live.pages (new_large Malloc n z) x.mapping.user (m.apart_large n z e x.mapping.user x g) ∙ g)

pub state-after-allocation-kept : (o : Origin) (s : State) (r : AllocationResult) → IsMade o s r → IsKeptOn s (state_after_allocation o s.live r)
state-after-allocation-kept o s r m = record { sound = m.sound; stale = m.stale }

kept-on : (s t u : State) → IsKeptOn s t → IsKeptOn t u → u.world.heap ≡ t.world.heap → IsKeptOn s u
kept-on s t u h k e = record {
  sound = k.sound;
  stale = λ g st on. k.stale g (h.stale g st (subst (λ v. HasFree g.place.class g.place.block (record t { world = record t.world { heap = v } })) e on)) on;
}

abbrev moved_state : State → Found → ℕ → World → Option Chunk → State
moved_state s f size w c = record { world = (heap.move_to_cases s.world f size w c).world; live = live_move_cases s.live f c }

live-move-cases-kept : (s : State) {f : Found} (size : ℕ) (r : AllocationResult) (c : Option Chunk) → Sound s → IsListed s f → IsMade Malloc s r → r.chunk ≡ c → IsKeptOn s (moved_state s f size r.world c)
unfolding after_copy
live-move-cases-kept s size r None k l m e = kept-same s k
live-move-cases-kept s {f = f} size r (Some c) k l m e =
    let t : State = record { world = r.world; live = with_made_chunk Malloc s.live (Some c) } in
    let h : IsKeptOn s t = subst (λ o. IsKeptOn s (record { world = r.world; live = with_made_chunk Malloc s.live o })) e (state-after-allocation-kept Malloc s r m) in
    let n = min (size_found f) size in
    let v = with-bytes-at-kept t (user_of_chunk c) (read_bytes t.world.memory (user_of f) n) h.sound in
    let u : State = record t { world = with_copied_bytes r.world f c size } in
    after-move-kept s u k l (still-with-made-chunk s r c (with_copied_bytes r.world f c size) m e l) (kept-on s t u h v refl)

-- ---- the call

after-move-state : (s : State) {f : Found} (size : ℕ) → Sound s → IsListed s f → IsKeptOn s (record { world = (after_move s.world f size).world; live = live_move_cases s.live f (after_malloc s.world size).chunk })
unfolding after_move
after-move-state s size k l = live-move-cases-kept s size (after_malloc s.world size) (after_malloc s.world size).chunk k l (malloc-state-after-allocation s size k) refl

-- a world and its live chunks by the same test
branch-both : (s : State) (b : Bool) (x y : AllocationResult) (l m : Live) → (b ≡ true → IsKeptOn s (record { world = x.world; live = l })) → (b ≡ false → IsKeptOn s (record { world = y.world; live = m }))
    → IsKeptOn s (record { world = (cond b x y).world; live = cond b l m })
branch-both s true x y l m f g = f refl
branch-both s false x y l m f g = g refl

abbrev new_size_state : State → Found → ℕ → State
new_size_state s f size = record { world = (with_new_size s.world f size).world; live = live_after_resize s.world s.live f size }

new_size-kept : (s : State) {f : Found} (size : ℕ) → Sound s → IsListed s f → 0 < size → IsKeptOn s (new_size_state s f size)
unfolding with_new_size
new_size-kept s size k (block x e) some =
    branch-both s (nat_le (end_of (with_size x.place size)) (block_end x.place)) (heap.after_resize_in_block s.world x.place x.header size) (after_move s.world (InBlock x.place x.header) size)
    (live_after_resize_in_block s.world s.live x.place x.header size) (live_move_cases s.live (InBlock x.place x.header) (after_malloc s.world size).chunk)
    (λ t. after-resize-state s x size k e some (grind (arith, nat_tests)))
    (λ t. after-move-state s size k (block x e))
new_size-kept s size k (pages x e) some = after-move-state s size k (pages x e)

abbrev pub refound_state : State → Found → ℕ → State
refound_state s f size = record { world = (realloc_cases s.world f size).world; live = live_after_realloc s.world s.live f size }

within-limit : (s : State) {f : Found} (size : ℕ) → Sound s → IsListed s f → 0 < size
    → IsKeptOn s (record { world = (cond (nat_le size MAX_REQUEST) (with_new_size s.world f size) (no_chunk s.world)).world; live = cond (nat_le size MAX_REQUEST) (live_after_resize s.world s.live f size) s.live })
within-limit s {f = f} size k l some =
    branch-both s (nat_le size MAX_REQUEST) (with_new_size s.world f size) (no_chunk s.world) (live_after_resize s.world s.live f size) s.live (λ t. new_size-kept s size k l some) (λ t. kept-same s k)

pub realloc-cases-kept : (s : State) {f : Found} (size : ℕ) → Sound s → IsListed s f → IsKeptOn s (refound_state s f size)
unfolding realloc_cases
realloc-cases-kept s {f = f} size k l =
    branch-both s (size == 0) (record { world = freed_world s.world f; chunk = None }) (cond (nat_le size MAX_REQUEST) (with_new_size s.world f size) (no_chunk s.world))
    (without_freed_chunk s.live f) (cond (nat_le size MAX_REQUEST) (live_after_resize s.world s.live f size) s.live)
    (λ t. free-kept s k l)
    (λ t. within-limit s size k l (grind (arith, nat_tests)))
