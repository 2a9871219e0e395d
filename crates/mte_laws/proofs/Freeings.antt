-- A chunk that a call frees has another tag than the pointer to it.
use Rattle.std.proofs.Common.{◌≡◌, ◌≢◌, ℕ, ◌==◌, nat_le, Bool, true, false, cond, Option, Some, None, Ok, refl, sym, ap, subst, ◌∙◌, arith}
use Rattle.std.proofs.lemmas.Bool.{cond-false}
use Rattle.std.proofs.lemmas.Bool.Decides.{nat_tests}
use Rattle.std.specs.Prelude.{min}
use Rattle.a64_bits.specs.Addresses.{plain}
use Rattle.mte_tags.specs.Accesses.{read_bytes}
use Rattle.mte_tags.specs.RandomTags.{after_draw, drawn_tag}
use Rattle.scudo_header.specs.declared.headers.Origin.TheVariants.{Malloc}
use Rattle.scudo_header.specs.declared.headers.State.TheVariants.{Available}
use Rattle.scudo_primary.specs.Pools.{is_member}
use Rattle.scudo_header.specs.declared.config.TheConstants.{MAX_REQUEST}
use Rattle.scudo_heap.specs.declared.call.HeapCall.TheVariants.{Realloc, Free}
use Rattle.scudo_heap.specs.declared.chunk.Chunk.{Chunk}
use Rattle.scudo_heap.specs.declared.chunk.Found.{Found}
use Rattle.scudo_heap.specs.declared.chunk.Found.TheVariants.{InBlock}
use Rattle.scudo_heap.specs.Stacks.{stack_of, after_push}
use Rattle.scudo_heap.specs.Chunks.{end_of, block_end, with_size, excluded_tags, with_header, with_chunk_tag}
use Rattle.scudo_heap.specs.Placing.{World, after_give_back, after_resize}
use Rattle.scudo_heap.specs.Allocation.{AllocationResult, no_chunk, after_malloc}
use Rattle.scudo_heap.specs.Checks.{check_pointer, size_found}
use Rattle.scudo_heap.specs.Freeing.{Freed as Outcome, without_chunk as freed_world, free_cases, free_of}
use Rattle.scudo_heap.specs.Realloc as heap
use Rattle.scudo_heap.specs.Realloc.{ReallocResult, checked_realloc_cases, after_realloc, user_of_chunk, after_copy, with_copied_bytes, after_move, with_new_size, realloc_cases}
use Rattle.scudo_heap.specs.Calls.{after_call}
use Rattle.mte_laws.specs.LiveChunks.{BlockChunk, chunk_at}
use Rattle.mte_laws.specs.CarefulRuns.{State, found_at, with_made_chunk, state_after_call, HasHeader, IsLiveBlock}
use Rattle.mte_laws.specs.SoundHeaps.{Sound}
use Rattle.mte_laws.proofs.Freed.{IsStale}
use Rattle.mte_laws.proofs.Draws.{after-draw-fresh}
use Rattle.mte_laws.proofs.BlockSounds.{present, present-tag, given_back_call}
use Rattle.mte_laws.proofs.Stales.{stale-new}
use Rattle.mte_laws.proofs.Serving.{blocks-of}
use Rattle.mte_laws.proofs.SoundFrees.{check-pointer-live}
use Rattle.mte_laws.proofs.MadeStates.{IsMade}
use Rattle.mte_laws.proofs.MadeCalls.{malloc-state-after-allocation}
use Rattle.mte_laws.proofs.FreeStates.{with-bytes-at-kept}
use Rattle.mte_laws.proofs.ReallocStates.{still-block}

-- its place is stale, with the tag that was drawn last
abbrev pub IsStaleAfter : World → BlockChunk → Type 0
IsStaleAfter w x = IsStale w.memory w.heap.stacks (record { place = x.place; tag = x.tag; given = w.rgsr.tag })

abbrev pub IsFreeIn : World → BlockChunk → Type 0
IsFreeIn w x = is_member (stack_of w.heap.stacks x.place.class) x.place.block ≡ true

given-stale : (s : State) (x : BlockChunk) → Sound s → chunk_at s.live.blocks x.place.user ≡ Some x → IsStaleAfter (after_give_back s.world x.place x.header) x
unfolding after_give_back after_push after_draw
given-stale s x k e =
    let w = s.world in
    let b = blocks-of s k in
    let i = b.placed.place x.place.user x e in
    let t = drawn_tag w.rgsr (excluded_tags w.memory x.place) in
    let f = after-draw-fresh w.memory x.place w.rgsr (present w.memory w.heap.stacks s.live.blocks b x.place i) in
    let header = record (x.header) { state = Available } in
    stale-new w.memory (with_header (with_chunk_tag w.memory x.place t) w.heap.cookie x.place.user header) w.heap.stacks x.place t x.tag i
    (given_back_call w.memory w.heap.stacks s.live.blocks b w.heap.cookie x.place header t i)
    (λ q. f.other (q ∙ sym (present-tag w.memory w.heap.stacks s.live.blocks b x.place.user x e)))

-- a live chunk's block is not free
pub not-free : (s : State) (x : BlockChunk) → Sound s → chunk_at s.live.blocks x.place.user ≡ Some x → IsFreeIn s.world x → ⊥
not-free s x k e on = let off = k.placed.unstacked x.place.user x e in let z : true ≡ false = sym on ∙ off in cc

pub freed-stale : (s : State) (x : BlockChunk) → Sound s → chunk_at s.live.blocks x.place.user ≡ Some x → IsStaleAfter (freed_world s.world (InBlock x.place x.header)) x
unfolding freed_world
freed-stale s x k e = given-stale s x k e

-- ---- realloc: where the block is free then, it was given back

abbrev IsStaleIf : World → BlockChunk → Type 0
IsStaleIf w x = IsFreeIn w x → IsStaleAfter w x

branch-world : (P : World → Type 0) (b : Bool) (x y : AllocationResult) → (b ≡ true → P x.world) → (b ≡ false → P y.world) → P (cond b x y).world
branch-world P true x y f g = f refl
branch-world P false x y f g = g refl

moved_to-stale : (s : State) (x : BlockChunk) (size : ℕ) (r : AllocationResult) (c : Option Chunk) → Sound s → chunk_at s.live.blocks x.place.user ≡ Some x → IsMade Malloc s r → r.chunk ≡ c
    → IsStaleIf (heap.move_to_cases s.world (InBlock x.place x.header) size r.world c).world x
unfolding after_copy
moved_to-stale s x size r None k e m f = λ on. absurd (not-free s x k e on)
moved_to-stale s x size r (Some c) k e m f = λ on.
    let t : State = record { world = r.world; live = with_made_chunk Malloc s.live (Some c) } in
    let sound : Sound t = subst (λ o. Sound (record { world = r.world; live = with_made_chunk Malloc s.live o })) f m.sound in
    let bytes = read_bytes t.world.memory x.place.user (min (size_found (InBlock x.place x.header)) size) in
    let h = with-bytes-at-kept t (user_of_chunk c) bytes sound in
    let u : State = record t { world = with_copied_bytes r.world (InBlock x.place x.header) c size } in
    freed-stale u x h.sound (still-block s r c x m f e)

after-move-stale : (s : State) (x : BlockChunk) (size : ℕ) → Sound s → chunk_at s.live.blocks x.place.user ≡ Some x → IsStaleIf (after_move s.world (InBlock x.place x.header) size).world x
unfolding after_move
after-move-stale s x size k e = moved_to-stale s x size (after_malloc s.world size) (after_malloc s.world size).chunk k e (malloc-state-after-allocation s size k) refl

after-resize-stale : (s : State) (x : BlockChunk) (size : ℕ) → Sound s → chunk_at s.live.blocks x.place.user ≡ Some x → IsStaleIf (after_resize s.world x.place x.header size) x
unfolding after_resize
after-resize-stale s x size k e = λ on. absurd (not-free s x k e on)

new_size-stale : (s : State) (x : BlockChunk) (size : ℕ) → Sound s → chunk_at s.live.blocks x.place.user ≡ Some x → IsStaleIf (with_new_size s.world (InBlock x.place x.header) size).world x
unfolding with_new_size
new_size-stale s x size k e =
    branch-world (λ w. IsStaleIf w x) (nat_le (end_of (with_size x.place size)) (block_end x.place)) (heap.after_resize_in_block s.world x.place x.header size) (after_move s.world (InBlock x.place x.header) size)
    (λ t. after-resize-stale s x size k e)
    (λ t. after-move-stale s x size k e)

realloc-cases-stale : (s : State) (x : BlockChunk) (size : ℕ) → Sound s → chunk_at s.live.blocks x.place.user ≡ Some x → IsStaleIf (realloc_cases s.world (InBlock x.place x.header) size).world x
unfolding realloc_cases
realloc-cases-stale s x size k e =
    branch-world (λ w. IsStaleIf w x) (size == 0) (record { world = freed_world s.world (InBlock x.place x.header); chunk = None })
    (cond (nat_le size MAX_REQUEST) (with_new_size s.world (InBlock x.place x.header) size) (no_chunk s.world))
    (λ t. λ on. freed-stale s x k e)
    (λ t. branch-world (λ w. IsStaleIf w x) (nat_le size MAX_REQUEST) (with_new_size s.world (InBlock x.place x.header) size) (no_chunk s.world) (λ v. new_size-stale s x size k e) (λ v. λ on. absurd (not-free s x k e on)))

-- ---- the calls

-- what the checks find
pub named : (s : State) (pointer : ℕ) (x : BlockChunk) → Sound s → IsLiveBlock s (plain pointer) x → (chunk_at s.live.blocks x.place.user ≡ Some x) × (found_at s.world pointer ≡ Ok (InBlock x.place x.header))
named s pointer x k l =
    let here : x.place.user ≡ plain pointer = k.placed.user (plain pointer) x l.live in
    let live : chunk_at s.live.blocks x.place.user ≡ Some x = ap (chunk_at s.live.blocks) here ∙ l.live in
    let header = subst (λ u. HasHeader s.world u x.header) (sym here) l.header in
    (live, ap (check_pointer s.world.memory s.world.heap) (sym here) ∙ check-pointer-live s.world s.live.blocks x (blocks-of s k) live header)

pub not-null : (pointer : ℕ) → pointer ≢ 0 → (pointer == 0) ≡ false
not-null pointer n = grind (arith, nat_tests)

pub free-world : (s : State) (pointer : ℕ) (f : Found) → pointer ≢ 0 → found_at s.world pointer ≡ Ok f → freed_world s.world f ≡ (free_of s.world pointer).world
unfolding free_of
free-world s pointer f n e =
    ap (λ (o : Outcome). o.world) (ap (free_cases s.world) (sym e)) ∙ sym (ap (λ (o : Outcome). o.world) (cond-false (pointer == 0) (record { world = s.world; result = Ok tt }) (free_cases s.world (found_at s.world pointer)) (not-null pointer n)))

pub realloc-world : (s : State) (pointer size : ℕ) (f : Found) → pointer ≢ 0 → found_at s.world pointer ≡ Ok f → (realloc_cases s.world f size).world ≡ (after_realloc s.world pointer size).world
unfolding after_realloc
realloc-world s pointer size f n e =
    ap (λ (o : ReallocResult). o.world) (ap (checked_realloc_cases s.world size) (sym e))
    ∙ sym (ap (λ (o : ReallocResult). o.world) (cond-false (pointer == 0) (heap.reallocation_of (after_malloc s.world size)) (checked_realloc_cases s.world size (found_at s.world pointer)) (not-null pointer n)))

pub free-stale : (s : State) (pointer : ℕ) (x : BlockChunk) → Sound s → pointer ≢ 0 → IsLiveBlock s (plain pointer) x → IsStaleAfter (state_after_call (Free pointer) s).world x
unfolding after_call state_after_call
free-stale s pointer x k n l = let h = named s pointer x k l in subst (λ w. IsStaleAfter w x) (free-world s pointer (InBlock x.place x.header) n h.1) (freed-stale s x k h.0)

pub realloc-stale : (s : State) (pointer size : ℕ) (x : BlockChunk) → Sound s → pointer ≢ 0 → IsLiveBlock s (plain pointer) x → IsFreeIn (state_after_call (Realloc pointer size) s).world x → IsStaleAfter (state_after_call (Realloc pointer size) s).world x
unfolding after_call state_after_call
realloc-stale s pointer size x k n l on =
    let h = named s pointer x k l in
    let e : (realloc_cases s.world (InBlock x.place x.header) size).world ≡ (after_realloc s.world pointer size).world = realloc-world s pointer size (InBlock x.place x.header) n h.1 in
    subst (λ w. IsStaleIf w x) e (realloc-cases-stale s x size k h.0) on
