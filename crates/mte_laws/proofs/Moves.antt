-- The chunk that a reallocation answers is live, with its header.
use Rattle.std.proofs.Common.{◌≡◌, ◌≢◌, ℕ, ◌+◌, ◌-◌, ◌/◌, ◌^◌, ◌<◌, ◌≤◌, ◌==◌, nat_le, length, cond, Option, Some, None, Result, Ok, Err, refl, sym, ap, subst, ◌∙◌, inl, inr, Bool, true, false, arith}
use Rattle.std.proofs.lemmas.Bool.{cond-true}
use Rattle.std.proofs.lemmas.Bool.Decides.{nat_tests}
use Rattle.std.proofs.Math.Nat.{min-le_right}
use Rattle.std.specs.Prelude.{min}
use Rattle.std.specs.Int.{to_le_bytes, w64}
use Rattle.a64_bits.specs.Addresses.{plain}
use Rattle.mte_tags.specs.Memory.{tag_at}
use Rattle.mte_tags.specs.Accesses.{read_bytes}
use Rattle.mte_tags.proofs.ByteLaws.{byte_at-written_other, length-read_bytes, read_bytes-with-bytes-at}
use Rattle.mte_tags.proofs.Pages.{tied_same}
use Rattle.scudo_header.specs.Headers.{packed_header}
use Rattle.scudo_header.specs.declared.headers.Header.{Header}
use Rattle.scudo_header.specs.declared.headers.Origin.TheVariants.{Malloc}
use Rattle.scudo_heap.specs.declared.abort.HeapAbort.{HeapAbort}
use Rattle.scudo_heap.specs.declared.call.HeapCall.TheVariants as call
use Rattle.scudo_header.specs.declared.config.TheConstants.{MAX_REQUEST}
use Rattle.scudo_heap.specs.declared.chunk.Chunk.{Chunk}
use Rattle.scudo_heap.specs.declared.chunk.Chunk.TheVariants.{Small, Large}
use Rattle.scudo_heap.specs.declared.chunk.Found.{Found}
use Rattle.scudo_heap.specs.declared.chunk.Found.TheVariants.{InBlock, InPages}
use Rattle.scudo_heap.specs.Inner.{IsOpen}
use Rattle.scudo_heap.specs.Chunks.{end_of, block_end, with_size, after_retag_tail, with_header}
use Rattle.scudo_heap.specs.Placing.{World, new_header, after_give_back, after_resize}
use Rattle.scudo_heap.specs.Large.{large_header, large_given_back}
use Rattle.scudo_heap.specs.Allocation.{AllocationResult, no_chunk, after_malloc}
use Rattle.scudo_heap.specs.Checks.{size_found}
use Rattle.scudo_heap.specs.Freeing.{without_chunk as freed_world}
use Rattle.scudo_heap.specs.Realloc as heap
use Rattle.scudo_heap.specs.Realloc.{ReallocResult, user_of, user_of_chunk, after_copy, with_copied_bytes, after_move, with_new_size, realloc_cases, checked_realloc_cases, after_realloc, reallocation_of}
use Rattle.scudo_heap.specs.Calls.{after_call}
use Rattle.scudo_heap.proofs.MapLemmas.{without}
use Rattle.scudo_heap.proofs.OpenLemmas.{open-mapped}
use Rattle.mte_laws.specs.LiveChunks.{BlockChunk, IsPlace, chunk_at, new_chunk}
use Rattle.mte_laws.specs.LivePages.{new_large}
use Rattle.mte_laws.specs.CarefulRuns.{State, Live, found_at, with_made_chunk, without_freed_chunk, live_move_cases, with_size_of, live_after_resize_in_block, live_after_resize, live_after_realloc, live_realloc_cases, live_realloc, state_after_call, HasHeader, IsPointerTo}
use Rattle.mte_laws.specs.SoundHeaps.{Sound}
use Rattle.mte_laws.proofs.BlockCalls.{block-open}
use Rattle.mte_laws.proofs.BlockSounds.{present-tag}
use Rattle.mte_laws.proofs.BlockSteps.{at-with}
use Rattle.mte_laws.proofs.Refits.{after-retag-tail-fits}
use Rattle.mte_laws.proofs.Serving.{blocks-of}
use Rattle.mte_laws.proofs.Larges.{check-pointer-of}
use Rattle.mte_laws.proofs.MadeStates.{IsMade}
use Rattle.mte_laws.proofs.MadeCalls.{malloc-state-after-allocation}
use Rattle.mte_laws.proofs.FreeStates.{with-bytes-at-kept}
use Rattle.mte_laws.proofs.ReallocStates.{still-with-made-chunk}
use Rattle.mte_laws.proofs.Disciplines.{apart}
use Rattle.mte_laws.specs.NewChunks.{HasNewChunk, HasChunk}
use Rattle.mte_laws.specs.Reallocs.{ReallocatedChunksAreLive}
use Rattle.mte_laws.proofs.NewChunks.{HasNewHeader, made-live, malloc-written, new-live}
use Rattle.mte_laws.proofs.Chunks.{AnyChunk, IsIn, found_of, IsOwn, IsNamed, is, user-is, is-listed, is-found, is-apart, still-made, still-freed, named-by}
use Rattle.mte_laws.proofs.OtherBytes.{freed-byte}
use Rattle.mte_laws.proofs.Headers.{header-stays}

-- ---- a new chunk

abbrev chunk_of : Chunk → AnyChunk
chunk_of (Small p t) = inl (new_chunk Malloc p t)
chunk_of (Large m n) = inr (new_large Malloc m n)

abbrev header_of : AnyChunk → Header
header_of (inl x) = x.header
header_of (inr x) = x.header

has-chunk : (s : State) (d : Chunk) → IsIn s.live (user_of_chunk d) (chunk_of d) → HasHeader s.world (user_of_chunk d) (header_of (chunk_of d)) → HasChunk s d
has-chunk s (Small p t) e h = (new_header Malloc p, record { live = e; header = h })
has-chunk s (Large m n) e h = (large_header Malloc m n, record { live = e; header = h })

new-in : (s : State) (d : Chunk) → HasNewChunk s Malloc d → IsIn s.live (user_of_chunk d) (chunk_of d)
new-in s (Small p t) h = h.live
new-in s (Large m n) h = h.live

new-header : (s : State) (d : Chunk) → HasNewChunk s Malloc d → HasHeader s.world (user_of_chunk d) (header_of (chunk_of d))
new-header s (Small p t) h = h.header
new-header s (Large m n) h = h.header

-- the addresses of a chunk and its header
record IsWithin (s : State) (u : ℕ) (x : AnyChunk) : Type 0 where
  low : 16 ≤ u
  high : u ≤ 2 ^ 40
  own : (a : ℕ) → u - 16 ≤ a → a < u → IsOwn x a

is-within : (s : State) (u : ℕ) (x : AnyChunk) → Sound s → IsIn s.live u x → IsWithin s u x
is-within s u (inl x) k e =
    let b = blocks-of s k in
    let i = k.placed.place u x e in
    let user = k.placed.user u x e in
    let above = i.above in
    let within = i.within in
    let some = i.some in
    let below = (block-open s.world.memory s.world.heap.stacks x.place b.stacked b.served i).below in
    record { low = omega arith; high = omega arith; own = λ a from to. ((omega arith), (omega arith)) }
is-within s u (inr x) k e =
    let f = check-pointer-of s.world.heap.maps.mappings u x.mapping k.heap.parts.mappings (k.large.place u x e) in
    let w = without s.world.heap.maps.mappings x.mapping k.heap.parts.mappings (is-found s u (inr x) k e) in
    let last = w.last in
    let end = f.last in
    let start = k.large.above u x e in
    record { low = omega arith; high = omega arith; own = λ a from to. ((omega arith), (omega arith)) }

-- it has another address than the chunk that was there
differs : (s : State) (r : AllocationResult) (d : Chunk) (v : ℕ) (x : AnyChunk) → IsMade Malloc s r → r.chunk ≡ Some d → IsIn s.live v x
    → (t : State) → Sound t → IsIn t.live v x → IsIn t.live (user_of_chunk d) (chunk_of d) → user_of_chunk d ≢ v
differs s r (Small p n) v (inl x) m f e t k g h = m.apart p n f v x e
differs s r (Large q n) v (inr x) m f e t k g h = m.apart_large q n f v x e
differs s r (Small p n) v (inr x) m f e t k g h =
    let far = apart.both t p.user v (new_chunk Malloc p n) x k h g in
    λ q. omega arith
differs s r (Large q n) v (inl x) m f e t k g h =
    let far = apart.both t v q.user x (new_large Malloc q n) k g h in
    let user = k.placed.user v x g in
    λ z. omega arith

freed-cookie : (w : World) (f : Found) → (freed_world w f).heap.cookie ≡ w.heap.cookie
unfolding freed_world after_give_back large_given_back
freed-cookie w (InBlock p header) = refl
freed-cookie w (InPages m header) = refl

-- where a call answers a chunk, it is live
IsAnswered : Chunk → AllocationResult → Live → Type 0
IsAnswered c r l = r.chunk ≡ Some c → HasChunk (record { world = r.world; live = l }) c

module _ (s : State) (c : Chunk) (k : Sound s) where
  none-answered : (w : World) (l : Live) → IsAnswered c (record { world = w; chunk = None }) l
  unfolding IsAnswered
  none-answered w l = λ h. cc

  branch-answered : (b : Bool) (v w : AllocationResult) (l m : Live) → (b ≡ true → IsAnswered c v l) → (b ≡ false → IsAnswered c w m) → IsAnswered c (cond b v w) (cond b l m)
  branch-answered true v w l m f g = f refl
  branch-answered false v w l m f g = g refl

  move-to-answered : (v : ℕ) (x : AnyChunk) (size : ℕ) (r : AllocationResult) (o : Option Chunk) → IsIn s.live v x → size ≤ MAX_REQUEST → IsMade Malloc s r → r ≡ after_malloc s.world size → r.chunk ≡ o
      → IsAnswered c (heap.move_to_cases s.world (found_of x) size r.world o) (live_move_cases s.live (found_of x) o)
  unfolding after_copy IsAnswered
  move-to-answered v x size r None e most m is_malloc g = λ h. cc
  move-to-answered v x size r (Some d) e most m is_malloc g = λ h.
      let f = found_of x in
      let t : State = record { world = r.world; live = with_made_chunk Malloc s.live (Some d) } in
      let sound : Sound t = subst (λ o. Sound (record { world = r.world; live = with_made_chunk Malloc s.live o })) g m.sound in
      let n = min (size_found f) size in
      let bs = read_bytes r.world.memory (user_of f) n in
      let fewer : n ≤ size = min-le_right (size_found f) size in
      let len : length bs ≡ n = length-read_bytes r.world.memory (user_of f) n in
      let copied = with-bytes-at-kept t (user_of_chunk d) bs sound in
      let i : State = record t { world = with_copied_bytes r.world f d size } in
      let listed = still-with-made-chunk s r d (with_copied_bytes r.world f d size) m g (is-listed s v x k e) in
      let written = (subst (λ (w : AllocationResult). (y : Chunk) → w.chunk ≡ Some y → HasNewHeader w.world Malloc y) (sym is_malloc) (λ y q. (malloc-written s size k y q).header)) d g in
      let new : HasNewChunk t Malloc d = made-live Malloc s.live d r.world written in
      let y = chunk_of d in
      let here : IsIn t.live (user_of_chunk d) y = new-in t d new in
      let old : IsIn t.live v x = still-made s Malloc r d v x m g e in
      let other = differs s r d v x m g e t sound old here in
      let within = is-within t (user_of_chunk d) y sound here in
      let high = within.high in
      let user : user_of f ≡ v = user-is s v x k e in
      let w = freed_world i.world f in
      let header = header-stays r.world w (user_of_chunk d) (header_of y) within.low within.high (freed-cookie i.world f)
      (λ a from to.
      freed-byte i a copied.sound listed (λ p q. is-apart i (user_of_chunk d) v a y x copied.sound here old other (within.own a from (omega arith)) (p, q))
      ∙ byte_at-written_other r.world.memory (user_of_chunk d) bs a (λ j l q. omega arith))
      (new-header t d new) in
      let live : HasChunk (record { world = w; live = without_freed_chunk t.live f }) d = has-chunk (record { world = w; live = without_freed_chunk t.live f }) d (still-freed t.live f (user_of_chunk d) y (λ q. other (q ∙ user)) here) header in
      let same : d ≡ c = (let z : Some d ≡ Some c = h in cc) in
      subst (HasChunk (record { world = w; live = without_freed_chunk t.live f })) same live

  move-answered : (v : ℕ) (x : AnyChunk) (size : ℕ) → IsIn s.live v x → size ≤ MAX_REQUEST → IsAnswered c (after_move s.world (found_of x) size) (live_move_cases s.live (found_of x) (after_malloc s.world size).chunk)
  unfolding after_move
  move-answered v x size e most = move-to-answered v x size (after_malloc s.world size) (after_malloc s.world size).chunk e most (malloc-state-after-allocation s size k) refl refl

  -- ---- in its block

  resized-header : (x : BlockChunk) (size : ℕ) → chunk_at s.live.blocks x.place.user ≡ Some x → 0 < size → end_of (with_size x.place size) ≤ block_end x.place → HasHeader (after_resize s.world x.place x.header size) x.place.user (with_size_of x.header size)
  unfolding after_resize with_header
  resized-header x size e some fits =
      let p = x.place in
      let m = s.world.memory in
      let b = blocks-of s k in
      let i = k.placed.place p.user x e in
      let j : IsPlace s.world.heap.stacks (with_size p size) = record { carved = i.carved; aligned = i.aligned; above = i.above; within = fits; some = some } in
      let fit = after-retag-tail-fits m s.world.heap.stacks p size x.tag b.stacked b.served i j (k.tagged.chunks p.user x e) k.tagged.outside (present-tag m s.world.heap.stacks s.live.blocks b p.user x e) in
      let tail = fit.call in
      let around = block-open m s.world.heap.stacks p b.stacked b.served i in
      let above = i.above in
      let within = i.within in
      let below = around.below in
      let m1 = after_retag_tail m p size in
      let bytes = to_le_bytes w64 (packed_header s.world.heap.cookie p.user (with_size_of x.header size)) in
      let opened : IsOpen m1 (p.user - 16) (p.user - 16 + 8) = record { pages = λ a y v. tail.attrs (a / 4096) ∙ around.at a (omega arith) (omega arith); below = omega arith } in
      read_bytes-with-bytes-at m1 (p.user - 16) bytes (omega arith) (open-mapped m1 (p.user - 16) 8 8 refl opened) tail.whole

  resize-answered : (x : BlockChunk) (size : ℕ) → chunk_at s.live.blocks x.place.user ≡ Some x → 0 < size → end_of (with_size x.place size) ≤ block_end x.place
      → IsAnswered c (heap.after_resize_in_block s.world x.place x.header size) (live_after_resize_in_block s.world s.live x.place x.header size)
  unfolding IsAnswered
  resize-answered x size e some fits = λ h.
      let p = x.place in
      let y : BlockChunk = record { place = with_size p size; tag = tag_at s.world.memory p.user; header = with_size_of x.header size } in
      let d : Chunk = Small (with_size p size) (tag_at s.world.memory p.user) in
      let same : d ≡ c = (let z : Some d ≡ Some c = h in cc) in
      let t : State = record { world = after_resize s.world p x.header size; live = live_after_resize_in_block s.world s.live p x.header size } in
      let live : HasChunk t d = (y.header, record { live = at-with s.live.blocks y p.user ∙ cond-true _ _ _ (tied_same p.user); header = resized-header x size e some fits }) in
      subst (HasChunk t) same live

  -- ---- the call

  refit-answered : (v : ℕ) (x : AnyChunk) (size : ℕ) → IsIn s.live v x → 0 < size → size ≤ MAX_REQUEST → IsAnswered c (with_new_size s.world (found_of x) size) (live_after_resize s.world s.live (found_of x) size)
  unfolding with_new_size
  refit-answered v (inl x) size e some most =
      let f = InBlock x.place x.header in
      let here : chunk_at s.live.blocks x.place.user ≡ Some x = ap (chunk_at s.live.blocks) (user-is s v (inl x) k e) ∙ e in
      branch-answered (nat_le (end_of (with_size x.place size)) (block_end x.place)) (heap.after_resize_in_block s.world x.place x.header size) (after_move s.world f size)
      (live_after_resize_in_block s.world s.live x.place x.header size) (live_move_cases s.live f (after_malloc s.world size).chunk)
      (λ t. resize-answered x size here some (grind (arith, nat_tests)))
      (λ t. move-answered v (inl x) size e most)
  refit-answered v (inr x) size e some most = move-answered v (inr x) size e most

  cases-answered : (v : ℕ) (x : AnyChunk) (size : ℕ) → IsIn s.live v x → IsAnswered c (realloc_cases s.world (found_of x) size) (live_after_realloc s.world s.live (found_of x) size)
  unfolding realloc_cases
  cases-answered v x size e =
      let f = found_of x in
      branch-answered (size == 0) (record { world = freed_world s.world f; chunk = None }) (cond (nat_le size MAX_REQUEST) (with_new_size s.world f size) (no_chunk s.world))
      (without_freed_chunk s.live f) (cond (nat_le size MAX_REQUEST) (live_after_resize s.world s.live f size) s.live)
      (λ t. none-answered (freed_world s.world f) (without_freed_chunk s.live f))
      (λ t. branch-answered (nat_le size MAX_REQUEST) (with_new_size s.world f size) (no_chunk s.world) (live_after_resize s.world s.live f size) s.live
      (λ q. refit-answered v x size e (grind (arith, nat_tests)) (grind (arith, nat_tests))) (λ q. none-answered s.world s.live))

  -- the same of what the call answers
  IsGiven : ReallocResult → Live → Type 0
  IsGiven r l = r.result ≡ Ok (Some c) → HasChunk (record { world = r.world; live = l }) c

  of-allocation : (r : AllocationResult) (l : Live) → IsAnswered c r l → IsGiven (reallocation_of r) l
  unfolding IsAnswered IsGiven
  of-allocation r l f = λ h. f (let z : Ok r.chunk ≡ Ok (Some c) = h in cc)

  malloc-answered : (size : ℕ) → IsAnswered c (after_malloc s.world size) (with_made_chunk Malloc s.live (after_malloc s.world size).chunk)
  unfolding IsAnswered after_call state_after_call
  malloc-answered size = λ h.
      let t = state_after_call (call.Malloc size) s in
      let new = new-live.malloc s size c k h in
      has-chunk t c (new-in t c new) (new-header t c new)

  found-named : (v size : ℕ) (f : Found) → IsNamed s v f → IsGiven (reallocation_of (realloc_cases s.world f size)) (live_after_realloc s.world s.live f size)
  found-named v size f (is x e q) =
      subst (λ g. IsGiven (reallocation_of (realloc_cases s.world g size)) (live_after_realloc s.world s.live g size)) q
      (of-allocation (realloc_cases s.world (found_of x) size) (live_after_realloc s.world s.live (found_of x) size) (cases-answered v x size e))

  found-answered : (pointer size : ℕ) (r : Result Found HeapAbort) → IsPointerTo s pointer → pointer ≢ 0 → found_at s.world pointer ≡ r → IsGiven (checked_realloc_cases s.world size r) (live_realloc_cases s.world s.live size r)
  unfolding IsGiven
  found-answered pointer size (Err e) careful n g = λ h. cc
  found-answered pointer size (Ok f) careful n g =
      found-named (plain pointer) size f (named-by s pointer f k careful n g)

  branch-given : (b : Bool) (v w : ReallocResult) (l m : Live) → (b ≡ true → IsGiven v l) → (b ≡ false → IsGiven w m) → IsGiven (cond b v w) (cond b l m)
  branch-given true v w l m f g = f refl
  branch-given false v w l m f g = g refl

  realloc-answered : (pointer size : ℕ) → IsPointerTo s pointer → IsGiven (after_realloc s.world pointer size) (live_realloc s pointer size)
  unfolding after_realloc
  realloc-answered pointer size careful =
      let made = after_malloc s.world size in
      branch-given (pointer == 0) (reallocation_of made) (checked_realloc_cases s.world size (found_at s.world pointer)) (with_made_chunk Malloc s.live made.chunk) (live_realloc_cases s.world s.live size (found_at s.world pointer))
      (λ t. of-allocation made (with_made_chunk Malloc s.live made.chunk) (malloc-answered size))
      (λ t. found-answered pointer size (found_at s.world pointer) careful (grind (arith, nat_tests)) refl)

pub reallocated-live : ReallocatedChunksAreLive
unfolding after_call state_after_call IsGiven
reallocated-live = λ s pointer size c k careful h. realloc-answered s c k pointer size careful h
