-- A call leaves the header of a chunk that it does not name as the heap wrote it.
use Rattle.std.proofs.Common.{◌≡◌, ℕ, ◌+◌, ◌-◌, ◌*◌, ◌%◌, ◌^◌, ◌≤◌, ◌==◌, nat_le, max, cond, Option, Some, None, Result, Ok, Err, refl, sym, ap, ◌∙◌, inr, arith}
use Rattle.std.specs.Int.{to_le_bytes, w64}
use Rattle.a64_bits.specs.Addresses.{plain}
use Rattle.mte_tags.proofs.ByteLaws.{read_bytes-same}
use Rattle.scudo_header.specs.Headers.{packed_header}
use Rattle.scudo_header.specs.declared.headers.Header.{Header}
use Rattle.scudo_header.specs.declared.headers.Origin.{Origin}
use Rattle.scudo_header.specs.declared.headers.Origin.TheVariants as origin
use Rattle.scudo_heap.specs.declared.abort.HeapAbort.{HeapAbort}
use Rattle.scudo_heap.specs.declared.call.HeapCall.{HeapCall}
use Rattle.scudo_heap.specs.declared.call.HeapCall.TheVariants.{Malloc, Free, Calloc, Realloc, Memalign, UsableSize}
use Rattle.scudo_header.specs.declared.config.TheConstants.{MAX_REQUEST}
use Rattle.scudo_heap.specs.declared.chunk.Found.{Found}
use Rattle.scudo_heap.specs.declared.chunk.Found.TheVariants.{InBlock, InPages}
use Rattle.scudo_heap.specs.declared.chunk.Chunk.{Chunk}
use Rattle.scudo_heap.specs.Inner.{IsAlign}
use Rattle.scudo_heap.specs.Chunks.{end_of, block_end, with_size}
use Rattle.scudo_heap.specs.Placing.{World, after_place, after_give_back, after_resize}
use Rattle.scudo_heap.specs.Large.{large_placed, large_given_back}
use Rattle.scudo_heap.specs.Allocation.{AllocationResult, no_chunk, is_alignment, after_allocate, after_malloc, after_calloc, after_memalign}
use Rattle.scudo_heap.specs.Freeing.{Freed as FreeResult, without_chunk as freed_world, free_cases, free_of}
use Rattle.scudo_heap.specs.Realloc as heap
use Rattle.scudo_heap.specs.Realloc.{ReallocResult, after_move, with_new_size, realloc_cases, checked_realloc_cases, after_realloc, reallocation_of}
use Rattle.scudo_heap.specs.Calls.{after_call}
use Rattle.scudo_heap.proofs.AllocationLemmas.{power-align}
use Rattle.scudo_heap.proofs.MapLemmas.{without}
use Rattle.mte_laws.specs.CarefulRuns.{State, found_at, HasHeader, state_after_call}
use Rattle.mte_laws.specs.SoundHeaps.{Sound}
use Rattle.mte_laws.proofs.SoundAllocations.{branch}
use Rattle.mte_laws.proofs.BlockCalls.{block-open}
use Rattle.mte_laws.proofs.Larges.{check-pointer-of}
use Rattle.mte_laws.proofs.Serving.{blocks-of}
use Rattle.mte_laws.specs.OtherChunks.{AreSame, OtherHeadersStay}
use Rattle.mte_laws.proofs.Allocations.{each-allocation}
use Rattle.mte_laws.proofs.NewChunks.{least-align}
use Rattle.mte_laws.proofs.Chunks.{is-found}
use Rattle.mte_laws.proofs.OtherBytes.{others-stay}

-- ---- no call changes the cookie

module _ (s : State) (k : Sound s) where
  abbrev HasCookie : World → Type 0
  HasCookie w = w.heap.cookie ≡ s.world.heap.cookie

  allocate-cookie : (o : Origin) (align size : ℕ) → IsAlign align → HasCookie (after_allocate s.world o align size).world
  unfolding after_place large_placed
  allocate-cookie o align size al = each-allocation (λ (r : AllocationResult). HasCookie r.world) o s align k al refl (λ v p r i. r.cookie) (λ z n start g. refl) size

  malloc-cookie : (size : ℕ) → HasCookie (after_malloc s.world size).world
  unfolding after_malloc
  malloc-cookie size = allocate-cookie origin.Malloc 16 size least-align

  calloc-cookie : (count size : ℕ) → HasCookie (after_calloc s.world count size).world
  unfolding after_calloc
  calloc-cookie count size = allocate-cookie origin.Malloc 16 (count * size) least-align

  memalign-cookie : (align size : ℕ) → HasCookie (after_memalign s.world align size).world
  unfolding after_memalign
  memalign-cookie align size =
      branch (λ (r : AllocationResult). HasCookie r.world) (is_alignment align) (after_allocate s.world origin.Memalign (max align 16) size) (no_chunk s.world)
      (λ t. allocate-cookie origin.Memalign (max align 16) size (power-align align t))
      (λ t. refl)

  freed-cookie : (w : World) (f : Found) → HasCookie w → HasCookie (freed_world w f)
  unfolding freed_world after_give_back large_given_back
  freed-cookie w (InBlock p header) h = h
  freed-cookie w (InPages m header) h = h

  move-to-cookie : (f : Found) (size : ℕ) (w : World) (c : Option Chunk) → HasCookie w → HasCookie (heap.move_to_cases s.world f size w c).world
  move-to-cookie f size w None h = refl
  move-to-cookie f size w (Some d) h = freed-cookie (heap.with_copied_bytes w f d size) f h

  move-cookie : (f : Found) (size : ℕ) → HasCookie (after_move s.world f size).world
  unfolding after_move
  move-cookie f size = move-to-cookie f size (after_malloc s.world size).world (after_malloc s.world size).chunk (malloc-cookie size)

  refit-cookie : (f : Found) (size : ℕ) → HasCookie (with_new_size s.world f size).world
  unfolding with_new_size after_resize
  refit-cookie (InBlock p header) size =
      branch (λ (r : AllocationResult). HasCookie r.world) (nat_le (end_of (with_size p size)) (block_end p)) (heap.after_resize_in_block s.world p header size) (after_move s.world (InBlock p header) size)
      (λ t. refl) (λ t. move-cookie (InBlock p header) size)
  refit-cookie (InPages m header) size = move-cookie (InPages m header) size

  cases-cookie : (f : Found) (size : ℕ) → HasCookie (realloc_cases s.world f size).world
  unfolding realloc_cases
  cases-cookie f size =
      branch (λ (r : AllocationResult). HasCookie r.world) (size == 0) (record { world = freed_world s.world f; chunk = None }) (cond (nat_le size MAX_REQUEST) (with_new_size s.world f size) (no_chunk s.world))
      (λ t. freed-cookie s.world f refl)
      (λ t. branch (λ (r : AllocationResult). HasCookie r.world) (nat_le size MAX_REQUEST) (with_new_size s.world f size) (no_chunk s.world) (λ v. refit-cookie f size) (λ v. refl))

  free-by : (r : Result Found HeapAbort) → HasCookie (free_cases s.world r).world
  free-by (Err e) = refl
  free-by (Ok f) = freed-cookie s.world f refl

  realloc-by : (size : ℕ) (r : Result Found HeapAbort) → HasCookie (checked_realloc_cases s.world size r).world
  realloc-by size (Err e) = refl
  realloc-by size (Ok f) = cases-cookie f size

  free-cookie : (pointer : ℕ) → HasCookie (free_of s.world pointer).world
  unfolding free_of
  free-cookie pointer =
      branch (λ (r : FreeResult). HasCookie r.world) (pointer == 0) (record { world = s.world; result = Ok tt }) (free_cases s.world (found_at s.world pointer)) (λ t. refl) (λ t. free-by (found_at s.world pointer))

  realloc-cookie : (pointer size : ℕ) → HasCookie (after_realloc s.world pointer size).world
  unfolding after_realloc
  realloc-cookie pointer size =
      branch (λ (r : ReallocResult). HasCookie r.world) (pointer == 0) (reallocation_of (after_malloc s.world size)) (checked_realloc_cases s.world size (found_at s.world pointer)) (λ t. malloc-cookie size) (λ t. realloc-by size (found_at s.world pointer))

  pub call-cookie : (c : HeapCall) → HasCookie (state_after_call c s).world
  unfolding after_call state_after_call
  call-cookie (Malloc size) = malloc-cookie size
  call-cookie (Free pointer) = free-cookie pointer
  call-cookie (Calloc count size) = calloc-cookie count size
  call-cookie (Realloc pointer size) = realloc-cookie pointer size
  call-cookie (Memalign align size) = memalign-cookie align size
  call-cookie (UsableSize pointer) = refl

-- ---- a header whose bytes and cookie stay

pub header-stays : (v w : World) (u : ℕ) (header : Header) → 16 ≤ u → u ≤ 2 ^ 40 → w.heap.cookie ≡ v.heap.cookie → AreSame v.memory w.memory (u - 16) (u - 8) → HasHeader v u header → HasHeader w u header
header-stays v w u header low high cookie same h =
    read_bytes-same w.memory v.memory (u - 16) 8 (λ i l. same ((plain (u - 16) + i) % 2 ^ 56) (omega arith) (omega arith))
    ∙ h ∙ ap (λ c. to_le_bytes w64 (packed_header c u header)) (sym cookie)

pub headers-stay : OtherHeadersStay
headers-stay = record {
  blocks = λ s c u x k careful n l.
      let stay = others-stay.blocks s c u x k careful n l.live in
      let i = k.placed.place u x l.live in
      let user = k.placed.user u x l.live in
      let b = blocks-of s k in
      let around = block-open s.world.memory s.world.heap.stacks x.place b.stacked b.served i in
      let above = i.above in
      let within = i.within in
      let some = i.some in
      let below = around.below in
      let same = stay.1 in
      record { live = stay.0; header = header-stays s.world (state_after_call c s).world u x.header (omega arith) (omega arith) (call-cookie s k c) (λ a from to. same a from (omega arith)) l.header };
  pages = λ s c u x k careful n l.
      let stay = others-stay.pages s c u x k careful n l.live in
      let f = check-pointer-of s.world.heap.maps.mappings u x.mapping k.heap.parts.mappings (k.large.place u x l.live) in
      let w = without s.world.heap.maps.mappings x.mapping k.heap.parts.mappings (is-found s u (inr x) k l.live) in
      let last = w.last in
      let end = f.last in
      let start = k.large.above u x l.live in
      let same = stay.1 in
      record { live = stay.0; header = header-stays s.world (state_after_call c s).world u x.header (omega arith) (omega arith) (call-cookie s k c) (λ a from to. same a (omega arith) (omega arith)) l.header };
}
