-- What a call leaves of a chunk that it does not name.
use Rattle.std.proofs.Common.{◌≡◌, ◌≢◌, ℕ, ◌+◌, ◌-◌, ◌*◌, ◌/◌, ◌%◌, ◌^◌, ◌<◌, ◌≤◌, ◌==◌, nat_le, nat_lt, length, max, Bool, true, false, cond, Option, Some, None, Result, Ok, Err, refl, sym, ap, subst, ◌∙◌, inl, inr, arith}
use Rattle.std.proofs.lemmas.Bool.Decides.{nat_tests}
use Rattle.std.proofs.Math.Nat.{min-le_right}
use Rattle.std.specs.Prelude.{min}
use Rattle.std.specs.Int.{to_le_bytes, w64}
use Rattle.a64_bits.specs.Addresses.{plain}
use Rattle.common.specs.declared.limits.TheConstants.{PAGE_SIZE}
use Rattle.mte_tags.specs.Memory.{Memory, byte_at, byte_cases, tag_at, with_granules, with_new_pages}
use Rattle.mte_tags.specs.Accesses.{read_bytes}
use Rattle.mte_tags.specs.RandomTags.{after_draw}
use Rattle.mte_tags.specs.Whole.{IsWhole}
use Rattle.mte_tags.proofs.ByteLaws.{byte_at-written_other, length-read_bytes}
use Rattle.mte_tags.proofs.PageLaws.{page_at-with_new_pages_out, page_at-without_pages_out}
use Rattle.mte_tags.proofs.TagLaws.{byte_at-with_granules_kept, byte_at-with_granules_out}
use Rattle.scudo_header.specs.Headers.{packed_header}
use Rattle.scudo_header.specs.declared.headers.Header.{Header}
use Rattle.scudo_header.specs.declared.headers.State.TheVariants.{Available}
use Rattle.scudo_header.specs.declared.headers.Origin.{Origin}
use Rattle.scudo_header.specs.declared.headers.Origin.TheVariants as origin
use Rattle.scudo_heap.specs.declared.abort.HeapAbort.{HeapAbort}
use Rattle.scudo_heap.specs.declared.call.HeapCall.{HeapCall}
use Rattle.scudo_heap.specs.declared.call.HeapCall.TheVariants.{Malloc, Free, Calloc, Realloc, Memalign, UsableSize}
use Rattle.scudo_header.specs.declared.config.TheConstants.{MAX_REQUEST}
use Rattle.scudo_heap.specs.declared.chunk.Place.{Place}
use Rattle.scudo_heap.specs.declared.chunk.Chunk.{Chunk}
use Rattle.scudo_heap.specs.declared.chunk.Found.{Found}
use Rattle.scudo_heap.specs.declared.chunk.Found.TheVariants.{InBlock, InPages}
use Rattle.scudo_heap.specs.Inner.{IsAlign}
use Rattle.scudo_heap.specs.Chunks.{end_of, block_end, granules_of, with_size, excluded_tags, with_chunk_tag, with_header_tag_0, with_end_tag_0, after_retag_tail, with_header}
use Rattle.scudo_heap.specs.Placing.{World, heap_attrs, new_header, after_place, after_give_back, after_resize}
use Rattle.scudo_heap.specs.Large.{mapping_for, large_header, large_placed, large_given_back}
use Rattle.scudo_heap.specs.Allocation.{AllocationResult, allocation_of, no_chunk, is_alignment, after_allocate, after_malloc, after_calloc, after_memalign}
use Rattle.scudo_heap.specs.Checks.{size_found}
use Rattle.scudo_heap.specs.Freeing.{Freed as FreeResult, without_chunk as freed_world, free_cases, free_of}
use Rattle.scudo_heap.specs.Realloc as heap
use Rattle.scudo_heap.specs.Realloc.{ReallocResult, user_of, user_of_chunk, after_copy, with_copied_bytes, after_move, with_new_size, realloc_cases, checked_realloc_cases, after_realloc, reallocation_of}
use Rattle.scudo_heap.specs.Calls.{after_call}
use Rattle.scudo_heap.proofs.AllocationLemmas.{power-align}
use Rattle.scudo_heap.proofs.BesideLemmas.{start_of, stop_of, malloc-beside}
use Rattle.mte_laws.specs.LiveChunks.{BlockChunk, LiveBlocks, IsPlace, chunk_at}
use Rattle.mte_laws.specs.CarefulRuns.{State, Live, found_at, with_made_chunk, without_freed_chunk, live_move_cases, live_after_resize_in_block, with_size_of, live_after_resize, live_after_realloc, live_free_cases, live_realloc_cases, live_free, live_realloc, state_after_call, IsPointerTo, IsCareful}
use Rattle.mte_laws.specs.SoundHeaps.{Sound}
use Rattle.mte_laws.proofs.SoundAllocations.{IsSoundIn, branch}
use Rattle.mte_laws.proofs.BlockCalls.{block-open}
use Rattle.mte_laws.proofs.Serving.{blocks-of}
use Rattle.mte_laws.proofs.Larges.{check-pointer-of}
use Rattle.mte_laws.proofs.MadeLarges.{at, large}
use Rattle.mte_laws.proofs.MadeStates.{IsMade}
use Rattle.mte_laws.proofs.MadeCalls.{malloc-state-after-allocation, calloc-state-after-allocation, memalign-state-after-allocation}
use Rattle.mte_laws.proofs.FoundStates.{IsListed, block, pages}
use Rattle.mte_laws.proofs.FreeStates.{with-bytes-at-kept}
use Rattle.mte_laws.proofs.ReallocStates.{chunk-with, still-with-made-chunk}
use Rattle.mte_laws.specs.OtherChunks.{IsOfOthers, OtherChunksStay}
use Rattle.mte_laws.proofs.Allocations.{IsMappable, each-allocation}
use Rattle.mte_laws.proofs.NewChunks.{least-align}
use Rattle.mte_laws.proofs.Chunks.{AnyChunk, IsIn, found_of, IsOwn, IsTaken, IsNamed, is, user-is, is-listed, is-found, is-taken, is-apart, still-made, still-freed, named-by}

-- ---- an allocation

pub place-byte : (w : World) (l : LiveBlocks) (o : Origin) (p : Place) → IsSoundIn w l → IsPlace w.heap.stacks p → (a : ℕ) → (p.block ≤ a → a < block_end p → ⊥) → byte_at (after_place w o p).memory a ≡ byte_at w.memory a
unfolding after_place with_header with_end_tag_0 with_header_tag_0 with_chunk_tag
place-byte w l o p s i a far =
    let t = (after_draw w.rgsr (excluded_tags w.memory p)).tag in
    let bytes = to_le_bytes w64 (packed_header w.heap.cookie p.user (new_header o p)) in
    let m1 = with_chunk_tag w.memory p t in
    let m2 = with_header_tag_0 m1 p in
    let m3 = with_end_tag_0 m2 p in
    let around = block-open w.memory w.heap.stacks p s.stacked s.served i in
    let above = i.above in
    let within = i.within in
    let below = around.below in
    let al = i.aligned in
    let some = i.some in
    byte_at-written_other m3 (p.user - 16) bytes a (λ j k q. far (omega arith) (omega arith))
    ∙ branch (λ k. byte_at k a ≡ byte_at m2 a) (nat_lt (end_of p) (block_end p)) (with_granules m2 (end_of p) 1 0 false) m2 (λ _. byte_at-with_granules_kept 1 m2 (end_of p) 0 a) (λ _. refl)
    ∙ byte_at-with_granules_kept 1 m1 (p.user - 16) 0 a
    ∙ byte_at-with_granules_out (granules_of p.size) w.memory p.user t a true (omega arith) (λ j k q. far (omega arith) (omega arith)) s.served.whole

pub pages-byte : (s : State) (o : Origin) (align size n start a : ℕ) → Sound s → IsAlign align → IsMappable s align size n start → (start ≤ a → a < start + PAGE_SIZE * n → ⊥)
    → byte_at (large_placed s.world o (mapping_for start n align size) size).memory a ≡ byte_at s.world.memory a
unfolding large_placed with_header byte_at
pages-byte s o align size n start a k al g far =
    let w = s.world in
    let m = mapping_for start n align size in
    let there = at o s align size n start k al g.some g.small g.few g.need g.place g.left in
    let fits = large o s align size n start k al g.some g.small g.few g.need g.place g.left in
    let aligned = there.aligned in
    let above = there.above in
    let end = there.below in
    let first_byte = fits.above in
    let last_byte = fits.below in
    let bytes = to_le_bytes w64 (packed_header w.heap.cookie m.user (large_header o m size)) in
    byte_at-written_other (with_new_pages w.memory (start / PAGE_SIZE) n heap_attrs) (m.user - 16) bytes a (λ j v q. far (omega arith) (omega arith))
    ∙ ap (λ p. byte_cases p (a % 4096)) (page_at-with_new_pages_out n w.memory (start / PAGE_SIZE) heap_attrs (a / 4096) (λ low high. far (omega arith) (omega arith)))

abbrev HasByte : State → ℕ → AllocationResult → Type 0
HasByte s a r = byte_at r.world.memory a ≡ byte_at s.world.memory a

allocate-byte : (s : State) (o : Origin) (align size a : ℕ) → Sound s → IsAlign align → IsTaken s a → HasByte s a (after_allocate s.world o align size)
allocate-byte s o align size a k al t =
    each-allocation (HasByte s a) o s align k al refl
    (λ v p r i. place-byte v s.live.blocks o p r.sound i.place a (λ from to. t.block v p i.more r.sound i.place i.top from to) ∙ r.bytes a t.mapped)
    (λ z n start g. pages-byte s o align z n start a k al g (λ from to. t.pages n start (at o s align z n start k al g.some g.small g.few g.need g.place g.left) from to))
    size

pub malloc-byte : (s : State) (size a : ℕ) → Sound s → IsTaken s a → HasByte s a (after_malloc s.world size)
unfolding after_malloc
malloc-byte s size a k t = allocate-byte s origin.Malloc 16 size a k least-align t

calloc-byte : (s : State) (count size a : ℕ) → Sound s → IsTaken s a → HasByte s a (after_calloc s.world count size)
unfolding after_calloc
calloc-byte s count size a k t = allocate-byte s origin.Malloc 16 (count * size) a k least-align t

memalign-byte : (s : State) (align size a : ℕ) → Sound s → IsTaken s a → HasByte s a (after_memalign s.world align size)
unfolding after_memalign
memalign-byte s align size a k t =
    branch (HasByte s a) (is_alignment align) (after_allocate s.world origin.Memalign (max align 16) size) (no_chunk s.world)
    (λ e. allocate-byte s origin.Memalign (max align 16) size a k (power-align align e) t)
    (λ e. refl)

-- ---- a free

given-byte : (w : World) (l : LiveBlocks) (p : Place) (header : Header) → IsSoundIn w l → IsPlace w.heap.stacks p → (a : ℕ) → (p.block ≤ a → a < block_end p → ⊥) → byte_at (after_give_back w p header).memory a ≡ byte_at w.memory a
unfolding after_give_back with_header with_chunk_tag
given-byte w l p header s i a far =
    let t = (after_draw w.rgsr (excluded_tags w.memory p)).tag in
    let bytes = to_le_bytes w64 (packed_header w.heap.cookie p.user (record header { state = Available })) in
    let m1 = with_chunk_tag w.memory p t in
    let around = block-open w.memory w.heap.stacks p s.stacked s.served i in
    let above = i.above in
    let within = i.within in
    let below = around.below in
    let al = i.aligned in
    let some = i.some in
    byte_at-written_other m1 (p.user - 16) bytes a (λ j k q. far (omega arith) (omega arith))
    ∙ byte_at-with_granules_out (granules_of p.size) w.memory p.user t a true (omega arith) (λ j k q. far (omega arith) (omega arith)) s.served.whole

pub freed-byte : (s : State) {f : Found} (a : ℕ) → Sound s → IsListed s f → (start_of f ≤ a → a < stop_of f → ⊥) → byte_at (freed_world s.world f).memory a ≡ byte_at s.world.memory a
unfolding freed_world large_given_back byte_at
freed-byte s a k (block x e) far = given-byte s.world s.live.blocks x.place x.header (blocks-of s k) (k.placed.place x.place.user x e) a far
freed-byte s a k (pages x e) far =
    let f = check-pointer-of s.world.heap.maps.mappings x.mapping.user x.mapping k.heap.parts.mappings (k.large.place x.mapping.user x e) in
    let aligned = f.aligned in
    ap (λ p. byte_cases p (a % 4096)) (page_at-without_pages_out x.mapping.pages s.world.memory (x.mapping.start / PAGE_SIZE) (a / 4096) (λ low high. far (omega arith) (omega arith)))

-- ---- another size in the same block

grown-byte : (m : Memory) (p : Place) (size a : ℕ) → IsWhole m → p.user % 16 ≡ 0 → p.block ≤ p.user → end_of (with_size p size) ≤ block_end p → end_of p ≤ block_end p → block_end p ≤ 2 ^ 40 → (p.block ≤ a → a < block_end p → ⊥)
    → byte_at (with_granules m (end_of p) (granules_of size - granules_of p.size) (tag_at m p.user) true) a ≡ byte_at m a
grown-byte m p size a whole al above within old below far = byte_at-with_granules_out (granules_of size - granules_of p.size) m (end_of p) (tag_at m p.user) a true (omega arith) (λ j v q. far (omega arith) (omega arith)) whole

tail-byte : (m : Memory) (p : Place) (size a : ℕ) → IsWhole m → p.user % 16 ≡ 0 → p.block ≤ p.user → end_of (with_size p size) ≤ block_end p → end_of p ≤ block_end p → block_end p ≤ 2 ^ 40 → (p.block ≤ a → a < block_end p → ⊥)
    → byte_at (after_retag_tail m p size) a ≡ byte_at m a
unfolding after_retag_tail with_end_tag_0
tail-byte m p size a whole al above within old below far =
    let m1 = with_granules m (end_of p) (granules_of size - granules_of p.size) (tag_at m p.user) true in
    let q = with_size p size in
    branch (λ n. byte_at n a ≡ byte_at m a) (nat_lt (granules_of p.size) (granules_of size)) _ _
    (λ t. branch (λ n. byte_at n a ≡ byte_at m a) (nat_lt (end_of q) (block_end q)) (with_granules m1 (end_of q) 1 0 false) m1
    (λ v. byte_at-with_granules_kept 1 m1 (end_of q) 0 a ∙ grown-byte m p size a whole al above within old below far)
    (λ v. grown-byte m p size a whole al above within old below far))
    (λ t. byte_at-with_granules_kept (granules_of p.size - granules_of size) m (end_of q) 0 a)

pub resized-byte : (s : State) (x : BlockChunk) (size a : ℕ) → Sound s → chunk_at s.live.blocks x.place.user ≡ Some x → end_of (with_size x.place size) ≤ block_end x.place → (x.place.block ≤ a → a < block_end x.place → ⊥)
    → byte_at (after_resize s.world x.place x.header size).memory a ≡ byte_at s.world.memory a
unfolding after_resize with_header
resized-byte s x size a k e within far =
    let p = x.place in
    let b = blocks-of s k in
    let i = k.placed.place p.user x e in
    let around = block-open s.world.memory s.world.heap.stacks p b.stacked b.served i in
    let above = i.above in
    let old = i.within in
    let some = i.some in
    let below = around.below in
    let bytes = to_le_bytes w64 (packed_header s.world.heap.cookie p.user (record (x.header) { size_or_unused_bytes = size })) in
    byte_at-written_other (after_retag_tail s.world.memory p size) (p.user - 16) bytes a (λ j v q. far (omega arith) (omega arith))
    ∙ tail-byte s.world.memory p size a k.whole i.aligned (omega arith) within old (omega arith) far

-- ---- a chunk that is neither freed nor resized

module _ (s : State) (u a : ℕ) (x : AnyChunk) (k : Sound s) (e : IsIn s.live u x) (own : IsOwn x a) where
  -- it is live, with its byte at the address
  abbrev IsStill : World → Live → Type 0
  IsStill w l = IsIn l u x × (byte_at w.memory a ≡ byte_at s.world.memory a)

  made-still : (o : Origin) (r : AllocationResult) (c : Option Chunk) → IsMade o s r → r.chunk ≡ c → HasByte s a r → IsStill r.world (with_made_chunk o s.live c)
  made-still o r None m f h = (e, h)
  made-still o r (Some d) m f h = (still-made s o r d u x m f e, h)

  -- another chunk is found
  record IsOther (f : Found) : Type 0 where
    listed : IsListed s f
    far : start_of f ≤ a → a < stop_of f → ⊥
    user : u ≢ user_of f

  other-by : (v : ℕ) (f : Found) → u ≢ v → IsNamed s v f → IsOther f
  other-by v f n (is y g q) = subst IsOther q (record {
    listed = is-listed s v y k g;
    far = λ from to. is-apart s u v a x y k e g n own (from, to);
    user = λ z. n (z ∙ user-is s v y k g);
  })

  freed-still : (f : Found) → IsOther f → IsStill (freed_world s.world f) (without_freed_chunk s.live f)
  freed-still f o = (still-freed s.live f u x o.user e, freed-byte s a k o.listed o.far)

  branch-still : (b : Bool) (v w : AllocationResult) (l m : Live) → (b ≡ true → IsStill v.world l) → (b ≡ false → IsStill w.world m) → IsStill (cond b v w).world (cond b l m)
  branch-still true v w l m f g = f refl
  branch-still false v w l m f g = g refl

  -- ---- a move

  move-to-still : (f : Found) (size : ℕ) (r : AllocationResult) (c : Option Chunk) → IsOther f → 0 < size → size ≤ MAX_REQUEST → IsMade origin.Malloc s r → r ≡ after_malloc s.world size → r.chunk ≡ c
      → IsStill (heap.move_to_cases s.world f size r.world c).world (live_move_cases s.live f c)
  unfolding after_copy
  move-to-still f size r None o pos most m is_malloc g = (e, refl)
  move-to-still f size r (Some d) o pos most m is_malloc g =
      let t : State = record { world = r.world; live = with_made_chunk origin.Malloc s.live (Some d) } in
      let sound : Sound t = subst (λ c. Sound (record { world = r.world; live = with_made_chunk origin.Malloc s.live c })) g m.sound in
      let n = min (size_found f) size in
      let bs = read_bytes r.world.memory (user_of f) n in
      let copied = with-bytes-at-kept t (user_of_chunk d) bs sound in
      let v : State = record t { world = with_copied_bytes r.world f d size } in
      let listed = still-with-made-chunk s r d (with_copied_bytes r.world f d size) m g o.listed in
      let made : allocation_of r.world (Some d) ≡ after_malloc s.world size = ap (allocation_of r.world) (sym g) ∙ is_malloc in
      let beside = malloc-beside s.world r.world size (found_of x) d k.heap.parts.stacks k.heap.parts.mappings sound.heap.owned pos most (is-found s u x k e) made in
      let below = beside.bytes.below in
      let fewer : n ≤ size = min-le_right (size_found f) size in
      let len : length bs ≡ n = length-read_bytes r.world.memory (user_of f) n in
      let low = own.0 in
      let high = own.1 in (
        still-freed (with_made_chunk origin.Malloc s.live (Some d)) f u x o.user (still-made s origin.Malloc r d u x m g e),
        freed-byte v a copied.sound listed o.far
            ∙ byte_at-written_other r.world.memory (user_of_chunk d) bs a (λ j h q. elim beside.apart [ inl z ↦ omega arith | inr z ↦ omega arith ])
            ∙ ap (λ (w : AllocationResult). byte_at w.world.memory a) is_malloc
            ∙ malloc-byte s size a k (is-taken s u a x k e own),
      )

  move-still : (f : Found) (size : ℕ) → IsOther f → 0 < size → size ≤ MAX_REQUEST → IsStill (after_move s.world f size).world (live_move_cases s.live f (after_malloc s.world size).chunk)
  unfolding after_move
  move-still f size o pos most = move-to-still f size (after_malloc s.world size) (after_malloc s.world size).chunk o pos most (malloc-state-after-allocation s size k) refl refl

  -- ---- a reallocation

  still-resized : (y : BlockChunk) (size : ℕ) (z : AnyChunk) → u ≢ y.place.user → IsIn s.live u z → IsIn (live_after_resize_in_block s.world s.live y.place y.header size) u z
  still-resized y size (inl z) n g = chunk-with s.live.blocks (record { place = with_size y.place size; tag = tag_at s.world.memory y.place.user; header = with_size_of y.header size }) u (λ q. n (sym q)) ∙ g
  still-resized y size (inr z) n g = g

  refit-still : (f : Found) (size : ℕ) → IsListed s f → (start_of f ≤ a → a < stop_of f → ⊥) → u ≢ user_of f → 0 < size → size ≤ MAX_REQUEST → IsStill (with_new_size s.world f size).world (live_after_resize s.world s.live f size)
  unfolding with_new_size
  refit-still _ size (block y g) far n pos most =
      let f = InBlock y.place y.header in
      branch-still (nat_le (end_of (with_size y.place size)) (block_end y.place)) (heap.after_resize_in_block s.world y.place y.header size) (after_move s.world f size)
      (live_after_resize_in_block s.world s.live y.place y.header size) (live_move_cases s.live f (after_malloc s.world size).chunk)
      (λ t. (still-resized y size x n e, resized-byte s y size a k g (grind (arith, nat_tests)) far))
      (λ t. move-still f size (record { listed = block y g; far = far; user = n }) pos most)
  refit-still _ size (pages y g) far n pos most = move-still (InPages y.mapping y.header) size (record { listed = pages y g; far = far; user = n }) pos most

  realloc-still : (f : Found) (size : ℕ) → IsOther f → IsStill (realloc_cases s.world f size).world (live_after_realloc s.world s.live f size)
  unfolding realloc_cases
  realloc-still f size o =
      branch-still (size == 0) (record { world = freed_world s.world f; chunk = None }) (cond (nat_le size MAX_REQUEST) (with_new_size s.world f size) (no_chunk s.world))
      (without_freed_chunk s.live f) (cond (nat_le size MAX_REQUEST) (live_after_resize s.world s.live f size) s.live)
      (λ t. freed-still f o)
      (λ t. branch-still (nat_le size MAX_REQUEST) (with_new_size s.world f size) (no_chunk s.world) (live_after_resize s.world s.live f size) s.live
      (λ v. refit-still f size o.listed o.far o.user (grind (arith, nat_tests)) (grind (arith, nat_tests)))
      (λ v. (e, refl)))

  -- ---- the calls

  free-by : (pointer : ℕ) (r : Result Found HeapAbort) → IsPointerTo s pointer → u ≢ plain pointer → pointer ≢ 0 → found_at s.world pointer ≡ r → IsStill (free_cases s.world r).world (live_free_cases s.live r)
  free-by pointer (Err b) careful n some g = (e, refl)
  free-by pointer (Ok f) careful n some g = freed-still f (other-by (plain pointer) f n (named-by s pointer f k careful some g))

  branch-free : (b : Bool) (v w : FreeResult) (l m : Live) → (b ≡ true → IsStill v.world l) → (b ≡ false → IsStill w.world m) → IsStill (cond b v w).world (cond b l m)
  branch-free true v w l m f g = f refl
  branch-free false v w l m f g = g refl

  free-still : (pointer : ℕ) → IsPointerTo s pointer → u ≢ plain pointer → IsStill (free_of s.world pointer).world (live_free s pointer)
  unfolding free_of
  free-still pointer careful n =
      branch-free (pointer == 0) (record { world = s.world; result = Ok tt }) (free_cases s.world (found_at s.world pointer)) s.live (live_free_cases s.live (found_at s.world pointer))
      (λ t. (e, refl))
      (λ t. free-by pointer (found_at s.world pointer) careful n (grind (arith, nat_tests)) refl)

  realloc-by : (pointer size : ℕ) (r : Result Found HeapAbort) → IsPointerTo s pointer → u ≢ plain pointer → pointer ≢ 0 → found_at s.world pointer ≡ r → IsStill (checked_realloc_cases s.world size r).world (live_realloc_cases s.world s.live size r)
  realloc-by pointer size (Err b) careful n some g = (e, refl)
  realloc-by pointer size (Ok f) careful n some g = realloc-still f size (other-by (plain pointer) f n (named-by s pointer f k careful some g))

  branch-realloc : (b : Bool) (v w : ReallocResult) (l m : Live) → (b ≡ true → IsStill v.world l) → (b ≡ false → IsStill w.world m) → IsStill (cond b v w).world (cond b l m)
  branch-realloc true v w l m f g = f refl
  branch-realloc false v w l m f g = g refl

  malloc-still : (size : ℕ) → IsStill (after_malloc s.world size).world (with_made_chunk origin.Malloc s.live (after_malloc s.world size).chunk)
  malloc-still size = made-still origin.Malloc (after_malloc s.world size) (after_malloc s.world size).chunk (malloc-state-after-allocation s size k) refl (malloc-byte s size a k (is-taken s u a x k e own))

  realloc-of-still : (pointer size : ℕ) → IsPointerTo s pointer → u ≢ plain pointer → IsStill (after_realloc s.world pointer size).world (live_realloc s pointer size)
  unfolding after_realloc
  realloc-of-still pointer size careful n =
      let made = after_malloc s.world size in
      branch-realloc (pointer == 0) (reallocation_of made) (checked_realloc_cases s.world size (found_at s.world pointer)) (with_made_chunk origin.Malloc s.live made.chunk) (live_realloc_cases s.world s.live size (found_at s.world pointer))
      (λ t. malloc-still size)
      (λ t. realloc-by pointer size (found_at s.world pointer) careful n (grind (arith, nat_tests)) refl)

  pub call-still : (c : HeapCall) → IsCareful s c → IsOfOthers c u → IsStill (state_after_call c s).world (state_after_call c s).live
  unfolding after_call state_after_call
  call-still (Malloc size) careful n = malloc-still size
  call-still (Free pointer) careful n = free-still pointer careful (λ q. n pointer (inl refl) (sym q))
  call-still (Calloc count size) careful n =
      made-still origin.Malloc (after_calloc s.world count size) (after_calloc s.world count size).chunk (calloc-state-after-allocation s count size k) refl (calloc-byte s count size a k (is-taken s u a x k e own))
  call-still (Realloc pointer size) careful n = realloc-of-still pointer size careful (λ q. n pointer (inr (size, refl)) (sym q))
  call-still (Memalign align size) careful n =
      made-still origin.Memalign (after_memalign s.world align size) (after_memalign s.world align size).chunk (memalign-state-after-allocation s align size k) refl (memalign-byte s align size a k (is-taken s u a x k e own))
  call-still (UsableSize pointer) careful n = (e, refl)

pub others-stay : OtherChunksStay
others-stay = record {
  blocks = λ s c u x k careful n e.
      let i = k.placed.place u x e in
      let above = i.above in
      let within = i.within in
      let some = i.some in
      let user = k.placed.user u x e in (
        (call-still s u x.place.user (inl x) k e ((omega arith), (omega arith)) c careful n).0,
        λ addr from to. (call-still s u addr (inl x) k e ((omega arith), (omega arith)) c careful n).1,
      );
  pages = λ s c u x k careful n e.
      let f = check-pointer-of s.world.heap.maps.mappings u x.mapping k.heap.parts.mappings (k.large.place u x e) in (
        (call-still s u u (inr x) k e (f.first, f.last) c careful n).0,
        λ addr from to. (call-still s u addr (inr x) k e (from, to) c careful n).1,
      );
}
