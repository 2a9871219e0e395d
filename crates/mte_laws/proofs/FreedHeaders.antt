-- A call leaves the header of a freed chunk whose block it does not take.
use Rattle.std.proofs.Common.{◌≡◌, ◌≢◌, ℕ, ◌+◌, ◌-◌, ◌*◌, ◌%◌, ◌^◌, ◌<◌, ◌≤◌, ◌==◌, nat_le, length, max, true, false, cond, drop, Option, Some, None, List, ◌∷◌, Result, Ok, Err, refl, sym, ap, subst, ◌∙◌, inl, inr, arith}
use Rattle.std.proofs.lemmas.Bool.{cases_eq}
use Rattle.std.proofs.lemmas.Bool.Decides.{nat_tests}
use Rattle.std.specs.Prelude.{min, nat_eq}
use Rattle.std.specs.List.{IsDistinct}
use Rattle.std.proofs.Math.Nat.{min-le_right}
use Rattle.a64_bits.specs.Addresses.{plain}
use Rattle.mte_tags.specs.Memory.{byte_at}
use Rattle.mte_tags.specs.Accesses.{read_bytes}
use Rattle.mte_tags.proofs.ByteLaws.{byte_at-written_other, length-read_bytes}
use Rattle.scudo_header.specs.declared.headers.Origin.{Origin}
use Rattle.scudo_header.specs.declared.headers.Origin.TheVariants as origin
use Rattle.scudo_header.specs.declared.config.TheConstants.{MAX_REQUEST}
use Rattle.scudo_primary.specs.Pools.{is_member}
use Rattle.scudo_primary.specs.Blocks.{IsClass}
use Rattle.scudo_primary.proofs.ListLemmas.{member-other, distinct-head}
use Rattle.scudo_heap.specs.declared.abort.HeapAbort.{HeapAbort}
use Rattle.scudo_heap.specs.declared.call.HeapCall.{HeapCall}
use Rattle.scudo_heap.specs.declared.call.HeapCall.TheVariants.{Malloc, Free, Calloc, Realloc, Memalign, UsableSize}
use Rattle.scudo_heap.specs.declared.chunk.Place.{Place}
use Rattle.scudo_heap.specs.declared.chunk.Chunk.{Chunk}
use Rattle.scudo_heap.specs.declared.chunk.Chunk.TheVariants.{Small, Large}
use Rattle.scudo_heap.specs.declared.chunk.Found.{Found}
use Rattle.scudo_heap.specs.declared.chunk.Found.TheVariants.{InBlock, InPages}
use Rattle.scudo_heap.specs.Inner.{IsAlign}
use Rattle.scudo_heap.specs.Chunks.{end_of, block_end, with_size}
use Rattle.scudo_heap.specs.Stacks.{StackState, stack_of, with_stack, after_pop}
use Rattle.scudo_heap.specs.Placing.{World, after_place}
use Rattle.scudo_heap.specs.Large.{large_given_back}
use Rattle.scudo_heap.specs.Allocation.{AllocationResult, nonzero_size, no_chunk, is_alignment, after_allocate, after_malloc, after_calloc, after_memalign}
use Rattle.scudo_heap.specs.Checks.{size_found}
use Rattle.scudo_heap.specs.Realloc as heap
use Rattle.scudo_heap.specs.Realloc.{ReallocResult, user_of, user_of_chunk, after_copy, with_copied_bytes, after_move, with_new_size, realloc_cases, checked_realloc_cases, after_realloc, reallocation_of}
use Rattle.scudo_heap.specs.Calls.{after_call}
use Rattle.scudo_heap.proofs.AllocationLemmas.{power-align}
use Rattle.scudo_heap.proofs.SoundLemmas.{stack-own, stack-other}
use Rattle.scudo_heap.proofs.BesideLemmas.{start_of, stop_of}
use Rattle.mte_laws.specs.LiveChunks.{BlockChunk, IsCarved, IsPlace, chunk_at, new_chunk}
use Rattle.mte_laws.specs.LivePages.{new_large}
use Rattle.mte_laws.proofs.Freed.{Freed, IsStale}
use Rattle.mte_laws.proofs.Runs.{call-kept, step-kept}
use Rattle.mte_laws.proofs.Headers.{call-cookie, header-stays}
use Rattle.mte_laws.proofs.Answers.{malloc-has-size}
use Rattle.scudo_heap.specs.Heaps.{HeapState}
use Rattle.mte_laws.specs.CarefulRuns.{State, found_at, with_made_chunk, state_after_call, IsPointerTo, IsCareful, Step, quiet, call, Run, stop, next, HasFreeBlock}
use Rattle.mte_laws.specs.OtherChunks.{AreSame}
use Rattle.mte_laws.specs.Frees.{freed_header, HasFreedHeader, KeepsHeader, LeavesHeader, DoubleFreesAbort, FreedHeadersStay}
use Rattle.mte_laws.proofs.Frees.{freed-aborts, freed-sound, freed-stale-chunk, freed-in, header-after}
use Rattle.mte_laws.specs.SoundHeaps.{Sound}
use Rattle.mte_laws.proofs.Views.{IsStacked}
use Rattle.mte_laws.proofs.Blocks.{apart, same-class}
use Rattle.mte_laws.proofs.BlockCalls.{block-open}
use Rattle.mte_laws.proofs.BlockSteps.{free-before}
use Rattle.mte_laws.proofs.Serving.{blocks-of}
use Rattle.mte_laws.proofs.SoundAllocations.{branch}
use Rattle.mte_laws.proofs.Larges.{check-pointer-of}
use Rattle.mte_laws.proofs.MadeLarges.{at}
use Rattle.mte_laws.proofs.MadeCalls.{malloc-state-after-allocation}
use Rattle.mte_laws.proofs.FoundStates.{IsListed, block, pages}
use Rattle.mte_laws.proofs.FreeStates.{with-bytes-at-kept}
use Rattle.mte_laws.proofs.ReallocStates.{still-with-made-chunk}
use Rattle.mte_laws.proofs.Allocations.{IsReadyIn, IsNext, each-allocation}
use Rattle.mte_laws.proofs.NewChunks.{least-align, new-live}
use Rattle.mte_laws.proofs.Chunks.{is, is-listed, is-found, named-by}
use Rattle.scudo_heap.proofs.MapLemmas.{without}
use Rattle.common.specs.declared.ranges.TheConstants.{SECONDARY_START}
use Rattle.scudo_heap.specs.Freeing.{without_chunk as freed_world, Freed as FreeResult, free_cases, free_of}
use Rattle.mte_laws.proofs.OtherBytes.{place-byte, pages-byte, resized-byte, freed-byte}

-- ---- a block that is free after another one was taken

-- a block is free in a class
abbrev IsFreeIn : StackState → Place → Type 0
IsFreeIn h q = is_member (stack_of h q.class) q.block ≡ true

record IsOtherFree (h : StackState) (q : Place) (block : ℕ) : Type 0 where
  carved : IsCarved h q.class q.block
  other : q.block ≢ block

free-carved : (h : StackState) (q : Place) → IsStacked h → IsClass q.class → IsFreeIn h q → IsCarved h q.class q.block
free-carved h q k c on = record { class = c; block = k.blocks q.class q.block c on }

popped : (h : StackState) (q p : Place) (more : List ℕ) → IsStacked h → IsClass q.class → IsCarved h p.class p.block → stack_of h p.class ≡ p.block ∷ more → IsFreeIn (with_stack h p.class more) q → IsOtherFree h q p.block
popped h q p more k c i top on = elim (cases_eq q.class p.class) [
  | inl e ↦ (
      let here : is_member more q.block ≡ true = sym (ap (λ xs. is_member xs q.block) (ap (stack_of (with_stack h p.class more)) e ∙ stack-own h p.class more)) ∙ on in
      let n : q.block ≢ p.block = λ z.
      let off : is_member more p.block ≡ false = distinct-head p.block more (subst (IsDistinct nat_eq) top (k.distinct p.class i.class)) in
      let yes : is_member more p.block ≡ true = sym (ap (is_member more) z) ∙ here in
      cc in
      let first : is_member (p.block ∷ more) q.block ≡ true = member-other p.block more q.block n ∙ here in
      record { carved = free-carved h q k c (ap (λ t. is_member (stack_of h t) q.block) e ∙ ap (λ xs. is_member xs q.block) top ∙ first); other = n })
  | inr n ↦ (
      let here : IsFreeIn h q = sym (ap (λ xs. is_member xs q.block) (stack-other h p.class q.class more n)) ∙ on in
      let carved = free-carved h q k c here in
      record { carved = carved; other = λ z. n (same-class h q.class p.class p.block k (subst (IsCarved h q.class) z carved) i) })
]

-- ---- a byte of a free block

module _ (s : State) (q : Place) (a : ℕ) (k : Sound s) (i : IsPlace s.world.heap.stacks q) (free : IsFreeIn s.world.heap.stacks q) (low : q.block ≤ a) (high : a < block_end q) where
  abbrev HasByteIf : World → Type 0
  HasByteIf w = IsFreeIn w.heap.stacks q → byte_at w.memory a ≡ byte_at s.world.memory a

  same-byte : HasByteIf s.world
  same-byte = λ on. refl

  -- an address in another block, or in pages of their own
  far-block : (h : StackState) (p : Place) → IsStacked h → IsCarved h q.class q.block → IsCarved h p.class p.block → q.block ≢ p.block → p.block ≤ a → a < block_end p → ⊥
  far-block h p stacked x y n from to = elim (apart h q.class p.class q.block p.block stacked x y n) [ inl z ↦ omega arith | inr z ↦ omega arith ]

  here : IsStacked s.world.heap.stacks
  here = (blocks-of s k).stacked

  -- ---- an allocation

  place-kept : (o : Origin) (align : ℕ) (v : World) (p : Place) → IsReadyIn s v → IsNext v align p → HasByteIf (after_place v o p)
  unfolding after_place after_pop
  place-kept o align v p r n on =
      let e : drop 1 (stack_of v.heap.stacks p.class) ≡ n.more = ap (drop 1) n.top in
      let other = popped v.heap.stacks q p n.more r.sound.stacked i.carved.class n.place.carved n.top (subst (λ xs. IsFreeIn (with_stack v.heap.stacks p.class xs) q) e on) in
      let around = block-open s.world.memory s.world.heap.stacks q here (blocks-of s k).served i in
      place-byte v s.live.blocks o p r.sound n.place a (far-block v.heap.stacks p r.sound.stacked other.carved n.place.carved other.other)
      ∙ r.bytes a (around.at a low high)

  allocate-kept : (o : Origin) (align size : ℕ) → IsAlign align → HasByteIf (after_allocate s.world o align size).world
  allocate-kept o align size al =
      let around = block-open s.world.memory s.world.heap.stacks q here (blocks-of s k).served i in
      let below = around.below in
      each-allocation (λ (r : AllocationResult). HasByteIf r.world) o s align k al same-byte
      (λ v p r n. place-kept o align v p r n)
      (λ z n start g. λ on. pages-byte s o align z n start a k al g (λ from to. let above = (at o s align z n start k al g.some g.small g.few g.need g.place g.left).above in omega arith))
      size

  malloc-kept : (size : ℕ) → HasByteIf (after_malloc s.world size).world
  unfolding after_malloc
  malloc-kept size = allocate-kept origin.Malloc 16 size least-align

  calloc-kept : (count size : ℕ) → HasByteIf (after_calloc s.world count size).world
  unfolding after_calloc
  calloc-kept count size = allocate-kept origin.Malloc 16 (count * size) least-align

  memalign-kept : (align size : ℕ) → HasByteIf (after_memalign s.world align size).world
  unfolding after_memalign
  memalign-kept align size =
      branch (λ (r : AllocationResult). HasByteIf r.world) (is_alignment align) (after_allocate s.world origin.Memalign (max align 16) size) (no_chunk s.world)
      (λ e. allocate-kept origin.Memalign (max align 16) size (power-align align e))
      (λ e. same-byte)

  -- ---- a chunk that is found

  -- it is live: it has another block, or pages of its own
  record IsOther (f : Found) : Type 0 where
    listed : IsListed s f
    far : start_of f ≤ a → a < stop_of f → ⊥
    still : (w : World) → IsFreeIn (freed_world w f).heap.stacks q → IsFreeIn w.heap.stacks q

  low-below : a < SECONDARY_START + 16
  low-below =
      let around = block-open s.world.memory s.world.heap.stacks q here (blocks-of s k).served i in
      let below = around.below in
      omega arith

  other-block : (t : State) (u : ℕ) (x : BlockChunk) → Sound t → chunk_at t.live.blocks u ≡ Some x → IsFreeIn t.world.heap.stacks q → IsOtherFree t.world.heap.stacks q x.place.block
  other-block t u x kt e on =
      let h = t.world.heap.stacks in
      let b = blocks-of t kt in
      let j = kt.placed.place u x e in
      let carved = free-carved h q b.stacked i.carved.class on in
      record {
        carved = carved;
        other = λ z.
            let c : q.class ≡ x.place.class = same-class h q.class x.place.class x.place.block b.stacked (subst (IsCarved h q.class) z carved) j.carved in
            let yes : is_member (stack_of h x.place.class) x.place.block ≡ true = sym (ap (λ d. is_member (stack_of h d) x.place.block) c) ∙ sym (ap (is_member (stack_of h q.class)) z) ∙ on in
            let off = kt.placed.unstacked u x e in
            cc;
      }

  other-of : (f : Found) → IsListed s f → IsOther f
  unfolding freed_world large_given_back
  other-of _ (block x e) =
      let n = other-block s x.place.user x k e free in
      record {
        listed = block x e;
        far = far-block s.world.heap.stacks x.place here n.carved (k.placed.place x.place.user x e).carved n.other;
        still = λ w on. free-before w x.place x.header q.class q.block n.other on;
      }
  other-of _ (pages x e) =
      let f = check-pointer-of s.world.heap.maps.mappings x.mapping.user x.mapping k.heap.parts.mappings (k.large.place x.mapping.user x e) in
      let above = f.above in
      let below = low-below in
      record { listed = pages x e; far = λ from to. omega arith; still = λ w on. on }

  freed-kept : (f : Found) → IsListed s f → HasByteIf (freed_world s.world f)
  freed-kept f l = λ on. freed-byte s a k l (other-of f l).far

  -- ---- a move

  -- the bytes of a new chunk are in its block or its pages
  new-far : (size j : ℕ) (d : Chunk) → (after_malloc s.world size).chunk ≡ Some d → 0 < size → size ≤ MAX_REQUEST → IsFreeIn (after_malloc s.world size).world.heap.stacks q → j < size → a ≢ (plain (user_of_chunk d) + j) % 2 ^ 56
  unfolding state_after_call after_call
  new-far size j (Small p tag) e some most on less = λ z.
      let t = state_after_call (Malloc size) s in
      let kt = (call-kept s (Malloc size) k tt).sound in
      let l = new-live.malloc s size (Small p tag) k e in
      let x = new_chunk origin.Malloc p tag in
      let at = kt.placed.place p.user x l.live in
      let above = at.above in
      let within = at.within in
      let n = other-block t p.user x kt l.live on in
      let around = block-open t.world.memory t.world.heap.stacks p (blocks-of t kt).stacked (blocks-of t kt).served at in
      let below = around.below in
      let sized : p.size ≡ nonzero_size size = malloc-has-size s.world size (Small p tag) e in
      let same : nonzero_size size ≡ size = grind (arith, nat_tests) in
      far-block t.world.heap.stacks p (blocks-of t kt).stacked n.carved at.carved n.other (omega arith) (omega arith)
  new-far size j (Large m z) e some most on less = λ y.
      let t = state_after_call (Malloc size) s in
      let kt = (call-kept s (Malloc size) k tt).sound in
      let l = new-live.malloc s size (Large m z) k e in
      let x = new_large origin.Malloc m z in
      let f = check-pointer-of t.world.heap.maps.mappings m.user m kt.heap.parts.mappings (kt.large.place m.user x l.live) in
      let w = without t.world.heap.maps.mappings m kt.heap.parts.mappings (is-found t m.user (inr x) kt l.live) in
      let above = f.above in
      let first = f.first in
      let end = f.last in
      let last = w.last in
      let below = low-below in
      omega arith

  move-to-kept : (f : Found) (size : ℕ) (c : Option Chunk) → IsOther f → 0 < size → size ≤ MAX_REQUEST → (after_malloc s.world size).chunk ≡ c → HasByteIf (heap.move_to_cases s.world f size (after_malloc s.world size).world c).world
  unfolding after_copy
  move-to-kept f size None o some most e = λ on. refl
  move-to-kept f size (Some d) o some most e = λ on.
      let r = after_malloc s.world size in
      let made = malloc-state-after-allocation s size k in
      let t : State = record { world = r.world; live = with_made_chunk origin.Malloc s.live (Some d) } in
      let sound : Sound t = subst (λ c. Sound (record { world = r.world; live = with_made_chunk origin.Malloc s.live c })) e made.sound in
      let n = min (size_found f) size in
      let bs = read_bytes r.world.memory (user_of f) n in
      let copied = with-bytes-at-kept t (user_of_chunk d) bs sound in
      let v : State = record t { world = with_copied_bytes r.world f d size } in
      let listed = still-with-made-chunk s r d (with_copied_bytes r.world f d size) made e o.listed in
      let fewer : n ≤ size = min-le_right (size_found f) size in
      let len : length bs ≡ n = length-read_bytes r.world.memory (user_of f) n in
      let on' = o.still (with_copied_bytes r.world f d size) on in
      freed-byte v a copied.sound listed o.far
      ∙ byte_at-written_other r.world.memory (user_of_chunk d) bs a (λ j h. new-far size j d e some most on' (omega arith))
      ∙ malloc-kept size on'

  move-kept : (f : Found) (size : ℕ) → IsListed s f → 0 < size → size ≤ MAX_REQUEST → HasByteIf (after_move s.world f size).world
  unfolding after_move
  move-kept f size l some most = move-to-kept f size (after_malloc s.world size).chunk (other-of f l) some most refl

  -- ---- a reallocation

  refit-kept : (f : Found) (size : ℕ) → IsListed s f → 0 < size → size ≤ MAX_REQUEST → HasByteIf (with_new_size s.world f size).world
  unfolding with_new_size
  refit-kept _ size (block y e) some most =
      branch (λ (r : AllocationResult). HasByteIf r.world) (nat_le (end_of (with_size y.place size)) (block_end y.place)) (heap.after_resize_in_block s.world y.place y.header size) (after_move s.world (InBlock y.place y.header) size)
      (λ t. λ on. resized-byte s y size a k e (grind (arith, nat_tests)) (other-of (InBlock y.place y.header) (block y e)).far)
      (λ t. move-kept (InBlock y.place y.header) size (block y e) some most)
  refit-kept _ size (pages y e) some most = move-kept (InPages y.mapping y.header) size (pages y e) some most

  cases-kept : (f : Found) (size : ℕ) → IsListed s f → HasByteIf (realloc_cases s.world f size).world
  unfolding realloc_cases
  cases-kept f size l =
      branch (λ (r : AllocationResult). HasByteIf r.world) (size == 0) (record { world = freed_world s.world f; chunk = None }) (cond (nat_le size MAX_REQUEST) (with_new_size s.world f size) (no_chunk s.world))
      (λ t. freed-kept f l)
      (λ t. branch (λ (r : AllocationResult). HasByteIf r.world) (nat_le size MAX_REQUEST) (with_new_size s.world f size) (no_chunk s.world) (λ v. refit-kept f size l (grind (arith, nat_tests)) (grind (arith, nat_tests))) (λ v. same-byte))

  -- ---- the calls

  listed-by : (pointer : ℕ) (f : Found) → IsPointerTo s pointer → pointer ≢ 0 → found_at s.world pointer ≡ Ok f → IsListed s f
  listed-by pointer f careful some e = elim (named-by s pointer f k careful some e) [ is x g z ↦ subst (IsListed s) z (is-listed s (plain pointer) x k g) ]

  free-by : (pointer : ℕ) (r : Result Found HeapAbort) → IsPointerTo s pointer → pointer ≢ 0 → found_at s.world pointer ≡ r → HasByteIf (free_cases s.world r).world
  free-by pointer (Err b) careful some e = same-byte
  free-by pointer (Ok f) careful some e = freed-kept f (listed-by pointer f careful some e)

  free-kept : (pointer : ℕ) → IsPointerTo s pointer → HasByteIf (free_of s.world pointer).world
  unfolding free_of
  free-kept pointer careful =
      branch (λ (r : FreeResult). HasByteIf r.world) (pointer == 0) (record { world = s.world; result = Ok tt }) (free_cases s.world (found_at s.world pointer))
      (λ t. same-byte) (λ t. free-by pointer (found_at s.world pointer) careful (grind (arith, nat_tests)) refl)

  realloc-by : (pointer size : ℕ) (r : Result Found HeapAbort) → IsPointerTo s pointer → pointer ≢ 0 → found_at s.world pointer ≡ r → HasByteIf (checked_realloc_cases s.world size r).world
  realloc-by pointer size (Err b) careful some e = same-byte
  realloc-by pointer size (Ok f) careful some e = cases-kept f size (listed-by pointer f careful some e)

  realloc-kept : (pointer size : ℕ) → IsPointerTo s pointer → HasByteIf (after_realloc s.world pointer size).world
  unfolding after_realloc
  realloc-kept pointer size careful =
      branch (λ (r : ReallocResult). HasByteIf r.world) (pointer == 0) (reallocation_of (after_malloc s.world size)) (checked_realloc_cases s.world size (found_at s.world pointer))
      (λ t. malloc-kept size) (λ t. realloc-by pointer size (found_at s.world pointer) careful (grind (arith, nat_tests)) refl)

  pub call-byte : (c : HeapCall) → IsCareful s c → HasByteIf (state_after_call c s).world
  unfolding after_call state_after_call
  call-byte (Malloc size) careful = malloc-kept size
  call-byte (Free pointer) careful = free-kept pointer careful
  call-byte (Calloc count size) careful = calloc-kept count size
  call-byte (Realloc pointer size) careful = realloc-kept pointer size careful
  call-byte (Memalign align size) careful = memalign-kept align size
  call-byte (UsableSize pointer) careful = same-byte

-- ---- its header

pub header-kept : (s : State) (x : BlockChunk) (c : HeapCall) → Sound s → IsPlace s.world.heap.stacks x.place → HasFreeBlock x s → IsCareful s c → HasFreeBlock x (state_after_call c s) → HasFreedHeader s.world x → HasFreedHeader (state_after_call c s).world x
header-kept s x c k i free careful on header =
    let b = blocks-of s k in
    let around = block-open s.world.memory s.world.heap.stacks x.place b.stacked b.served i in
    let above = i.above in
    let within = i.within in
    let some = i.some in
    let below = around.below in
    header-stays s.world (state_after_call c s).world x.place.user (freed_header x) (omega arith) (omega arith) (call-cookie s k c)
    (λ addr from to. call-byte s x.place addr k i free (omega arith) (omega arith) c careful on) header

-- ---- a run

-- a step that is no call leaves it where it leaves its bytes
pub quiet-header : (a b : State) (x : BlockChunk) → Sound a → IsPlace a.world.heap.stacks x.place → b.world.heap ≡ a.world.heap → AreSame a.world.memory b.world.memory (x.place.user - 16) (x.place.user - 8) → HasFreedHeader a.world x → HasFreedHeader b.world x
quiet-header a b x k i q same header =
    let s = blocks-of a k in
    let around = block-open a.world.memory a.world.heap.stacks x.place s.stacked s.served i in
    let above = i.above in
    let within = i.within in
    let some = i.some in
    let below = around.below in
    header-stays a.world b.world x.place.user (freed_header x) (omega arith) (omega arith) (ap (λ (h : HeapState). h.cookie) q) same header

step-header : (a b : State) (x : BlockChunk) (st : Step a b) → Sound a → IsPlace a.world.heap.stacks x.place → HasFreeBlock x a → HasFreeBlock x b → KeepsHeader x.place.user st → HasFreedHeader a.world x → HasFreedHeader b.world x
step-header a b x (quiet q) k i free on keeps header = quiet-header a b x k i q.heap keeps header
step-header a b x (call c careful e) k i free on keeps header =
    subst (λ (t : State). HasFreedHeader t.world x) (sym e) (header-kept a x c k i free careful (subst (HasFreeBlock x) e on) header)

pub run-header : (f : Freed) (x : BlockChunk) → f.place ≡ x.place → {a b : State} (r : Run (HasFreeBlock x) a b) → Sound a → IsStale a.world.memory a.world.heap.stacks f → LeavesHeader x.place.user r → HasFreedHeader a.world x → HasFreedHeader b.world x
unfolding LeavesHeader
run-header f x same stop k st keeps header = header
run-header f x same (next {a = a} {b = b} t p r) k st keeps header =
    let h = step-kept a b k t in
    let after = h.stale f st (subst (λ (q : Place). is_member (stack_of b.world.heap.stacks q.class) q.block ≡ true) (sym same) p) in
    let free : HasFreeBlock x a = subst (λ (q : Place). is_member (stack_of a.world.heap.stacks q.class) q.block ≡ true) same st.stacked in
    run-header f x same r h.sound after keeps.1 (step-header a b x t k (subst (IsPlace a.world.heap.stacks) same st.place) free p keeps.0 header)

-- ---- a second free

pub double-frees : DoubleFreesAbort
double-frees = record {
  header = header-after;
  direct = λ a d pointer k same. freed-aborts a d (state_after_call d.call a) pointer k (freed-sound a d k) (freed-stale-chunk a d k).place (header-after a d k) same;
  later = λ a b d pointer k run header same. let f = freed-in a d b k run in freed-aborts a d b pointer k f.sound f.stale.place header same;
  left = λ a b d pointer k run keeps same.
      let f = freed-in a d b k run in
      let g : Freed = record { place = d.chunk.place; tag = d.chunk.tag; given = (state_after_call d.call a).world.rgsr.tag } in
      freed-aborts a d b pointer k f.sound f.stale.place (run-header g d.chunk refl run (freed-sound a d k) (freed-stale-chunk a d k) keeps (header-after a d k)) same;
}

pub freed-headers-stay : FreedHeadersStay
freed-headers-stay = λ a b d c k run careful on header.
    let f = freed-in a d b k run in
    header-kept b d.chunk c f.sound f.stale.place f.stale.stacked careful on header
