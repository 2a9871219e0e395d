-- A call that makes a chunk answers the pointer to it.
use Rattle.std.proofs.Common.{◌≡◌, ◌≢◌, ℕ, ◌+◌, ◌*◌, ◌^◌, ◌<◌, ◌≤◌, ◌==◌, nat_le, max, false, cond, Option, Some, None, List, [], ◌∷◌, Result, Ok, Err, refl, sym, ap, subst, ◌∙◌, arith}
use Rattle.std.proofs.lemmas.Bool.{cond-false}
use Rattle.std.proofs.lemmas.Bool.Decides.{nat_tests}
use Rattle.a64_bits.specs.Addresses.{plain, address_tag}
use Rattle.mte_tags.specs.Memory.{Memory, tag_at, pages_left}
use Rattle.mte_tags.specs.Accesses.{addresses, first_fault, access_cases, access_fault, read_access, write_access, read_fault, write_fault}
use Rattle.mte_tags.specs.declared.state.TagMode.TheVariants.{Sync}
use Rattle.scudo_header.specs.Classes.{class_for}
use Rattle.scudo_header.specs.declared.headers.Origin.{Origin}
use Rattle.scudo_header.specs.declared.headers.Origin.TheVariants as origin
use Rattle.scudo_header.specs.declared.config.TheConstants.{MAX_REQUEST}
use Rattle.scudo_secondary.specs.Mappings.{place_of}
use Rattle.scudo_heap.specs.declared.abort.HeapAbort.{HeapAbort}
use Rattle.scudo_heap.specs.declared.call.HeapCall.{HeapCall}
use Rattle.scudo_heap.specs.declared.call.HeapCall.TheVariants.{Malloc, Free, Calloc, Realloc, Memalign, UsableSize}
use Rattle.scudo_heap.specs.declared.chunk.Chunk.{Chunk}
use Rattle.scudo_heap.specs.declared.chunk.Chunk.TheVariants.{Small, Large}
use Rattle.scudo_heap.specs.declared.chunk.Found.{Found}
use Rattle.scudo_heap.specs.declared.chunk.Found.TheVariants.{InBlock, InPages}
use Rattle.scudo_heap.specs.Chunks.{end_of, block_end, with_size}
use Rattle.scudo_heap.specs.Stacks.{stack_of}
use Rattle.scudo_heap.specs.Placing.{World, pages_for, new_header, after_place}
use Rattle.scudo_heap.specs.Large.{mapping_for, large_header, large_placed}
use Rattle.scudo_heap.specs.Allocation.{AllocationResult, answer_of, allocation_of, no_chunk, place_in, with_free_block, after_take, after_class_allocation, map_chunk_cases, after_large_allocation, nonzero_size, need_of, allocate_cases, after_allocate, after_malloc, after_calloc, after_memalign, is_alignment}
use Rattle.scudo_heap.specs.Freeing.{free_of}
use Rattle.scudo_heap.specs.Realloc as heap
use Rattle.scudo_heap.specs.Realloc.{ReallocResult, realloc_answer, reallocation_of, user_of_chunk, after_move, with_new_size, realloc_cases, checked_realloc_cases, after_realloc}
use Rattle.scudo_heap.specs.Freeing.{without_chunk as freed_world}
use Rattle.scudo_heap.specs.Calls.{after_call, free_answer}
use Rattle.scudo_heap.proofs.MapLemmas.{without}
use Rattle.mte_laws.specs.LiveChunks.{BlockChunk}
use Rattle.mte_laws.specs.LivePages.{PageChunk}
use Rattle.mte_laws.specs.CarefulRuns.{State, state_after_call, IsCareful, found_at}
use Rattle.mte_laws.specs.SoundHeaps.{Sound}
use Rattle.mte_laws.proofs.SoundAllocations.{branch}
use Rattle.mte_laws.proofs.BlockCalls.{block-open}
use Rattle.mte_laws.proofs.BlockSounds.{live_half}
use Rattle.mte_laws.proofs.Larges.{check-pointer-of}
use Rattle.mte_laws.proofs.Runs.{call-kept}
use Rattle.mte_laws.proofs.Serving.{blocks-of}
use Rattle.mte_laws.specs.NewChunks.{HasNewChunk, HasChunk}
use Rattle.mte_laws.specs.Uses.{IsUsable}
use Rattle.mte_laws.specs.Answers.{size_of_chunk, tag_of_chunk, end_of_chunk, asked_bytes, AnswersPointerTo, AnswersArePointers, HasUsableBytes, AskedBytesMayBeUsed}
use Rattle.mte_laws.proofs.NewChunks.{new-live}
use Rattle.mte_laws.proofs.Moves.{reallocated-live}
use Rattle.mte_laws.proofs.Uses.{chunks-usable}

-- ---- its size

IsSized : ℕ → Option Chunk → Type 0
IsSized n c = (x : Chunk) → c ≡ Some x → size_of_chunk x ≡ n

some-sized : (x : Chunk) → IsSized (size_of_chunk x) (Some x)
unfolding IsSized
some-sized x = λ y e. ap size_of_chunk (let q : y ≡ x = cc in q)

none-sized : (n : ℕ) → IsSized n None
unfolding IsSized
none-sized n = λ x e. cc

take-sized : (before w : World) (o : Origin) (a size c : ℕ) (xs : List ℕ) → IsSized size (after_take before w o a size c xs).chunk
take-sized before w o a size c [] = none-sized size
take-sized before w o a size c (b ∷ more) = some-sized (Small (place_in c b a size) (after_place w o (place_in c b a size)).rgsr.tag)

class-sized : (w : World) (o : Origin) (a size c : ℕ) → IsSized size (after_class_allocation w o a size c).chunk
unfolding after_class_allocation
class-sized w o a size c = take-sized w (with_free_block w c) o a size c (stack_of (with_free_block w c).heap.stacks c)

map-sized : (w : World) (o : Origin) (a size n : ℕ) (at : Option ℕ) → IsSized size (map_chunk_cases w o a size n at).chunk
map-sized w o a size n None = none-sized size
map-sized w o a size n (Some start) =
    let m = mapping_for start n a size in
    branch (λ (r : AllocationResult). IsSized size r.chunk) (nat_le n (pages_left w.memory)) (allocation_of (large_placed w o m size) (Some (Large m size))) (no_chunk w) (λ t. some-sized (Large m size)) (λ t. none-sized size)

cases-sized : (w : World) (o : Origin) (a size : ℕ) (c : Option ℕ) → IsSized size (allocate_cases w o a size c).chunk
unfolding after_large_allocation
cases-sized w o a size None = let n = pages_for (need_of a size) in map-sized w o a size n (place_of w.heap.maps.mappings n)
cases-sized w o a size (Some c) = class-sized w o a size c

allocate-sized : (w : World) (o : Origin) (a size : ℕ) → IsSized (nonzero_size size) (after_allocate w o a size).chunk
unfolding after_allocate
allocate-sized w o a size =
    let n = nonzero_size size in
    branch (λ (r : AllocationResult). IsSized n r.chunk) (nat_le size MAX_REQUEST) (allocate_cases w o a n (class_for (need_of a n))) (no_chunk w) (λ t. cases-sized w o a n (class_for (need_of a n))) (λ t. none-sized n)

malloc-sized : (w : World) (size : ℕ) → IsSized (nonzero_size size) (after_malloc w size).chunk
unfolding after_malloc
malloc-sized w size = allocate-sized w origin.Malloc 16 size

pub malloc-has-size : (w : World) (size : ℕ) (x : Chunk) → (after_malloc w size).chunk ≡ Some x → size_of_chunk x ≡ nonzero_size size
unfolding IsSized
malloc-has-size w size = malloc-sized w size

calloc-sized : (w : World) (count size : ℕ) → IsSized (nonzero_size (count * size)) (after_calloc w count size).chunk
unfolding after_calloc
calloc-sized w count size = allocate-sized w origin.Malloc 16 (count * size)

memalign-sized : (w : World) (align size : ℕ) → IsSized (nonzero_size size) (after_memalign w align size).chunk
unfolding after_memalign
memalign-sized w align size =
    branch (λ (r : AllocationResult). IsSized (nonzero_size size) r.chunk) (is_alignment align) (after_allocate w origin.Memalign (max align 16) size) (no_chunk w)
    (λ t. allocate-sized w origin.Memalign (max align 16) size) (λ t. none-sized (nonzero_size size))

move-to-sized : (n : ℕ) (w v : World) (f : Found) (size : ℕ) (c : Option Chunk) → IsSized n c → IsSized n (heap.move_to_cases w f size v c).chunk
move-to-sized n w v f size None h = none-sized n
move-to-sized n w v f size (Some x) h = h

move-sized : (w : World) (f : Found) (size : ℕ) → IsSized (nonzero_size size) (after_move w f size).chunk
unfolding after_move
move-sized w f size = move-to-sized (nonzero_size size) w (after_malloc w size).world f size (after_malloc w size).chunk (malloc-sized w size)

refit-sized : (w : World) (f : Found) (size : ℕ) → (size == 0) ≡ false → IsSized (nonzero_size size) (with_new_size w f size).chunk
unfolding with_new_size
refit-sized w (InBlock p header) size some =
    let n = nonzero_size size in
    let same : size ≡ n = sym (cond-false _ _ _ some) in
    branch (λ (r : AllocationResult). IsSized n r.chunk) (nat_le (end_of (with_size p size)) (block_end p)) (heap.after_resize_in_block w p header size) (after_move w (InBlock p header) size)
    (λ t. subst (λ k. IsSized k (heap.after_resize_in_block w p header size).chunk) same (some-sized (Small (with_size p size) (tag_at w.memory p.user))))
    (λ t. move-sized w (InBlock p header) size)
refit-sized w (InPages m header) size some = move-sized w (InPages m header) size

found-sized : (w : World) (f : Found) (size : ℕ) → IsSized (nonzero_size size) (realloc_cases w f size).chunk
unfolding realloc_cases
found-sized w f size =
    let n = nonzero_size size in
    branch (λ (r : AllocationResult). IsSized n r.chunk) (size == 0) (record { world = freed_world w f; chunk = None }) (cond (nat_le size MAX_REQUEST) (with_new_size w f size) (no_chunk w))
    (λ t. none-sized n)
    (λ t. branch (λ (r : AllocationResult). IsSized n r.chunk) (nat_le size MAX_REQUEST) (with_new_size w f size) (no_chunk w) (λ q. refit-sized w f size t) (λ q. none-sized n))

IsSizedBy : ℕ → ReallocResult → Type 0
IsSizedBy n r = (x : Chunk) → r.result ≡ Ok (Some x) → size_of_chunk x ≡ n

of-allocation : (n : ℕ) (r : AllocationResult) → IsSized n r.chunk → IsSizedBy n (reallocation_of r)
unfolding IsSized IsSizedBy
of-allocation n r h = λ x e. h x (let q : Ok r.chunk ≡ Ok (Some x) = e in cc)

checked-sized : (w : World) (size : ℕ) (f : Result Found HeapAbort) → IsSizedBy (nonzero_size size) (checked_realloc_cases w size f)
unfolding IsSizedBy
checked-sized w size (Err e) = λ x q. cc
checked-sized w size (Ok f) = of-allocation (nonzero_size size) (realloc_cases w f size) (found-sized w f size)

realloc-sized : (w : World) (pointer size : ℕ) → IsSizedBy (nonzero_size size) (after_realloc w pointer size)
unfolding after_realloc
realloc-sized w pointer size =
    let n = nonzero_size size in
    branch (IsSizedBy n) (pointer == 0) (reallocation_of (after_malloc w size)) (checked_realloc_cases w size (found_at w pointer))
    (λ t. of-allocation n (after_malloc w size) (malloc-sized w size))
    (λ t. checked-sized w size (found_at w pointer))

-- ---- the pointer to a live chunk

record IsPointed (s : State) (x : Chunk) : Type 0 where
  address : plain (answer_of (Some x)) ≡ user_of_chunk x
  tag : address_tag (answer_of (Some x)) ≡ tag_of_chunk x
  holds : user_of_chunk x + size_of_chunk x ≤ end_of_chunk x
  usable : IsUsable s.world.memory (tag_of_chunk x) (user_of_chunk x) (end_of_chunk x)

pointed : (s : State) (x : Chunk) → Sound s → HasChunk s x → IsPointed s x
pointed s (Small p t) k h =
    let x : BlockChunk = record { place = p; tag = t; header = h.0 } in
    let b = blocks-of s k in
    let i = k.placed.place p.user x h.1.live in
    let around = block-open s.world.memory s.world.heap.stacks p b.stacked b.served i in
    let half = live_half s.world.memory s.world.heap.stacks s.live.blocks b p.user x h.1.live in
    let few = half.below in
    let within = i.within in
    let below = around.below in
    let high : p.user < 2 ^ 56 = omega arith in
    record { address = omega arith; tag = omega arith; holds = omega arith; usable = chunks-usable.blocks s p.user x k h.1.live }
pointed s (Large m n) k h =
    let x : PageChunk = record { mapping = m; size = n; header = h.0 } in
    let e = h.1.live in
    let ms = s.world.heap.maps.mappings in
    let f = check-pointer-of ms m.user m k.heap.parts.mappings (k.large.place m.user x e) in
    let w = without ms m k.heap.parts.mappings (sym (k.large.place m.user x e)) in
    let above = k.large.above m.user x e in
    let within = k.large.within m.user x e in
    let end = f.last in
    let last = w.last in
    record {
      address = omega arith;
      tag = omega arith;
      holds = within;
      usable = λ pointer n check t from to. chunks-usable.pages s m.user x k e pointer n check t (omega arith) to;
    }

-- ---- what a call makes

record IsMadeBy (s : State) (c : HeapCall) (x : Chunk) : Type 0 where
  size : size_of_chunk x ≡ max (asked_bytes c) 1
  answer : (after_call s.world c).answer ≡ Ok (answer_of (Some x))
  pointed : IsPointed (state_after_call c s) x

some-size : (n : ℕ) → nonzero_size n ≡ max n 1
some-size n = grind (arith, nat_tests)

new-chunk : (s : State) (o : Origin) (x : Chunk) → HasNewChunk s o x → HasChunk s x
new-chunk s o (Small p t) h = (new_header o p, h)
new-chunk s o (Large m n) h = (large_header o m n, h)

module _ (s : State) (x : Chunk) (k : Sound s) where
  malloc-made : (size : ℕ) → (after_malloc s.world size).chunk ≡ Some x → IsMadeBy s (Malloc size) x
  unfolding after_call IsSized
  malloc-made size e =
      let t = state_after_call (Malloc size) s in
      record {
        size = malloc-sized s.world size x e ∙ some-size size;
        answer = ap (λ c. Ok (answer_of c)) e;
        pointed = pointed t x (call-kept s (Malloc size) k tt).sound (new-chunk t origin.Malloc x (new-live.malloc s size x k e));
      }

  calloc-made : (count size : ℕ) → (after_calloc s.world count size).chunk ≡ Some x → IsMadeBy s (Calloc count size) x
  unfolding after_call IsSized
  calloc-made count size e =
      let t = state_after_call (Calloc count size) s in
      record {
        size = calloc-sized s.world count size x e ∙ some-size (count * size);
        answer = ap (λ c. Ok (answer_of c)) e;
        pointed = pointed t x (call-kept s (Calloc count size) k tt).sound (new-chunk t origin.Malloc x (new-live.calloc s count size x k e));
      }

  memalign-made : (align size : ℕ) → (after_memalign s.world align size).chunk ≡ Some x → IsMadeBy s (Memalign align size) x
  unfolding after_call IsSized
  memalign-made align size e =
      let t = state_after_call (Memalign align size) s in
      record {
        size = memalign-sized s.world align size x e ∙ some-size size;
        answer = ap (λ c. Ok (answer_of c)) e;
        pointed = pointed t x (call-kept s (Memalign align size) k tt).sound (new-chunk t origin.Memalign x (new-live.memalign s align size x k e));
      }

  realloc-made : (pointer size : ℕ) → IsCareful s (Realloc pointer size) → (after_realloc s.world pointer size).result ≡ Ok (Some x) → IsMadeBy s (Realloc pointer size) x
  unfolding after_call IsSizedBy
  realloc-made pointer size careful e = record {
    size = realloc-sized s.world pointer size x e ∙ some-size size;
    answer = ap realloc_answer e;
    pointed = pointed (state_after_call (Realloc pointer size) s) x (call-kept s (Realloc pointer size) k careful).sound (reallocated-live s pointer size x k careful e);
  }

answers : (s : State) (c : HeapCall) (x : Chunk) → IsMadeBy s c x → AnswersPointerTo s c x
unfolding state_after_call
answers s c x d =
    let p = d.pointed in
    let here = p.address in
    record {
      size = d.size;
      pointer = answer_of (Some x);
      answer = d.answer;
      address = p.address;
      tag = p.tag;
      usable = λ pointer n check t from to. p.usable pointer n check (t ∙ p.tag) (omega arith) to;
    }

pub answers-are-pointers : AnswersArePointers
answers-are-pointers = record {
  malloc = λ s size x k e. answers s (Malloc size) x (malloc-made s x k size e);
  calloc = λ s count size x k e. answers s (Calloc count size) x (calloc-made s x k count size e);
  memalign = λ s align size x k e. answers s (Memalign align size) x (memalign-made s x k align size e);
  realloc = λ s pointer size x k careful e. answers s (Realloc pointer size) x (realloc-made s x k pointer size careful e);
}

-- ---- the bytes that were asked for

nothing-usable : (m : Memory) (pointer : ℕ) → m.state.mode ≡ Sync → HasUsableBytes m pointer 0
unfolding read_fault write_fault access_fault addresses first_fault
nothing-usable m pointer sync = λ other n check t from to.
    let none : 0 ≡ n = omega arith in
    subst (λ j. (read_fault m other j check ≡ None) × (write_fault m other j check ≡ None)) none
    (ap (λ q. (access_cases q m (read_access other check) []).fault) sync, ap (λ q. (access_cases q m (write_access other check) []).fault) sync)

module _ (s : State) (c : HeapCall) where
  IsGood : Result ℕ HeapAbort → Type 0
  IsGood r = (pointer : ℕ) → r ≡ Ok pointer → pointer ≢ 0 → HasUsableBytes (after_call s.world c).world.memory pointer (asked_bytes c)

  chunk-good : (x : Chunk) → IsMadeBy s c x → IsGood (Ok (answer_of (Some x)))
  unfolding IsGood state_after_call
  chunk-good x d = λ pointer e some.
      let p = d.pointed in
      let same : answer_of (Some x) ≡ pointer = cc in
      let few = d.size in
      let here = p.address in
      let holds = p.holds in
      subst (λ q. HasUsableBytes (after_call s.world c).world.memory q (asked_bytes c)) same
      (λ other n check t from to. p.usable other n check (t ∙ p.tag) (omega arith) (omega arith))

  null-good : IsGood (Ok 0)
  unfolding IsGood
  null-good = λ pointer e some. absurd (some (let q : pointer ≡ 0 = cc in q))

  error-good : (a : HeapAbort) → IsGood (Err a)
  unfolding IsGood
  error-good a = λ pointer e some. cc

  made-good : (o : Option Chunk) → ((x : Chunk) → o ≡ Some x → IsMadeBy s c x) → IsGood (Ok (answer_of o))
  made-good None d = null-good
  made-good (Some x) d = chunk-good x (d x refl)

  realloc-good : (r : Result (Option Chunk) HeapAbort) → ((x : Chunk) → r ≡ Ok (Some x) → IsMadeBy s c x) → IsGood (realloc_answer r)
  realloc-good (Err a) d = error-good a
  realloc-good (Ok o) d = made-good o (λ x e. d x (ap Ok e))

  free-good : (r : Result (Unit {0}) HeapAbort) → IsGood (free_answer r)
  free-good (Err a) = error-good a
  free-good (Ok done) = null-good

call-good : (s : State) (c : HeapCall) → Sound s → IsCareful s c → IsGood s c (after_call s.world c).answer
unfolding after_call IsGood
call-good s (Malloc size) k careful = made-good s (Malloc size) (after_malloc s.world size).chunk (λ x. malloc-made s x k size)
call-good s (Free pointer) k careful = free-good s (Free pointer) (free_of s.world pointer).result
call-good s (Calloc count size) k careful = made-good s (Calloc count size) (after_calloc s.world count size).chunk (λ x. calloc-made s x k count size)
call-good s (Realloc pointer size) k careful = realloc-good s (Realloc pointer size) (after_realloc s.world pointer size).result (λ x. realloc-made s x k pointer size careful)
call-good s (Memalign align size) k careful = made-good s (Memalign align size) (after_memalign s.world align size).chunk (λ x. memalign-made s x k align size)
call-good s (UsableSize pointer) k careful = λ answer e some. nothing-usable s.world.memory answer k.sync

pub asked-usable : AskedBytesMayBeUsed
unfolding IsGood
asked-usable = λ s c pointer k careful e some. call-good s c k careful pointer e some
