-- A call that is refused leaves the world as it was.
use Rattle.std.proofs.Common.{◌≡◌, ◌≢◌, ℕ, ◌*◌, ◌==◌, nat_le, max, cond, Option, Some, None, Result, Ok, Err, List, [], ◌∷◌, refl, arith}
use Rattle.std.proofs.lemmas.Bool.Decides.{nat_tests}
use Rattle.mte_tags.specs.Memory.{pages_left}
use Rattle.scudo_header.specs.Classes.{class_for}
use Rattle.scudo_header.specs.declared.headers.Origin.{Origin}
use Rattle.scudo_header.specs.declared.headers.Origin.TheVariants as origin
use Rattle.scudo_header.specs.declared.config.TheConstants.{MAX_REQUEST}
use Rattle.scudo_secondary.specs.Mappings.{place_of}
use Rattle.scudo_heap.specs.declared.abort.HeapAbort.{HeapAbort}
use Rattle.scudo_heap.specs.declared.call.HeapCall.{HeapCall}
use Rattle.scudo_heap.specs.declared.call.HeapCall.TheVariants.{Malloc, Free, Calloc, Realloc, Memalign, UsableSize}
use Rattle.scudo_heap.specs.declared.chunk.Found.{Found}
use Rattle.scudo_heap.specs.declared.chunk.Found.TheVariants.{InBlock, InPages}
use Rattle.scudo_heap.specs.declared.chunk.Chunk.{Chunk}
use Rattle.scudo_heap.specs.Stacks.{stack_of}
use Rattle.scudo_heap.specs.Chunks.{end_of, block_end, with_size}
use Rattle.scudo_heap.specs.Placing.{World, pages_for}
use Rattle.scudo_heap.specs.Large.{mapping_for, large_placed}
use Rattle.scudo_heap.specs.Allocation.{AllocationResult, allocation_of, no_chunk, is_alignment, need_of, nonzero_size, with_free_block, after_take, after_class_allocation, map_chunk_cases, after_large_allocation, allocate_cases, after_allocate, after_malloc, after_calloc, after_memalign}
use Rattle.scudo_heap.specs.Freeing.{Freed, without_chunk, free_cases, free_of}
use Rattle.scudo_heap.specs.Realloc as heap
use Rattle.scudo_heap.specs.Realloc.{ReallocResult, after_move, with_new_size, realloc_cases, checked_realloc_cases, after_realloc, reallocation_of}
use Rattle.scudo_heap.specs.Calls.{CallResult, after_call, call_of_free, call_of_reallocation, call_of_allocation}
use Rattle.mte_laws.specs.CarefulRuns.{found_at}
use Rattle.mte_laws.proofs.SoundAllocations.{branch}
use Rattle.mte_laws.specs.Requests.{RefusedCallsChangeNothing}

-- ---- no chunk

abbrev IsKept : World → AllocationResult → Type 0
IsKept w r = r.chunk ≡ None → r.world ≡ w

take-kept : (v w : World) (o : Origin) (align size class : ℕ) (xs : List ℕ) → IsKept v (after_take v w o align size class xs)
take-kept v w o align size class [] = λ n. refl
take-kept v w o align size class (b ∷ more) = λ n. cc

class-kept : (w : World) (o : Origin) (align size class : ℕ) → IsKept w (after_class_allocation w o align size class)
unfolding after_class_allocation
class-kept w o align size class = take-kept w (with_free_block w class) o align size class (stack_of (with_free_block w class).heap.stacks class)

map-kept : (w : World) (o : Origin) (align size pages : ℕ) (start : Option ℕ) → IsKept w (map_chunk_cases w o align size pages start)
map-kept w o align size pages None = λ n. refl
map-kept w o align size pages (Some start) =
    branch (IsKept w) (nat_le pages (pages_left w.memory)) (allocation_of (large_placed w o (mapping_for start pages align size) size) (Some _)) (no_chunk w)
    (λ t. λ n. cc) (λ t. λ n. refl)

large-kept : (w : World) (o : Origin) (align size pages : ℕ) → IsKept w (after_large_allocation w o align size pages)
unfolding after_large_allocation
large-kept w o align size pages = map-kept w o align size pages (place_of w.heap.maps.mappings pages)

cases-kept : (w : World) (o : Origin) (align size : ℕ) (c : Option ℕ) → IsKept w (allocate_cases w o align size c)
cases-kept w o align size None = large-kept w o align size (pages_for (need_of align size))
cases-kept w o align size (Some class) = class-kept w o align size class

allocate-kept : (w : World) (o : Origin) (align size : ℕ) → IsKept w (after_allocate w o align size)
unfolding after_allocate
allocate-kept w o align size =
    branch (IsKept w) (nat_le size MAX_REQUEST) (allocate_cases w o align (nonzero_size size) (class_for (need_of align (nonzero_size size)))) (no_chunk w)
    (λ t. cases-kept w o align (nonzero_size size) (class_for (need_of align (nonzero_size size)))) (λ t. λ n. refl)

malloc-kept : (w : World) (size : ℕ) → IsKept w (after_malloc w size)
unfolding after_malloc
malloc-kept w size = allocate-kept w origin.Malloc 16 size

calloc-kept : (w : World) (count size : ℕ) → IsKept w (after_calloc w count size)
unfolding after_calloc
calloc-kept w count size = allocate-kept w origin.Malloc 16 (count * size)

memalign-kept : (w : World) (align size : ℕ) → IsKept w (after_memalign w align size)
unfolding after_memalign
memalign-kept w align size =
    branch (IsKept w) (is_alignment align) (after_allocate w origin.Memalign (max align 16) size) (no_chunk w)
    (λ t. allocate-kept w origin.Memalign (max align 16) size) (λ t. λ n. refl)

-- ---- a reallocation

move-to-kept : (w : World) (f : Found) (size : ℕ) (v : World) (c : Option Chunk) → IsKept w (heap.move_to_cases w f size v c)
move-to-kept w f size v None = λ n. refl
move-to-kept w f size v (Some x) = λ n. cc

move-kept : (w : World) (f : Found) (size : ℕ) → IsKept w (after_move w f size)
unfolding after_move
move-kept w f size = move-to-kept w f size (after_malloc w size).world (after_malloc w size).chunk

refit-kept : (w : World) (f : Found) (size : ℕ) → IsKept w (with_new_size w f size)
unfolding with_new_size
refit-kept w (InBlock p header) size =
    branch (IsKept w) (nat_le (end_of (with_size p size)) (block_end p)) (heap.after_resize_in_block w p header size) (after_move w (InBlock p header) size)
    (λ t. λ n. cc) (λ t. move-kept w (InBlock p header) size)
refit-kept w (InPages m header) size = move-kept w (InPages m header) size

realloc-kept : (w : World) (f : Found) (size : ℕ) → size ≢ 0 → IsKept w (realloc_cases w f size)
unfolding realloc_cases
realloc-kept w f size some =
    branch (IsKept w) (size == 0) (record { world = without_chunk w f; chunk = None }) (cond (nat_le size MAX_REQUEST) (with_new_size w f size) (no_chunk w))
    (λ t. absurd (some (grind (arith, nat_tests))))
    (λ t. branch (IsKept w) (nat_le size MAX_REQUEST) (with_new_size w f size) (no_chunk w) (λ v. refit-kept w f size) (λ v. λ n. refl))

abbrev IsKeptBy : World → ReallocResult → Type 0
IsKeptBy w r = r.result ≡ Ok None → r.world ≡ w

ok-kept : (w : World) (r : AllocationResult) → IsKept w r → IsKeptBy w (reallocation_of r)
ok-kept w r h = λ e. h (cc)

checked-kept : (w : World) (size : ℕ) → size ≢ 0 → (r : Result Found HeapAbort) → IsKeptBy w (checked_realloc_cases w size r)
checked-kept w size some (Err e) = λ n. refl
checked-kept w size some (Ok f) = ok-kept w (realloc_cases w f size) (realloc-kept w f size some)

call-realloc-kept : (w : World) (pointer size : ℕ) → size ≢ 0 → IsKeptBy w (after_realloc w pointer size)
unfolding after_realloc
call-realloc-kept w pointer size some =
    branch (IsKeptBy w) (pointer == 0) (reallocation_of (after_malloc w size)) (checked_realloc_cases w size (found_at w pointer))
    (λ t. ok-kept w (after_malloc w size) (malloc-kept w size)) (λ t. checked-kept w size some (found_at w pointer))

-- ---- an abort

abbrev IsSameIf : World → CallResult → Type 0
IsSameIf w r = (e : HeapAbort) → r.answer ≡ Err e → r.world ≡ w

allocation-same : (w : World) (r : AllocationResult) → IsSameIf w (call_of_allocation r)
allocation-same w r = λ e q. cc

free-same : (w : World) (r : Result Found HeapAbort) → IsSameIf w (call_of_free (free_cases w r))
free-same w (Err x) = λ e q. refl
free-same w (Ok f) = λ e q. cc

realloc-same : (w : World) (size : ℕ) (r : Result Found HeapAbort) → IsSameIf w (call_of_reallocation (checked_realloc_cases w size r))
realloc-same w size (Err x) = λ e q. refl
realloc-same w size (Ok f) = λ e q. cc

reallocation-same : (w : World) (r : AllocationResult) → IsSameIf w (call_of_reallocation (reallocation_of r))
reallocation-same w r = λ e q. cc

free-call-same : (w : World) (pointer : ℕ) → IsSameIf w (call_of_free (free_of w pointer))
unfolding free_of
free-call-same w pointer =
    branch (λ (r : Freed). IsSameIf w (call_of_free r)) (pointer == 0) (record { world = w; result = Ok tt }) (free_cases w (found_at w pointer))
    (λ t. λ e q. cc) (λ t. free-same w (found_at w pointer))

realloc-call-same : (w : World) (pointer size : ℕ) → IsSameIf w (call_of_reallocation (after_realloc w pointer size))
unfolding after_realloc
realloc-call-same w pointer size =
    branch (λ (r : ReallocResult). IsSameIf w (call_of_reallocation r)) (pointer == 0) (reallocation_of (after_malloc w size)) (checked_realloc_cases w size (found_at w pointer))
    (λ t. reallocation-same w (after_malloc w size)) (λ t. realloc-same w size (found_at w pointer))

call-same : (w : World) (c : HeapCall) → IsSameIf w (after_call w c)
unfolding after_call
call-same w (Malloc size) = allocation-same w (after_malloc w size)
call-same w (Free pointer) = free-call-same w pointer
call-same w (Calloc count size) = allocation-same w (after_calloc w count size)
call-same w (Realloc pointer size) = realloc-call-same w pointer size
call-same w (Memalign align size) = allocation-same w (after_memalign w align size)
call-same w (UsableSize pointer) = λ e q. refl

pub refused : RefusedCallsChangeNothing
refused = record {
  aborted = λ w c e q. call-same w c e q;
  malloc = malloc-kept;
  calloc = calloc-kept;
  memalign = memalign-kept;
  realloc = call-realloc-kept;
}
