-- When malloc, calloc and memalign make a chunk, and what a call that is refused leaves.
use Rattle.std.specs.Prelude.{◌≡◌, ◌≢◌, ℕ, ◌*◌, ◌≤◌, max, Some, None, Ok, Err, [], IsSome, true}
use Rattle.mte_tags.specs.Memory.{pages_left}
use Rattle.scudo_header.specs.Classes.{class_for}
use Rattle.scudo_header.specs.declared.config.TheConstants.{MAX_REQUEST}
use Rattle.scudo_secondary.specs.Mappings.{place_of}
use Rattle.scudo_heap.specs.declared.abort.HeapAbort.{HeapAbort}
use Rattle.scudo_heap.specs.declared.call.HeapCall.{HeapCall}
use Rattle.scudo_heap.specs.Stacks.{stack_of}
use Rattle.scudo_heap.specs.Placing.{World, more_pages, pages_for}
use Rattle.scudo_heap.specs.Allocation.{need_of, nonzero_size, is_alignment}
use Rattle.scudo_heap.specs.Allocation.{after_malloc, after_calloc, after_memalign}
use Rattle.scudo_heap.specs.Realloc.{after_realloc}
use Rattle.scudo_heap.specs.Calls.{after_call}

-- A heap can hold a need.
-- free: the least class whose blocks hold it has a free block
-- grows: or the pages of one block of that class are left
-- maps: no class holds it, there is a place for its pages, and they are left
pub data CanHold (w : World) (need : ℕ) : Type 0 where
  free :
      (class : ℕ) → class_for need ≡ Some class → stack_of w.heap.stacks class ≢ []
      → CanHold w need
  grows :
      (class : ℕ) → class_for need ≡ Some class → more_pages class ≤ pages_left w.memory
      → CanHold w need
  maps :
      (start : ℕ) → class_for need ≡ None
      → place_of w.heap.maps.mappings (pages_for need) ≡ Some start
      → pages_for need ≤ pages_left w.memory → CanHold w need

-- A request within the limit is answered where the heap can hold it, whatever the calls were.
pub record MallocsAreAnswered : Type 0 where
  pub malloc :
      (w : World) (size : ℕ) → size ≤ MAX_REQUEST
      → CanHold w (need_of 16 (nonzero_size size))
      → IsSome (after_malloc w size).chunk
  pub calloc :
      (w : World) (count size : ℕ) → count * size ≤ MAX_REQUEST
      → CanHold w (need_of 16 (nonzero_size (count * size)))
      → IsSome (after_calloc w count size).chunk
  pub memalign :
      (w : World) (align size : ℕ) → size ≤ MAX_REQUEST
      → is_alignment align ≡ true
      → CanHold w (need_of (max align 16) (nonzero_size size))
      → IsSome (after_memalign w align size).chunk

-- aborted: a call that aborts leaves the world as it was
-- the others: so does one that makes no chunk, but a reallocation to size 0
pub record RefusedCallsChangeNothing : Type 0 where
  pub aborted :
      (w : World) (c : HeapCall) (e : HeapAbort) → (after_call w c).answer ≡ Err e
      → (after_call w c).world ≡ w
  pub malloc :
      (w : World) (size : ℕ) → (after_malloc w size).chunk ≡ None
      → (after_malloc w size).world ≡ w
  pub calloc :
      (w : World) (count size : ℕ) → (after_calloc w count size).chunk ≡ None
      → (after_calloc w count size).world ≡ w
  pub memalign :
      (w : World) (align size : ℕ) → (after_memalign w align size).chunk ≡ None
      → (after_memalign w align size).world ≡ w
  pub realloc :
      (w : World) (pointer size : ℕ) → size ≢ 0 → (after_realloc w pointer size).result ≡ Ok None
      → (after_realloc w pointer size).world ≡ w
