-- free and usable_size (Scudo, combined.h, Allocator::deallocate and getUsableSize). The null
-- pointer is ignored. A call that aborts changes nothing.
use Rattle.std.specs.Prelude.{ℕ, ◌==◌, Result, Ok, Err, if◌then◌else◌}
use Rattle.mte_tags.specs.Memory.{Memory}
use Rattle.a64_bits.specs.Addresses.{plain}
use Rattle.scudo_heap.specs.declared.abort.HeapAbort.{HeapAbort}
use Rattle.scudo_heap.specs.Heaps.{HeapState}
use Rattle.scudo_heap.specs.Placing.{World, after_give_back}
use Rattle.scudo_heap.specs.Large.{large_given_back}
use Rattle.scudo_heap.specs.declared.chunk.Found.{Found}
use Rattle.scudo_heap.specs.declared.chunk.Found.TheVariants.{InBlock, InPages}
use Rattle.scudo_heap.specs.Checks.{check_pointer, usable_size_cases}

-- The result of a free: the world, and an abort if there is one.
pub record Freed : Type 0 where
  pub world : World
  pub result : Result (Unit {0}) HeapAbort

-- The world after a chunk that the checks found is freed.
unfoldable pub without_chunk : World → Found → World
without_chunk w (InBlock p header) = after_give_back w p header
without_chunk w (InPages m header) = large_given_back w m

abbrev pub free_cases : World → Result Found HeapAbort → Freed
free_cases w (Err e) = record { world = w; result = Err e }
free_cases w (Ok f) = record { world = without_chunk w f; result = Ok tt }

-- free: the null pointer is freed without effect.
unfoldable pub free_of : World → ℕ → Freed
free_of w pointer = if pointer == 0
    then record { world = w; result = Ok tt }
    else free_cases w (check_pointer w.memory w.heap (plain pointer))

-- The size that the header gives; 0 for the null pointer.
unfoldable pub usable_size_of : Memory → HeapState → ℕ → Result ℕ HeapAbort
usable_size_of m h pointer =
    if pointer == 0 then Ok 0 else usable_size_cases (check_pointer m h (plain pointer))
