-- realloc (Scudo, combined.h, Allocator::reallocate). A call that aborts changes nothing.
use Rattle.std.specs.Prelude.{ℕ, ◌==◌, nat_le, min, Option, Some, None}
use Rattle.std.specs.Prelude.{Result, Ok, Err, if◌then◌else◌}
use Rattle.a64_bits.specs.Addresses.{plain}
use Rattle.mte_tags.specs.Memory.{Memory, tag_at}
use Rattle.mte_tags.specs.Accesses.{read_bytes, with_bytes_at}
use Rattle.scudo_header.specs.declared.headers.Header.{Header}
use Rattle.scudo_heap.specs.declared.abort.HeapAbort.{HeapAbort}
use Rattle.scudo_header.specs.declared.config.TheConstants.{MAX_REQUEST}
use Rattle.scudo_heap.specs.declared.chunk.Place.{Place}
use Rattle.scudo_heap.specs.declared.chunk.Chunk.{Chunk}
use Rattle.scudo_heap.specs.declared.chunk.Chunk.TheVariants.{Small, Large}
use Rattle.scudo_heap.specs.declared.chunk.Found.{Found}
use Rattle.scudo_heap.specs.declared.chunk.Found.TheVariants.{InBlock, InPages}
use Rattle.scudo_heap.specs.Chunks.{end_of, block_end, with_size}
use Rattle.scudo_heap.specs.Placing.{World, after_resize}
use Rattle.scudo_heap.specs.Allocation.{AllocationResult, no_chunk, answer_of, after_malloc}
use Rattle.scudo_heap.specs.Checks.{size_found, check_pointer}
use Rattle.scudo_heap.specs.Freeing.{without_chunk}

-- chunk: the chunk that the caller has after the call, where that is a new one or has another size
pub record ReallocResult : Type 0 where
  pub world : World
  pub result : Result (Option Chunk) HeapAbort

-- The pointer for the caller.
abbrev pub realloc_answer : Result (Option Chunk) HeapAbort → Result ℕ HeapAbort
realloc_answer (Err e) = Err e
realloc_answer (Ok chunk) = Ok (answer_of chunk)

-- An allocation as a reallocation.
abbrev pub reallocation_of : AllocationResult → ReallocResult
reallocation_of m = record { world = m.world; result = Ok m.chunk }

-- ---- a new chunk, to which the bytes are copied; without one, nothing changes

-- The user address of a chunk that was found.
abbrev pub user_of : Found → ℕ
user_of (InBlock p header) = p.user
user_of (InPages m header) = m.user

-- The user address of a new chunk.
abbrev pub user_of_chunk : Chunk → ℕ
user_of_chunk (Small p tag) = p.user
user_of_chunk (Large m size) = m.user

-- The first n bytes at one address at another one.
unfoldable pub after_copy : Memory → ℕ → ℕ → ℕ → Memory
after_copy m from to n = with_bytes_at m to (read_bytes m from n)

-- The bytes of the smaller of the two sizes.
abbrev pub with_copied_bytes : World → Found → Chunk → ℕ → World
with_copied_bytes w f x size =
    record w {
      memory = after_copy w.memory (user_of f) (user_of_chunk x)
          (min (size_found f) size);
    }

abbrev pub move_to_cases : World → Found → ℕ → World → Option Chunk → AllocationResult
move_to_cases before f size w None = no_chunk before
move_to_cases before f size w (Some x) =
    record { world = without_chunk (with_copied_bytes w f x size) f; chunk = Some x }

abbrev pub move_cases : World → Found → ℕ → AllocationResult → AllocationResult
move_cases before f size m = move_to_cases before f size m.world m.chunk

-- A chunk is moved: a new one is made, the bytes are copied, and the old one is freed.
unfoldable pub after_move : World → Found → ℕ → AllocationResult
after_move w f size = move_cases w f size (after_malloc w size)

-- ---- in its block, where that holds the new size

-- A chunk keeps its block and its tag.
abbrev pub after_resize_in_block : World → Place → Header → ℕ → AllocationResult
after_resize_in_block w p header size = record {
  world = after_resize w p header size;
  chunk = Some (Small (with_size p size) (tag_at w.memory p.user));
}

-- A chunk stays where its block holds the new size, else it is moved.
unfoldable pub with_new_size : World → Found → ℕ → AllocationResult
with_new_size w (InBlock p header) size =
    if nat_le (end_of (with_size p size)) (block_end p)
    then after_resize_in_block w p header size
    else after_move w (InBlock p header) size
with_new_size w (InPages m header) size = after_move w (InPages m header) size

-- ---- the call

-- Size 0 frees the chunk; a size over the limit changes nothing.
unfoldable pub realloc_cases : World → Found → ℕ → AllocationResult
realloc_cases w f size = if size == 0
    then record { world = without_chunk w f; chunk = None }
    else (if nat_le size MAX_REQUEST then with_new_size w f size else no_chunk w)

abbrev pub checked_realloc_cases : World → ℕ → Result Found HeapAbort → ReallocResult
checked_realloc_cases w size (Err e) = record { world = w; result = Err e }
checked_realloc_cases w size (Ok f) = reallocation_of (realloc_cases w f size)

-- The null pointer: as malloc.
unfoldable pub after_realloc : World → ℕ → ℕ → ReallocResult
after_realloc w pointer size = if pointer == 0
    then reallocation_of (after_malloc w size)
    else checked_realloc_cases w size (check_pointer w.memory w.heap (plain pointer))
