-- The effect of an answered heap call on chunks, and where a chunk's bytes lie.
use Rattle.std.specs.Prelude.{ℕ, ◌*◌, ◌^◌, ◌%◌, ◌==◌, Option, Some, None, option_map}
use Rattle.std.specs.Prelude.{if◌then◌else◌}
use Rattle.a64_bits.specs.Addresses.{plain}
use Rattle.scudo_heap.specs.declared.call.HeapCall.{HeapCall}
use Rattle.scudo_heap.specs.declared.call.HeapCall.TheVariants.{Malloc, Free, Calloc, Realloc}
use Rattle.scudo_heap.specs.declared.call.HeapCall.TheVariants.{Memalign, UsableSize}
use Rattle.mte_svc.specs.declared.calls.AnsweredCall.{AnsweredCall}
use Rattle.heap_bounds.specs.declared.calls.Allocation.{Allocation}

-- The bytes that a call asks for; none where it asks for no chunk.
abbrev pub bytes_of : HeapCall → Option ℕ
bytes_of (Malloc size) = Some size
bytes_of (Calloc count size) = Some (count * size % 2 ^ 64)
bytes_of (Realloc pointer size) = Some size
bytes_of (Memalign alignment size) = Some size
bytes_of (Free pointer) = None
bytes_of (UsableSize pointer) = None

-- A chunk by the pointer that a call answered.
abbrev pub chunk_at : ℕ → ℕ → Allocation
chunk_at pointer size = record { pointer = pointer; size = size }

-- The chunk that a call returned: where the answer is 0 it returned none.
abbrev pub returned_chunk : AnsweredCall → Option Allocation
returned_chunk c =
    if c.answer == 0 then None else option_map (chunk_at c.answer) (bytes_of c.call)

-- The pointer whose chunk is no longer there after the call had this answer: a freed one, and one
-- that was given another size. A reallocation that found no memory leaves the chunk.
abbrev pub ended_pointer : HeapCall → ℕ → Option ℕ
ended_pointer (Free pointer) answer = Some pointer
ended_pointer (Realloc pointer size) answer =
    if size == 0 then Some pointer else (if answer == 0 then None else Some pointer)
ended_pointer (Malloc size) answer = None
ended_pointer (Calloc count size) answer = None
ended_pointer (Memalign alignment size) answer = None
ended_pointer (UsableSize pointer) answer = None

-- Its plain address.
abbrev pub ended_chunk : AnsweredCall → Option ℕ
ended_chunk c = option_map plain (ended_pointer c.call c.answer)
