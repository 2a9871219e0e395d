-- A heap call as a value: its name, its arguments, and what it does to a world.
--     after_call w call    what a call leaves of the world w, and its answer
use Rattle.std.specs.Prelude.{ℕ, List, codes, Result, Ok, Err}
use Rattle.scudo_heap.specs.declared.abort.HeapAbort.{HeapAbort}
use Rattle.scudo_heap.specs.declared.call.HeapCall.{HeapCall}
use Rattle.scudo_heap.specs.declared.call.HeapCall.TheVariants.{Malloc, Free, Calloc, Realloc}
use Rattle.scudo_heap.specs.declared.call.HeapCall.TheVariants.{Memalign, UsableSize}
use Rattle.scudo_heap.specs.Placing.{World}
use Rattle.scudo_heap.specs.Allocation.{AllocationResult, answer_of, after_malloc, after_calloc}
use Rattle.scudo_heap.specs.Allocation.{after_memalign}
use Rattle.scudo_heap.specs.Freeing.{Freed, free_of, usable_size_of}
use Rattle.scudo_heap.specs.Realloc.{ReallocResult, after_realloc, realloc_answer}

-- A call's name in a report.
abbrev pub call_name : HeapCall → List ℕ
call_name (Malloc size) = codes "malloc"
call_name (Free pointer) = codes "free"
call_name (Calloc count size) = codes "calloc"
call_name (Realloc pointer size) = codes "realloc"
call_name (Memalign alignment size) = codes "memalign"
call_name (UsableSize pointer) = codes "usable_size"

-- Its arguments; the second is 0 where it has one.
abbrev pub arguments_of : HeapCall → ℕ × ℕ
arguments_of (Malloc size) = (size, 0)
arguments_of (Free pointer) = (pointer, 0)
arguments_of (Calloc count size) = (count, size)
arguments_of (Realloc pointer size) = (pointer, size)
arguments_of (Memalign alignment size) = (alignment, size)
arguments_of (UsableSize pointer) = (pointer, 0)

-- The result of a call: the world, and its answer.
pub record CallResult : Type 0 where
  pub world : World
  pub answer : Result ℕ HeapAbort

-- An allocation as a call.
abbrev pub call_of_allocation : AllocationResult → CallResult
call_of_allocation m = record { world = m.world; answer = Ok (answer_of m.chunk) }

-- A reallocation as a call.
abbrev pub call_of_reallocation : ReallocResult → CallResult
call_of_reallocation r = record { world = r.world; answer = realloc_answer r.result }

-- A free answers 0.
abbrev pub free_answer : Result (Unit {0}) HeapAbort → Result ℕ HeapAbort
free_answer (Err e) = Err e
free_answer (Ok done) = Ok 0

-- A free as a call.
abbrev pub call_of_free : Freed → CallResult
call_of_free f = record { world = f.world; answer = free_answer f.result }

-- The effect of a heap call on a world, and its answer.
unfoldable pub after_call : World → HeapCall → CallResult
after_call w (Malloc size) = call_of_allocation (after_malloc w size)
after_call w (Free pointer) = call_of_free (free_of w pointer)
after_call w (Calloc count size) = call_of_allocation (after_calloc w count size)
after_call w (Realloc pointer size) = call_of_reallocation (after_realloc w pointer size)
after_call w (Memalign alignment size) = call_of_allocation (after_memalign w alignment size)
after_call w (UsableSize pointer) =
    record { world = w; answer = usable_size_of w.memory w.heap pointer }
