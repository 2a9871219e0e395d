-- A heap's calls as an array: what each means, and what is entered of its answer.
use Rattle.std.specs.Prelude.{ℕ, zero, suc, ◌%◌, ◌==◌, ◌&&◌, Bool, not, nat_lt, nat_le}
use Rattle.std.specs.Prelude.{List, slice_index_or, Option, Some, None, if◌then◌else◌}
use Rattle.common.specs.declared.limits.TheConstants.{MAX_PAGES}
use Rattle.mte_tags.specs.Memory.{no_pages}
use Rattle.mte_tags.specs.declared.generator.Rgsr.{Rgsr}
use Rattle.mte_tags.specs.declared.state.TagMode.{TagMode}
use Rattle.scudo_heap.specs.Heaps.{empty_heap}
use Rattle.scudo_heap.specs.Placing.{World, world_of}
use Rattle.scudo_heap.specs.declared.call.HeapCall.TheVariants as heap
use Rattle.tombolopan.specs.HeapAnswers.{after_operation}
use Rattle.tombolopan.specs.declared.heap_op.HeapOp.{HeapOp}
use Rattle.tombolopan.specs.declared.heap_op.HeapOp.TheVariants as op
use Rattle.tombolopan.specs.declared.heap_op.HeapAnswer.{HeapAnswer}
use Rattle.tombolopan.specs.declared.heap_op.HeapAnswer.TheVariants as answer
use Rattle.tombolopan_c.specs.Faults.{no_fault, report_of}
use Rattle.tombolopan_c.specs.LentPages.{mode_for}
use Rattle.tombolopan_c.specs.RefusalCodes.{abort_code}
use Rattle.tombolopan_c.specs.declared.codes.TheConstants.{OK, FAULT, ABORT, BAD_ARGUMENT}
use Rattle.tombolopan_c.specs.declared.codes.TheConstants.{MALLOC, FREE, CALLOC, REALLOC, MEMALIGN}
use Rattle.tombolopan_c.specs.declared.codes.TheConstants.{USABLE_SIZE, LOAD, STORE, LOAD_TAG}
use Rattle.tombolopan_c.specs.declared.lent_heap.HeapSetup.{HeapSetup}
use Rattle.tombolopan_c.specs.declared.lent_heap.LentHeapCall.{LentHeapCall}

-- ---- the heap that a setup asks for

-- Whether a heap may be made: of 1 to MAX_PAGES pages.
abbrev pub is_setup : HeapSetup → Bool
is_setup s = nat_lt 0 s.pages && nat_le s.pages MAX_PAGES

-- The tag mode of a setup.
abbrev pub mode_of : HeapSetup → TagMode
mode_of s = mode_for (not (s.asynchronous == 0))

-- The generator that a setup begins with.
abbrev pub rgsr_of : HeapSetup → Rgsr
rgsr_of s = record { tag = s.rgsr_tag % 16; seed = s.rgsr_seed }

-- The world that a setup begins with: no pages, and an empty heap.
abbrev pub start_of : HeapSetup → World
start_of s = world_of (no_pages s.pages (mode_of s)) (empty_heap s.cookie s.pages) (rgsr_of s)

-- ---- a call

-- The operation that a call of C asks for, if it is one.
abbrev pub op_of : LentHeapCall → Option HeapOp
op_of c =
    if c.op == MALLOC then Some (op.Call (heap.Malloc c.first))
    else if c.op == FREE then Some (op.Call (heap.Free c.first))
    else if c.op == CALLOC then Some (op.Call (heap.Calloc c.first c.second))
    else if c.op == REALLOC then Some (op.Call (heap.Realloc c.first c.second))
    else if c.op == MEMALIGN then Some (op.Call (heap.Memalign c.first c.second))
    else if c.op == USABLE_SIZE then Some (op.Call (heap.UsableSize c.first))
    else if c.op == LOAD then Some (op.Load c.first)
    else if c.op == STORE then Some (op.Store c.first c.second)
    else if c.op == LOAD_TAG then Some (op.LoadTag c.first)
    else None

-- A call with its answer.
abbrev pub with_heap_answer : LentHeapCall → HeapAnswer → LentHeapCall
with_heap_answer c (answer.Value v) = record c { code = OK; answer = v; fault = no_fault }
with_heap_answer c (answer.Abort a) =
    record c { code = ABORT; answer = abort_code a; fault = no_fault }
with_heap_answer c (answer.Fault f) = record c { code = FAULT; answer = 0; fault = report_of f }

-- A call that is marked as no operation.
abbrev pub with_bad_argument : LentHeapCall → LentHeapCall
with_bad_argument c = record c { code = BAD_ARGUMENT; answer = 0; fault = no_fault }

-- The result of a call: the world, and the call with its answer.
pub record MadeCall : Type 0 where
  pub world : World
  pub call : LentHeapCall

abbrev pub heap_call_cases : World → LentHeapCall → Option HeapOp → MadeCall
heap_call_cases w c None = record { world = w; call = with_bad_argument c }
heap_call_cases w c (Some o) =
    record {
      world = (after_operation w o).world;
      call = with_heap_answer c
          (after_operation w o).answer;
    }

-- The effect of a call of C on a world.
abbrev pub after_heap_call : World → LentHeapCall → MadeCall
after_heap_call w c = heap_call_cases w c (op_of c)

-- ---- calls in order

-- The world after the first k calls.
unfoldable pub world_before : World → List LentHeapCall → ℕ → LentHeapCall → World
world_before w calls zero d = w
world_before w calls (suc k) d =
    (after_heap_call (world_before w calls k d) (slice_index_or calls k d)).world

-- The call k with its answer.
abbrev pub call_made : World → List LentHeapCall → ℕ → LentHeapCall → LentHeapCall
call_made w calls k d = (after_heap_call (world_before w calls k d) (slice_index_or calls k d)).call
