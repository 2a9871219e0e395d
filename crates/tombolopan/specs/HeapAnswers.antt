-- The answer of an operation, and the world after it. One that aborts or faults changes nothing.
use Rattle.std.specs.Prelude.{ℕ, true, Option, Some, None, Result, Ok, Err}
use Rattle.std.specs.Int.{w64, from_le_bytes, to_le_bytes}
use Rattle.a64_bits.specs.Addresses.{plain}
use Rattle.mte_tags.specs.Memory.{Memory, tag_at}
use Rattle.mte_tags.specs.Accesses.{read_fault, read_bytes, after_read, write_fault, after_write}
use Rattle.mte_tags.specs.Accesses.{tag_load_fault}
use Rattle.mte_tags.specs.declared.fault.MemFault.{MemFault}
use Rattle.scudo_heap.specs.declared.abort.HeapAbort.{HeapAbort}
use Rattle.scudo_heap.specs.Placing.{World}
use Rattle.scudo_heap.specs.Calls.{CallResult, after_call}
use Rattle.tombolopan.specs.declared.heap_op.HeapOp.{HeapOp}
use Rattle.tombolopan.specs.declared.heap_op.HeapOp.TheVariants.{Call, Load, Store, LoadTag}
use Rattle.tombolopan.specs.declared.heap_op.HeapAnswer.{HeapAnswer}
use Rattle.tombolopan.specs.declared.heap_op.HeapAnswer.TheVariants.{Value, Abort, Fault}

-- The result of an operation: the world, and its answer.
pub record Answered : Type 0 where
  pub world : World
  pub answer : HeapAnswer

-- ---- heap calls

-- The answer of a heap call.
abbrev pub of_call : Result ℕ HeapAbort → HeapAnswer
of_call (Ok value) = Value value
of_call (Err abort) = Abort abort

-- A heap call as an operation.
abbrev pub answered_call : CallResult → Answered
answered_call r = record { world = r.world; answer = of_call r.answer }

-- ---- accesses, with the tags compared

-- The result of an access: the memory, and its answer.
pub record Accessed : Type 0 where
  pub memory : Memory
  pub answer : HeapAnswer

-- A fault, or else a value and what the access leaves.
abbrev pub unless : Option MemFault → Memory → ℕ → Memory → Accessed
unless (Some fault) before value after = record { memory = before; answer = Fault fault }
unless None before value after = record { memory = after; answer = Value value }

-- The eight bytes at an address, the lowest first.
unfoldable pub load_of : Memory → ℕ → Accessed
load_of m a =
    unless (read_fault m a 8 true) m (from_le_bytes w64 (read_bytes m a 8)) (after_read m a 8 true)

-- A checked store of eight bytes, the lowest first.
unfoldable pub store_of : Memory → ℕ → ℕ → Accessed
store_of m a value =
    unless (write_fault m a 8 true) m 0 (after_write m a (to_le_bytes w64 value) true)

-- A load of a tag compares none, and changes nothing.
unfoldable pub load_tag_of : Memory → ℕ → HeapAnswer
load_tag_of m a = (unless (tag_load_fault m a) m (tag_at m (plain a)) m).answer

-- An access as an operation.
abbrev pub in_world : World → Accessed → Answered
in_world w x = record { world = record w { memory = x.memory }; answer = x.answer }

-- ---- all operations

-- The effect of an operation on a world.
unfoldable pub after_operation : World → HeapOp → Answered
after_operation w (Call call) = answered_call (after_call w call)
after_operation w (Load addr) = in_world w (load_of w.memory addr)
after_operation w (Store addr value) = in_world w (store_of w.memory addr value)
after_operation w (LoadTag addr) = record { world = w; answer = load_tag_of w.memory addr }
