-- The chunks that are live after the calls of a list, by what these answered.
use Rattle.std.specs.Prelude.{ℕ, zero, suc, ◌+◌, ◌*◌, ◌/◌, ◌%◌, ◌^◌, ◌==◌, ◌&&◌, ◌||◌, Bool, not}
use Rattle.std.specs.Prelude.{List, [], length, Option, Some, None, slice_get, if◌then◌else◌}
use Rattle.std.specs.Ordering.{nat_cmp}
use Rattle.std.specs.BTreeMap.{insert_entry, is_at}
use Rattle.std.specs.Map.{remove_entry, values_of}
use Rattle.a64_bits.specs.Addresses.{plain}
use Rattle.tombolopan_c.specs.declared.codes.TheConstants.{OK, MALLOC, FREE, CALLOC, REALLOC}
use Rattle.tombolopan_c.specs.declared.codes.TheConstants.{MEMALIGN}
use Rattle.tombolopan_c.specs.HeapReplays.{resolved_call}
use Rattle.tombolopan_c.specs.declared.lent_heap.LentHeapCall.{LentHeapCall}
use Rattle.tombolopan_c.specs.declared.lent_step.HeapStep.{HeapStep}
use Rattle.tombolopan_c.specs.declared.live_chunks.LiveChunk.{LiveChunk}

-- Live chunks, each at its plain address, which ascend.
abbrev pub Chunks : Type 0
Chunks = List (ℕ × LiveChunk)

-- A call ends the chunk that it was handed: a free, and a realloc but one that was refused.
abbrev pub is_end : LentHeapCall → Bool
is_end c =
    c.op == FREE || (c.op == REALLOC && (not (c.answer == 0) || c.second == 0))

-- The address of the chunk that a call has ended.
abbrev pub ended_by : LentHeapCall → Option ℕ
ended_by c = if c.code == OK && is_end c then Some (plain c.first) else None

-- A call makes a chunk where it answers a pointer.
abbrev pub is_maker : ℕ → Bool
is_maker op = op == MALLOC || op == CALLOC || op == REALLOC || op == MEMALIGN

-- How many bytes a call asks for.
abbrev pub size_asked : LentHeapCall → ℕ
size_asked c =
    if c.op == MALLOC then c.first
    else if c.op == CALLOC then (c.first * c.second) % 2 ^ 64 else c.second

-- A chunk as it is reported, by its call; of no bytes it has one.
abbrev pub chunk_told : ℕ → LentHeapCall → LiveChunk
chunk_told number c = record {
  address = plain c.answer;
  size = if size_asked c == 0 then 1 else size_asked c;
  call = number;
  tag = c.answer / 2 ^ 56 % 16;
  unused = 0;
}

-- The chunk that a call has made.
abbrev pub made_by : ℕ → LentHeapCall → Option LiveChunk
made_by number c =
    if c.code == OK && not (c.answer == 0) && is_maker c.op
    then Some (chunk_told number c) else None

abbrev pub without_ended : Chunks → Option ℕ → Chunks
without_ended es None = es
without_ended es (Some a) = remove_entry (is_at (nat_cmp a)) es

abbrev pub with_made : Chunks → Option LiveChunk → Chunks
with_made es None = es
with_made es (Some x) = insert_entry nat_cmp es x.address x

-- The live chunks after the call with a number.
abbrev pub after_call : Chunks → ℕ → LentHeapCall → Chunks
after_call es number c = with_made (without_ended es (ended_by c)) (made_by number c)

abbrev pub after_resolved : Chunks → ℕ → Option LentHeapCall → Chunks
after_resolved es number None = es
after_resolved es number (Some c) = after_call es number c

abbrev pub after_step : List HeapStep → Chunks → ℕ → Option HeapStep → Chunks
after_step steps es number None = es
after_step steps es number (Some s) = after_resolved es number (resolved_call steps s)

-- The live chunks after the first k calls, of which the first has the number 1.
unfoldable pub live_after : List HeapStep → ℕ → Chunks
live_after steps zero = []
live_after steps (suc k) = after_step steps (live_after steps k) (k + 1) (slice_get steps k)

-- The live chunks after all calls, by ascending addresses.
abbrev pub live_chunks : List HeapStep → List LiveChunk
live_chunks steps = values_of (live_after steps (length steps))
