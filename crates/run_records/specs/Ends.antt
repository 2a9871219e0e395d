-- The chunks that heap calls made, and the calls that ended them.
use Rattle.std.specs.Prelude.{ℕ, nat_eq, Bool, List, Option, Some, None}
use Rattle.std.specs.List.{find}
use Rattle.std.specs.Option.{option_eq}
use Rattle.a64_bits.specs.Addresses.{plain}
use Rattle.heap_bounds.specs.declared.calls.Allocation.{Allocation}
use Rattle.heap_bounds.specs.Chunks.{ended_chunk}
use Rattle.run_records.specs.declared.book.BookEntry.{BookEntry}
use Rattle.run_records.specs.declared.book.BookChunk.{BookChunk}

-- The chunk of an allocation, of which nothing has become yet.
abbrev pub new_chunk : BookEntry → Allocation → BookChunk
new_chunk e a = record { pointer = a.pointer; size = a.size; made = e; freed = None }

-- Whether the address is the one.
abbrev pub is_at : ℕ → Option ℕ → Bool
is_at start address = option_eq nat_eq address (Some start)

-- The first of these calls after which the chunk at a plain address is no longer there.
abbrev pub ending_call : ℕ → List BookEntry → Option BookEntry
ending_call start entries = find (λ e. is_at start (ended_chunk e.call)) entries

-- A chunk with the call that ended it, the first of those after the one that made it.
abbrev pub with_ending : List BookEntry → BookChunk → BookChunk
with_ending later chunk = record chunk { freed = ending_call (plain chunk.pointer) later }
