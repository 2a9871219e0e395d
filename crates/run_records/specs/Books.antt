-- The calls that a book has seen of a tenant's heap, and which call it enters next.
use Rattle.std.specs.Prelude.{◌≡◌, ℕ, ◌+◌, ◌-◌, ◌%◌, ◌^◌, List, [], ◌∷◌, ◌++◌, Option, Some, None}
use Rattle.circular_buffer.specs.Buffer.{keep_last}
use Rattle.mte_backtrace.specs.declared.callers.Callers.{Callers}
use Rattle.mte_svc.specs.declared.calls.AnsweredCall.{AnsweredCall}
use Rattle.mte_svc.specs.declared.parts.TenantParts.{TenantParts}
use Rattle.mte_svc.specs.Calls.{Calls}
use Rattle.run_records.specs.declared.book.Book.{Book}
use Rattle.run_records.specs.declared.book.BookEntry.{BookEntry}

-- How many heap calls there were when the book was last shown a record.
abbrev pub seen_by : Book → ℕ
seen_by book = book.seen

-- The calls that a book keeps, the oldest first, and how many it may keep.
abbrev pub entries_of : Book → List BookEntry
entries_of book = book.entries.items

abbrev pub room_of : Book → ℕ
room_of book = book.entries.capacity

-- A call that a tenant's last step made, by an SVC in front of where the tenant is now.
abbrev pub entry_of : TenantParts → AnsweredCall → Callers → BookEntry
entry_of parts call callers = record {
  number = parts.history.calls.count;
  step = parts.history.steps;
  pc = (parts.regs.pc + 2 ^ 64 - 4) % 2 ^ 64;
  call = call;
  drawn = parts.regs.rgsr.tag;
  callers = callers;
}

-- A book that has taken in a call, whoever its callers are: where there was no more room, the
-- oldest one has gone.
pub record IsEntered (p : TenantParts) (before after : Book) (call : AnsweredCall) : Type 0 where
  pub callers : Callers
  pub entries :
      entries_of after
      ≡ keep_last (room_of before) (entries_of before ++ entry_of p call callers ∷ [])

-- The last of these calls, or the one before them where there are none.
abbrev pub last_or : Option AnsweredCall → List AnsweredCall → Option AnsweredCall
last_or before [] = before
last_or before (call ∷ later) = last_or (Some call) later

-- The newest of the calls that a record keeps.
abbrev pub newest_call : Calls → Option AnsweredCall
newest_call calls = last_or None calls.last
