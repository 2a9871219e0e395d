-- A tenant alone, of terms that the caller lends: its slices, and the report of it.
use Rattle.std.specs.Prelude.{◌≡◌, ℕ, ◌==◌, ◌&&◌, not, nat_le, List, map, length}
use Rattle.std.specs.Prelude.{Some, None, Result, Ok, Err, false, if◌then◌else◌}
use Rattle.common.specs.Obstacles.{IfRefused}
use Rattle.common.specs.declared.obstacle.Obstacle.{Obstacle}
use Rattle.common.specs.declared.obstacle.Obstacle.TheVariants as obstacle
use Rattle.scudo_heap.specs.Calls.{arguments_of}
use Rattle.mte_svc.specs.Calls.{number_of}
use Rattle.mte_svc.specs.declared.calls.AnsweredCall.{AnsweredCall}
use Rattle.mte_svc.specs.declared.record.Record.{Record}
use Rattle.mte_svc.specs.declared.record.Status.{Status}
use Rattle.mte_svc.specs.declared.record.Status.TheVariants as status
use Rattle.mte_tenant.specs.declared.admission.AdmitError.{AdmitError}
use Rattle.mte_tenant.specs.Ledger.{is_bad}
use Rattle.mte_tenant.specs.Machines.{Start}
use Rattle.mte_tenant.specs.Alone.{refusal_alone, record_after}
use Rattle.tombolopan_c.specs.Faults.{no_fault, report_of}
use Rattle.tombolopan_c.specs.LentBuffers.{filled}
use Rattle.tombolopan_c.specs.LentPages.{mode_for}
use Rattle.tombolopan_c.specs.RefusalCodes.{abort_code, refusal_code}
use Rattle.tombolopan_c.specs.declared.codes.TheConstants as code
use Rattle.tombolopan_c.specs.declared.alone_end.AloneEnd.{AloneEnd}
use Rattle.tombolopan_c.specs.declared.kept_calls.KeptCall.{KeptCall}
use Rattle.tombolopan_c.specs.declared.lent_terms.LentTerms.{LentTerms}
use Rattle.tombolopan_c.specs.declared.status_report.StatusReport.{StatusReport}

-- ---- the tenant

-- The start of a tenant of C.
abbrev pub lent_start : LentTerms → Start
lent_start t = record {
  image = t.image.now;
  input = t.input.now;
  terms = record {
    seed = t.seed;
    pages = t.pages;
    room = t.room;
    mode = mode_for (not (t.asynchronous == 0));
  };
}

-- ---- its reports status

-- A status with a number and PC, and no fault.
abbrev pub plain_status : ℕ → ℕ → ℕ → StatusReport
plain_status s number pc =
    record { status = s; number = number; pc = pc; pointer = 0; fault = no_fault }

-- A status in numbers.
abbrev pub status_told : Status → StatusReport
status_told status.Running = plain_status code.STATUS_RUNNING 0 0
status_told status.Stopped = plain_status code.STATUS_STOPPED 0 0
status_told (status.Exited n) = plain_status code.STATUS_EXIT n 0
status_told (status.Illegal word pc) = plain_status code.STATUS_ILLEGAL word pc
status_told (status.Breakpoint n pc) = plain_status code.STATUS_BREAK n pc
status_told (status.AsyncTag pc) = plain_status code.STATUS_ASYNC 0 pc
status_told (status.Faulted f pc) =
    record (plain_status code.STATUS_FAULT 0 pc) { fault = report_of f }
status_told (status.Aborted a pointer pc) =
    record (plain_status code.STATUS_ABORT (abort_code a) pc) { pointer = pointer }

-- ---- its reports heap calls

-- An answered heap call in numbers.
abbrev pub call_told : AnsweredCall → KeptCall
call_told c = record {
  service = number_of c.call;
  first = (arguments_of c.call).0;
  second = (arguments_of c.call).1;
  answer = c.answer;
}

-- ---- its reports end

-- The end of a tenant that was not admitted.
abbrev pub without_tenant : ℕ → ℕ → AloneEnd
without_tenant c r = record {
  steps = 0;
  output = 0;
  calls = 0;
  kept = 0;
  status = plain_status code.STATUS_NONE 0 0;
  code = c;
  refusal = r;
}

-- The end of a tenant that was not admitted.
abbrev pub end_without : Obstacle AdmitError → AloneEnd
end_without obstacle.OutOfMemory = without_tenant code.OUT_OF_MEMORY code.NO_REFUSAL
end_without (obstacle.Refused e) = without_tenant code.REFUSED (refusal_code e)

-- The end of a tenant with its record.
abbrev pub told_end : ℕ → Record → AloneEnd
told_end c r = record {
  steps = r.steps;
  output = length r.output.bytes;
  calls = r.calls.count;
  kept = length r.calls.last;
  status = status_told r.status;
  code = c;
  refusal = code.NO_REFUSAL;
}

-- The end of a tenant whose output and heap calls go to buffers of the caller.
abbrev pub record_end : Record → ℕ → ℕ → AloneEnd
record_end r room places = told_end
    (if nat_le (length r.output.bytes) room && nat_le (length r.calls.last) places
    then code.OK
    else code.NO_ROOM)
    r

-- The contents of the buffers.
pub record Buffers : Type 0 where
  pub output : List ℕ
  pub calls : List KeptCall

-- The contents of the buffers after a tenant.
abbrev pub buffers_after : Record → Buffers → Buffers
buffers_after r old = record {
  output = filled r.output.bytes old.output;
  calls = filled (map call_told r.calls.last) old.calls;
}

-- ---- all of it

-- A tenant is admitted and has its record at the end of its slices, or is refused. Want of memory
-- never comes instead of a refusal of its reservation.
abbrev pub IsAnswer : LentTerms → Result Record (Obstacle AdmitError) → Type 0
IsAnswer t (Ok r) =
    (refusal_alone 0 (lent_start t) ≡ None) × (r ≡ record_after 0 (lent_start t) t.slices.now)
IsAnswer t (Err o) =
    IfRefused o (λ e. refusal_alone 0 (lent_start t) ≡ Some e)
    × (o ≡ obstacle.OutOfMemory → is_bad (lent_start t).terms ≡ false)

-- The end of a tenant, or of an admission that is refused.
abbrev pub alone_end : Result Record (Obstacle AdmitError) → Buffers → AloneEnd
alone_end (Ok r) old = record_end r (length old.output) (length old.calls)
alone_end (Err o) old = end_without o

-- The contents of the buffers in the end.
abbrev pub buffers_left : Result Record (Obstacle AdmitError) → Buffers → Buffers
buffers_left (Ok r) old = buffers_after r old
buffers_left (Err o) old = old

-- The outcome of a tenant alone is in the buffers and in the report of its end.
pub record HasLived (t : LentTerms) (old new : Buffers) (e : AloneEnd) : Type 0 where
  pub answer : Result Record (Obstacle AdmitError)
  pub is : IsAnswer t answer
  pub buffers : new ≡ buffers_left answer old
  pub told : e ≡ alone_end answer old
