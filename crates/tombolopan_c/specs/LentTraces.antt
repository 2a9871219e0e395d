-- A traced run over lent memory, and the report of its end.
use Rattle.std.specs.Prelude.{◌≡◌, ℕ, ◌&&◌, ◌≤◌, Bool, nat_le, nat_lt, length, true, false, None}
use Rattle.std.specs.Prelude.{if◌then◌else◌}
use Rattle.mte_tags.specs.Memory.{Memory}
use Rattle.a64_registers.specs.declared.registers.Regs.{Regs}
use Rattle.tombolopan.specs.Traces.{trace_of, Arrays, Holds, IsFull}
use Rattle.tombolopan.specs.declared.trace_request.TraceRequest.{TraceRequest}
use Rattle.tombolopan.specs.declared.traced_run.TraceEnd.{TraceEnd}
use Rattle.tombolopan_c.specs.Faults.{no_fault}
use Rattle.tombolopan_c.specs.Stops.{stop_code, stop_number, stop_fault}
use Rattle.tombolopan_c.specs.declared.codes.TheConstants.{BAD_ARGUMENT, NO_ROOM, STOPPED}
use Rattle.tombolopan_c.specs.declared.traces.TraceReport.{TraceReport}

-- Ranges begin before they end, and kinds are kinds.
abbrev pub is_request : TraceRequest → Bool
is_request q = nat_le q.code_low q.code_high && nat_le q.low q.high && nat_lt q.kinds 16

-- The report of a run that is not begun.
abbrev pub no_steps : TraceReport
no_steps = record {
  steps = 0;
  instructions = 0;
  accesses = 0;
  code = BAD_ARGUMENT;
  number = 0;
  fault = no_fault;
}

-- The code of the end of a run.
abbrev pub end_code : TraceEnd → ℕ
end_code e = if e.reached then STOPPED else (if e.full then NO_ROOM else stop_code e.outcome)

-- The report of the end of a run.
abbrev pub end_report : TraceEnd → TraceReport
end_report e = record {
  steps = e.steps;
  instructions = e.instructions;
  accesses = e.accesses;
  code = end_code e;
  number = stop_number e.outcome;
  fault = stop_fault e.outcome;
}

-- A traced run of C leaves in the registers and in its arrays what its first steps leave,
-- and its end is reported.
pub record HasTraced (q : TraceRequest) (r0 : Regs) (m0 : Memory) (old : Arrays) (t : TraceReport)
    (r : Regs) (now : Arrays) : Type 0 where
  pub end : TraceEnd
  pub told : t ≡ end_report end
  pub regs : r ≡ (trace_of t.steps q r0 m0).regs
  pub outcome : end.outcome ≡ (trace_of t.steps q r0 m0).outcome
  pub reached : end.reached ≡ (trace_of t.steps q r0 m0).reached
  pub instructions :
      Holds (trace_of t.steps q r0 m0).instructions old.instructions now.instructions t.instructions
  pub accesses : Holds (trace_of t.steps q r0 m0).accesses old.accesses now.accesses t.accesses
  pub within : t.steps ≤ q.steps
  pub whole : end.outcome ≡ None → end.reached ≡ false → end.full ≡ false → t.steps ≡ q.steps
  pub full : end.full ≡ true → IsFull end (length old.instructions) (length old.accesses)
