-- The codes of the ends of steps and runs, and what is reported of them.
use Rattle.std.specs.Prelude.{ℕ, Option, Some, None}
use Rattle.a64_step.specs.declared.outcome.Outcome.{Outcome}
use Rattle.a64_step.specs.declared.outcome.Outcome.TheVariants as outcome
use Rattle.a64_step.specs.declared.outcome.Stop.{Stop}
use Rattle.tombolopan_c.specs.declared.codes.TheConstants.{OK, FAULT, SVC, BREAKPOINT, ILLEGAL}
use Rattle.tombolopan_c.specs.declared.faults.FaultReport.{FaultReport}
use Rattle.tombolopan_c.specs.declared.stops.StopReport.{StopReport}
use Rattle.tombolopan_c.specs.Faults.{no_fault, report_of}

-- The code of what stopped a run, if anything did.
abbrev pub stop_code : Option Outcome → ℕ
stop_code None = OK
stop_code (Some outcome.Next) = OK
stop_code (Some outcome.Svc) = SVC
stop_code (Some (outcome.Fault f)) = FAULT
stop_code (Some (outcome.Illegal w)) = ILLEGAL
stop_code (Some (outcome.Breakpoint n)) = BREAKPOINT

-- The word or the number of what stopped a run.
abbrev pub stop_number : Option Outcome → ℕ
stop_number (Some (outcome.Illegal w)) = w
stop_number (Some (outcome.Breakpoint n)) = n
stop_number other = 0

-- The fault that stopped a run, if one did.
abbrev pub stop_fault : Option Outcome → FaultReport
stop_fault (Some (outcome.Fault f)) = report_of f
stop_fault other = no_fault

-- The stop of a run, in numbers.
abbrev pub stop_report : Stop → StopReport
stop_report s =
    record {
      left = s.left;
      code = stop_code s.outcome;
      number = stop_number s.outcome;
      fault = stop_fault s.outcome;
    }
