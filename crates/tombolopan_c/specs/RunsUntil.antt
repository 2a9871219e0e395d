-- A run that also stops where PC comes to one of some addresses.
use Rattle.std.specs.Prelude.{ℕ, zero, suc, ◌==◌, Bool, true, false, List, Option, Some, None}
use Rattle.std.specs.Prelude.{if◌then◌else◌}
use Rattle.std.specs.List.{list_any}
use Rattle.mte_tags.specs.Memory.{Memory}
use Rattle.a64_step.specs.declared.outcome.Outcome.{Outcome}
use Rattle.a64_step.specs.declared.outcome.Outcome.TheVariants as outcome
use Rattle.a64_step.specs.declared.outcome.Stop.{Stop}
use Rattle.a64_registers.specs.declared.registers.Regs.{Regs}
use Rattle.a64_step.specs.Steps.{step_of}
use Rattle.tombolopan_c.specs.Stops.{stop_code, stop_report}
use Rattle.tombolopan_c.specs.declared.codes.TheConstants.{STOPPED}
use Rattle.tombolopan_c.specs.declared.stops.StopReport.{StopReport}

-- Whether PC is one of the stops.
abbrev pub is_among : List ℕ → ℕ → Bool
is_among stops pc = list_any (λ a. a == pc) stops

-- The result of such a run; `reached` says that PC came to one of the addresses.
pub record RanUntil : Type 0 where
  pub regs : Regs
  pub memory : Memory
  pub stop : Stop
  pub reached : Bool

-- A run goes on after Next alone.
abbrev pub goes_on : Outcome → RanUntil → RanUntil → RanUntil
goes_on outcome.Next more stopped = more
goes_on other more stopped = stopped

-- At most n steps, while the outcome of each is Next and PC is at none of the addresses after it.
unfoldable pub run_until_of : ℕ → List ℕ → Regs → Memory → RanUntil
run_until_of zero stops r m =
    record { regs = r; memory = m; stop = record { outcome = None; left = 0 }; reached = false }
run_until_of (suc n) stops r m =
    goes_on (step_of r m).outcome
    (if is_among stops (step_of r m).regs.pc
    then record {
      regs = (step_of r m).regs;
      memory = (step_of r m).memory;
      stop = record { outcome = None; left = n };
      reached = true;
    }
    else run_until_of n stops (step_of r m).regs (step_of r m).memory)
    (record {
      regs = (step_of r m).regs;
      memory = (step_of r m).memory;
      stop = record { outcome = Some (step_of r m).outcome; left = n };
      reached = false;
    })

-- The code of a run with stops.
abbrev pub until_code : Option Outcome → Bool → ℕ
until_code o reached = if reached then STOPPED else stop_code o

-- The report of a run with stops.
abbrev pub until_report : Stop → Bool → StopReport
until_report s reached = record (stop_report s) { code = until_code s.outcome reached }
