-- The faults of a script: their names, and the errors that they are.
use Rattle.std.specs.Prelude.{◌≡◌, ℕ, List, codes, Option, Some, None, Result, Ok, Err}
use Rattle.mte_script.specs.declared.event.Event.{Event}
use Rattle.mte_script.specs.declared.error.ScriptFault.{ScriptFault}
use Rattle.mte_script.specs.declared.error.ScriptFault.TheVariants.{Syntax, BadNumber, NoSuchFile}
use Rattle.mte_script.specs.declared.error.ScriptFault.TheVariants.{TooManyEvents}
use Rattle.mte_script.specs.declared.error.ScriptError.{ScriptError}

-- The name of a fault of a script.
abbrev pub fault_name : ScriptFault → List ℕ
fault_name Syntax = codes "Syntax"
fault_name BadNumber = codes "BadNumber"
fault_name NoSuchFile = codes "NoSuchFile"
fault_name TooManyEvents = codes "TooManyEvents"

-- The error says the first faulty line and its first fault.
abbrev pub IsFirstFault : Result (List Event) (ℕ × ScriptFault) → ScriptError → Type 0
IsFirstFault (Ok events) e = ⊥
IsFirstFault (Err fault) e = e ≡ record { line = fault.0; fault = fault.1 }

-- A line with a number has this fault.
abbrev pub IsLineFault : ℕ → Option (Result Event ScriptFault) → ScriptError → Type 0
IsLineFault number None e = ⊥
IsLineFault number (Some (Ok event)) e = ⊥
IsLineFault number (Some (Err fault)) e = e ≡ record { line = number; fault = fault }
