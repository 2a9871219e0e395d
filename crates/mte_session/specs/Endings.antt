-- How the program ends: its exit status, and its line on standard error.
use Rattle.std.specs.Prelude.{ℕ, List, [], ◌∷◌, codes, decimal}
use Rattle.std.specs.List.{concat}
use Rattle.mte_script.specs.Faults.{fault_name}
use Rattle.std.specs.Borrow.{Bor}
use Rattle.mte_streams.specs.declared.reading.ReadFault.{ReadFault}
use Rattle.mte_streams.specs.declared.reading.ReadFault.TheVariants as fault
use Rattle.mte_session.specs.declared.session.SessionError.{SessionError}
use Rattle.mte_session.specs.declared.session.SessionError.TheVariants as error
use Rattle.mte_session.specs.declared.ending.Ending.{Ending}
use Rattle.mte_session.specs.declared.ending.Ending.TheVariants.{Done, Script, Memory, Read, Write}

-- The ending of a session that failed.
abbrev pub ending_of : SessionError → Ending
ending_of (error.Script line fault) = Script line fault
ending_of error.OutOfMemory = Memory
ending_of error.Write = Write

-- The ending where a file of a name is not read as a whole.
abbrev pub read_ending : ReadFault → Bor (List ℕ) → Ending
read_ending fault.OutOfMemory name = Memory
read_ending fault.Read name = Read name
read_ending fault.TooLong name = Read name

-- The exit status.
abbrev pub status_of : Ending → ℕ
status_of Done = 0
status_of (Script number fault) = 3
status_of Memory = 4
status_of (Read name) = 5
status_of Write = 6

-- The line on standard error.
abbrev pub ending_text : Ending → List ℕ
ending_text Done = []
ending_text (Script number fault) =
    concat (codes "mte_host: script line " ∷ decimal number ∷ codes ": "
    ∷ fault_name fault ∷ codes "\n" ∷ [])
ending_text Memory = concat (codes "mte_host: out of memory\n" ∷ [])
ending_text (Read name) = concat (codes "mte_host: cannot read " ∷ name.now ∷ codes "\n" ∷ [])
ending_text Write = concat (codes "mte_host: cannot write\n" ∷ [])
