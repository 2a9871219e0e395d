-- The program's work once its command line is read.
use Rattle.std.specs.Prelude.{◌≡◌, ◌⊎◌, ℕ}
use Rattle.mte_streams.specs.Writing.{WriteLog, WroteAll, WrotePart}
use Rattle.mte_session.specs.declared.ending.Ending.{Ending}
use Rattle.mte_session.specs.declared.ending.Ending.TheVariants.{Memory}
use Rattle.mte_session.specs.Endings.{status_of, ending_text}
use Rattle.mte_session.specs.declared.program.Program.{Program}
use Rattle.mte_session.specs.declared.invocation.Invocation.{Invocation}
use Rattle.mte_session.specs.declared.invocation.Invocation.TheVariants.{Run, Exit, OutOfMemory}
use Rattle.mte_session.specs.Reads.{FilesLog}
use Rattle.mte_session.specs.Runs.{Ran}

-- The bytes that were read and written, as far as they are known.
pub record Logs : Type 0 where
  pub files : FilesLog
  pub out : WriteLog
  pub err : WriteLog

-- An ending's line was written to standard error, or a prefix of it.
abbrev pub Told : Ending → WriteLog → WriteLog → Type 0
Told e old new = WroteAll old new (ending_text e) ⊎ WrotePart old new (ending_text e)

-- A session was run, and how it ended was said by the line and by the exit status.
pub record HasEnded (p : Program) (old new : Logs) (status : ℕ) : Type 0 where
  pub ending : Ending
  pub ran : Ran p old.files new.files old.out new.out ending
  pub told : Told ending old.err new.err
  pub is : status ≡ status_of ending

-- No file was read, and nothing was written to standard output.
pub record Untouched (old new : Logs) : Type 0 where
  pub files : new.files ≡ old.files
  pub out : new.out ≡ old.out

-- The outcome of a command line, with the exit status.
abbrev pub Concluded : Invocation → Logs → Logs → ℕ → Type 0
Concluded (Run p) old new status = HasEnded p old new status
Concluded (Exit n) old new status = (status ≡ n) × (new ≡ old)
Concluded OutOfMemory old new status =
    (status ≡ 4) × Untouched old new × Told Memory old.err new.err
