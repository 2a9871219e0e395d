-- The outcomes of a session: its whole report, a prefix of it, or nothing.
use Rattle.std.specs.Prelude.{◌≡◌, ℕ, List, length, Ok, Err}
use Rattle.mte_streams.specs.Writing.{WriteLog, WroteAll, WrotePart}
use Rattle.mte_script.specs.declared.event.Event.{Event}
use Rattle.mte_script.specs.declared.error.ScriptError.{ScriptError}
use Rattle.common.specs.declared.obstacle.Obstacle.{Obstacle}
use Rattle.common.specs.declared.obstacle.Obstacle.TheVariants as obstacle
use Rattle.mte_script.specs.Scripts.{script_events}
use Rattle.mte_session.specs.declared.session.SessionError.{SessionError}
use Rattle.mte_session.specs.declared.session.SessionError.TheVariants.{Script, OutOfMemory, Write}
use Rattle.mte_session.specs.Sessions.{session_of, session_text}

-- The error of a session whose script is not read.
abbrev pub session_error : Obstacle ScriptError → SessionError
session_error obstacle.OutOfMemory = OutOfMemory
session_error (obstacle.Refused e) = Script e.line e.fault

-- The inputs of a session.
pub record Input : Type 0 where
  pub frames : ℕ
  pub files : List (List ℕ)
  pub script : List ℕ

-- The script has no faulty line, and all of the report was written.
pub record Reported (input : Input) (old new : WriteLog) : Type 0 where
  pub events : List Event
  pub read : script_events (length input.files) input.script ≡ Ok events
  pub wrote : WroteAll old new (session_text (session_of input.frames input.files events))

-- The script has no faulty line, and a write failed after a prefix of the report.
pub record CutShort (input : Input) (old new : WriteLog) : Type 0 where
  pub events : List Event
  pub read : script_events (length input.files) input.script ≡ Ok events
  pub wrote : WrotePart old new (session_text (session_of input.frames input.files events))

-- No write was made.
abbrev pub Unwritten : WriteLog → WriteLog → Type 0
Unwritten old new = new ≡ old

-- The meaning of each error.
abbrev pub Failed : Input → WriteLog → WriteLog → SessionError → Type 0
Failed input old new (Script line fault) =
    (script_events (length input.files) input.script ≡ Err (line, fault)) × Unwritten old new
Failed input old new OutOfMemory = Unwritten old new
Failed input old new Write = CutShort input old new
