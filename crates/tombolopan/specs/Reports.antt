-- The outcome of a session: its report, or why it has none.
use Rattle.std.specs.Prelude.{◌≡◌, ℕ, List, length, Ok, Err, ⊤}
use Rattle.mte_script.specs.declared.event.Event.{Event}
use Rattle.mte_script.specs.Scripts.{script_events}
use Rattle.mte_session.specs.declared.session.SessionError.{SessionError}
use Rattle.mte_session.specs.declared.session.SessionError.TheVariants.{Script, OutOfMemory, Write}
use Rattle.mte_session.specs.Outcomes.{Input}
use Rattle.mte_session.specs.Sessions.{session_of, session_text}

-- The script has no faulty line, and this is the report.
pub record IsReport (input : Input) (text : List ℕ) : Type 0 where
  pub events : List Event
  pub read : script_events (length input.files) input.script ≡ Ok events
  pub whole : text ≡ session_text (session_of input.frames input.files events)

-- The script's first faulty line and its first fault; or an allocation failed.
abbrev pub FailsBy : Input → SessionError → Type 0
FailsBy input (Script line fault) =
    script_events (length input.files) input.script ≡ Err (line, fault)
FailsBy input OutOfMemory = ⊤
FailsBy input Write = ⊥
