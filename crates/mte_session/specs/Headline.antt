-- The reports of two sessions that agree for a tenant: the same lines of it, whatever else either
-- has.
use Rattle.std.specs.Prelude.{◌≡◌, ℕ, List, ◌++◌, length, Ok}
use Rattle.mte_streams.specs.Writing.{WriteLog, WroteAll}
use Rattle.mte_script.specs.declared.event.Event.{Event}
use Rattle.mte_script.specs.Scripts.{script_events}
use Rattle.mte_svc.specs.declared.record.Record.{Record}
use Rattle.mte_sched.specs.Lives.{Agree, Life}
use Rattle.mte_sched.specs.Contents.{record_of, tenant_of}
use Rattle.mte_session.specs.declared.headline.Session.{Session}
use Rattle.mte_session.specs.Files.{contents}
use Rattle.mte_session.specs.Outcomes.{Input}
use Rattle.mte_session.specs.Report.{record_text}
use Rattle.mte_session.specs.Sessions.{session_of}

-- The inputs of a session: frames, files and script.
abbrev pub input_of : Session → Input
input_of s = record { frames = s.frames; files = contents s.files.now; script = s.script.now }

-- Both scripts admit the tenant with the same image, input, seed, reservation, room and tag mode,
-- and give it the same slices and the same stop.
pub record AgreeFor (id : ℕ) (one other : Input) : Type 0 where
  pub events : List Event
  pub others : List Event
  pub read : script_events (length one.files) one.script ≡ Ok events
  pub read_other : script_events (length other.files) other.script ≡ Ok others
  pub agree :
      Agree id (session_of one.frames one.files events)
      (session_of other.frames other.files others)

-- The lines of a record are in a text that was written.
pub record Shows (known : Record) (old new : WriteLog) : Type 0 where
  pub before : List ℕ
  pub after : List ℕ
  pub wrote : WroteAll old new (before ++ (record_text known ++ after))

-- Both texts have the lines of one record: that of the tenant alone, whose number it has.
pub record WroteAlike (id : ℕ) (life : Life) (old1 new1 old2 new2 : WriteLog) : Type 0 where
  pub known : Record
  pub number : known.id ≡ id
  pub alone : known ≡ record_of (tenant_of life).held
  pub one : Shows known old1 new1
  pub other : Shows known old2 new2
