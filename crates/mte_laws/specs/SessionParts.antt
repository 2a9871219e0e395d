-- A session in parts: each tenant's lines are the report of a session of its own.
use Rattle.std.specs.Prelude.{◌≡◌, ◌≤◌, ℕ, ◌==◌, List, [], ◌∷◌, ◌++◌, map, flat_map}
use Rattle.std.specs.Prelude.{◌&&◌, Bool, zip, is_none, length, All, Ok}
use Rattle.mte_script.specs.declared.event.Event.{Event}
use Rattle.mte_script.specs.declared.event.Event.TheVariants as event
use Rattle.mte_script.specs.Scripts.{script_events}
use Rattle.mte_laws.specs.ScriptLines.{chosen, event_lines, script_of}
use Rattle.mte_tenant.specs.Ledger.{Call, Admit, Slice, Stop, LedgerEntry, charge_of}
use Rattle.mte_sched.specs.Lives.{TenantEvent, OwnSlice, OwnStop, Life, Session, lives, refusals}
use Rattle.mte_sched.specs.Lives.{Decision, decisions}
use Rattle.mte_session.specs.Outcomes.{Input}
use Rattle.mte_session.specs.Sessions.{calls_of, session_of, refused_texts, session_text}

-- ---- decisions need no steps

-- A call with no steps to make.
abbrev pub without_steps : Call → Call
without_steps (Admit id start) = Admit id start
without_steps (Slice id steps) = Slice id 0
without_steps (Stop id) = Stop id

-- A decision on such a call.
abbrev pub decision_without_steps : Decision → Decision
decision_without_steps d = record d { call = without_steps d.call }

-- The decisions on calls are those on the same calls without their steps.
abbrev pub DecisionsNeedNoSteps : Type 0
DecisionsNeedNoSteps =
    (frames : ℕ) (ledger : List LedgerEntry) (calls : List Call) →
    decisions frames ledger (map without_steps calls)
    ≡ map decision_without_steps (decisions frames ledger calls)

-- ---- a tenant's own session

-- The call that an own event of a tenant is.
abbrev pub own_call : ℕ → TenantEvent → Call
own_call id (OwnSlice steps) = Slice id steps
own_call id OwnStop = Stop id

-- A tenant's own session: frames for its reservation and no more, its admission, its own events.
abbrev pub session_alone : Life → Session
session_alone life = record {
  frames = charge_of life.start.terms.pages;
  calls = Admit life.id life.start ∷ map (own_call life.id) life.own;
}

-- A tenant's own session takes no more frames, refuses no call, and has that tenant alone.
pub record IsAlone (frames : ℕ) (life : Life) : Type 0 where
  pub fits : (session_alone life).frames ≤ frames
  pub refused : refusals (session_alone life) ≡ []
  pub has : lives (session_alone life) ≡ life ∷ []

-- An event of a tenant that a session accepts is accepted in the tenant's own session.
abbrev pub AcceptedAlone : Type 0
AcceptedAlone = (s : Session) → All (IsAlone s.frames) (lives s)

-- A report is the lines of the refused calls, and the report of each tenant's own session, in the
-- order of their admissions.
abbrev pub ReportInParts : Type 0
ReportInParts =
    (s : Session) →
    session_text s
    ≡ refused_texts (refusals s) ++ flat_map (λ life. session_text (session_alone life)) (lives s)

-- ---- the same by the events of a script

-- The number that an event names.
abbrev pub number_in : Event → ℕ
number_in (event.Admit id image input terms) = id
number_in (event.Slice id steps) = id
number_in (event.Stop id) = id

-- Which events are a tenant's own, by the decisions on them: those that are accepted and name it.
abbrev pub own_mask : ℕ → List Event → List Decision → List Bool
own_mask id events ds =
    map (λ p. is_none p.1.refusal && (id == number_in p.0)) (zip events ds)

-- The same for a host of `frames` frames.
abbrev pub mask_of : ℕ → List (List ℕ) → List Event → ℕ → List Bool
mask_of frames files events id = own_mask id events (decisions frames [] (calls_of files events))

-- A tenant's own script over the same files, on frames for its reservation and no more.
abbrev pub script_alone : ℕ → List (List ℕ) → List Event → Life → Session
script_alone frames files events life =
    session_of (charge_of life.start.terms.pages) files
    (chosen (mask_of frames files events life.id) events)

-- A report is the lines of the refused events, and the report of each tenant's own script, in the
-- order of their admissions.
abbrev pub ScriptInParts : Type 0
ScriptInParts =
    (frames : ℕ) (files : List (List ℕ)) (events : List Event) →
    let s = session_of frames files events in
    session_text s
    ≡ refused_texts (refusals s)
    ++ flat_map (λ life. session_text (script_alone frames files events life)) (lives s)

-- ---- the same by the text of a script

-- The lines of a tenant's own events.
abbrev pub own_text : Input → List Event → ℕ → List ℕ
own_text input events id =
    script_of
    (chosen (mask_of input.frames input.files events id)
    (event_lines (length input.files) input.script))

-- Where no line of a script is faulty, the lines of a tenant's own events are its own script.
abbrev pub TextsInParts : Type 0
TextsInParts =
    (input : Input) (events : List Event) (id : ℕ) →
    script_events (length input.files) input.script ≡ Ok events →
    script_events (length input.files) (own_text input events id)
    ≡ Ok (chosen (mask_of input.frames input.files events id) events)
