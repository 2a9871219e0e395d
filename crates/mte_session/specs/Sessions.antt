-- The report of a session: by the ledger and the tenants alone. No host is in it.
use Rattle.std.specs.Prelude.{ℕ, ◌-◌, ◌==◌, List, [], ◌∷◌, ◌++◌, map, codes, decimal, slice_get}
use Rattle.std.specs.Prelude.{unwrap_or, if◌then◌else◌}
use Rattle.std.specs.List.{concat}
use Rattle.mte_script.specs.declared.event.Event.{Event}
use Rattle.mte_script.specs.declared.event.Event.TheVariants as event
use Rattle.mte_tenant.specs.declared.admission.AdmitError.TheVariants.{Image}
use Rattle.mte_tenant.specs.declared.refusal.Refusal.{Refusal}
use Rattle.mte_tenant.specs.declared.refusal.Refusal.TheVariants as refusal
use Rattle.mte_tenant.specs.declared.refusal.Refused.{Refused}
use Rattle.mte_tenant.specs.Names.{refusal_name}
use Rattle.mte_tenant.specs.Ledger.{Call, Admit, Slice, Stop}
use Rattle.mte_tenant.specs.Machines.{Start}
use Rattle.tenant_terms.specs.declared.Terms.{Terms}
use Rattle.mte_sched.specs.Lives.{Session, Life, lives, refusals}
use Rattle.mte_sched.specs.Contents.{Tenant, record_of, tenant_of}
use Rattle.mte_session.specs.Report.{line, record_text}

-- ---- the calls of a script

-- The bytes of a file by its number from 1; none for 0.
abbrev pub file_at : List (List ℕ) → ℕ → List ℕ
file_at files n = if n == 0 then [] else unwrap_or (slice_get files (n - 1)) []

-- The start of a tenant, by the numbers of its files.
abbrev pub start_at : List (List ℕ) → ℕ → ℕ → Terms → Start
start_at files image input terms =
    record { image = file_at files image; input = file_at files input; terms = terms }

-- The call of an event.
abbrev pub call_of : List (List ℕ) → Event → Call
call_of files (event.Admit id image input terms) = Admit id (start_at files image input terms)
call_of files (event.Slice id steps) = Slice id steps
call_of files (event.Stop id) = Stop id

-- The calls that the events of a script make.
abbrev pub calls_of : List (List ℕ) → List Event → List Call
calls_of files events = map (call_of files) events

-- The session of a script over files.
abbrev pub session_of : ℕ → List (List ℕ) → List Event → Session
session_of frames files events = record { frames = frames; calls = calls_of files events }

-- ---- the report

-- `Image ` is before the name of an image's refusal.
abbrev pub prefix_of : Refusal → List ℕ
prefix_of refusal.NotLive = []
prefix_of (refusal.Admit (Image e)) = codes "Image "
prefix_of (refusal.Admit other) = []

-- The line of a refused event.
unfoldable pub refused_text : Refused → List ℕ
refused_text r =
    line (codes "refused " ∷ decimal r.event ∷ codes " "
    ∷ prefix_of r.refusal ∷ refusal_name r.refusal ∷ [])

-- The lines of all refused events.
abbrev pub refused_texts : List Refused → List ℕ
refused_texts refusals = concat (map refused_text refusals)

-- The lines of a tenant.
abbrev pub tenant_text : Tenant → List ℕ
tenant_text t = record_text (record_of t.held)

-- The lines of all tenants, in the order of their admissions.
abbrev pub tenant_texts : List Tenant → List ℕ
tenant_texts ts = concat (map tenant_text ts)

-- A tenant's lines, by its admission and its own events.
abbrev pub life_text : Life → List ℕ
life_text life = tenant_text (tenant_of life)

-- The lines of all tenants of a session.
abbrev pub life_texts : List Life → List ℕ
life_texts all = concat (map life_text all)

-- A line for each refused call, then the lines of each admitted tenant.
unfoldable pub session_text : Session → List ℕ
session_text s = refused_texts (refusals s) ++ life_texts (lives s)
