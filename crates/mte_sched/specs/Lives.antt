-- A tenant's life in a session: its admission and its own events.
use Rattle.std.specs.Prelude.{◌≡◌, ℕ, ◌+◌, ◌==◌, List, [], ◌∷◌, ◌++◌, map, filter, flat_map}
use Rattle.std.specs.Prelude.{Option, Some, None, is_none, option_map, option_to_list}
use Rattle.std.specs.Prelude.{if◌then◌else◌}
use Rattle.mte_tenant.specs.declared.refusal.Refusal.{Refusal}
use Rattle.mte_tenant.specs.declared.refusal.Refused.{Refused}
use Rattle.mte_tenant.specs.Machines.{Start}
use Rattle.mte_tenant.specs.Ledger.{Call, Admit, Slice, Stop, LedgerEntry, call_refusal}
use Rattle.mte_tenant.specs.Ledger.{ledger_cases}

-- The events of a tenant's life: a slice, with its number of steps, and its stop.
pub data TenantEvent : Type 0 where
  OwnSlice : ℕ → TenantEvent
  OwnStop : TenantEvent

-- A tenant of a session.
pub record Life : Type 0 where
  pub id : ℕ
  pub start : Start
  pub own : List TenantEvent

-- ---- the decisions on calls

-- A call, and why it is refused, if it is.
pub record Decision : Type 0 where
  pub call : Call
  pub refusal : Option Refusal

-- The decisions of a host of `frames` frames on calls in turn. Each is made by the ledger of the
-- calls that were accepted before: no machine is in it.
unfoldable pub decisions : ℕ → List LedgerEntry → List Call → List Decision
decisions frames ledger [] = []
decisions frames ledger (e ∷ more) =
    let refusal = call_refusal frames ledger e in
    record { call = e; refusal = refusal }
    ∷ decisions frames (ledger_cases refusal ledger e) more

-- The calls that are accepted.
abbrev pub accepted_calls : List Decision → List Call
accepted_calls ds = map (λ d. d.call) (filter (λ d. is_none d.refusal) ds)

-- The calls that are refused, the first call being the n-th.
abbrev pub refusals_of : ℕ → List Decision → List Refused
refusals_of n [] = []
refusals_of n (d ∷ more) =
    option_to_list (option_map (λ r. record { event = n; refusal = r }) d.refusal)
    ++ refusals_of (n + 1) more

-- ---- the tenants that accepted calls admit

-- The event of a call for a tenant: its slice, its stop, or nothing.
abbrev pub own_event_of : ℕ → Call → List TenantEvent
own_event_of id (Admit k start) = []
own_event_of id (Slice k n) = if id == k then OwnSlice n ∷ [] else []
own_event_of id (Stop k) = if id == k then OwnStop ∷ [] else []

-- The own events of a tenant among calls: its slices and its stop.
abbrev pub own_events : ℕ → List Call → List TenantEvent
own_events id calls = flat_map (own_event_of id) calls

-- The tenants that calls admit, in the order of their admissions.
abbrev pub lives_of : List Call → List Life
lives_of [] = []
lives_of (Admit id start ∷ more) =
    record { id = id; start = start; own = own_events id more } ∷ lives_of more
lives_of (Slice id steps ∷ more) = lives_of more
lives_of (Stop id ∷ more) = lives_of more

-- ---- sessions

-- A host's frames, and the calls that are made of it.
pub record Session : Type 0 where
  pub frames : ℕ
  pub calls : List Call

-- The tenants of a session.
abbrev pub lives : Session → List Life
lives s = lives_of (accepted_calls (decisions s.frames [] s.calls))

-- The refused calls of a session.
abbrev pub refusals : Session → List Refused
refusals s = refusals_of 1 (decisions s.frames [] s.calls)

-- The tenant with a number, if there is one.
abbrev pub life_among : ℕ → List Life → Option Life
life_among id [] = None
life_among id (life ∷ more) = if life.id == id then Some life else life_among id more

-- Two sessions agree for a tenant: both admit it with the same image, input, seed, reservation,
-- room and tag mode, and its own events are the same. Frames, all other calls and their places may
-- differ.
pub record Agree (id : ℕ) (s t : Session) : Type 0 where
  pub life : Life
  pub one : life_among id (lives s) ≡ Some life
  pub other : life_among id (lives t) ≡ Some life
