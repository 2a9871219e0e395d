-- A host over tenants of any behaviour, and that no tenant can observe another.
--     Behaviour M R          what a tenant is from its admission to its stop: M while it lives, R
--                            from then on
--     after_calls b c calls  what calls make of the content c of a host
--     tenant_of b life       the tenant that a life is, alone
-- No instruction, heap or page is named: Contents has a tenant's machine as one behaviour.
use Rattle.std.specs.Prelude.{◌≡◌, ℕ, ◌==◌, Bool, true, false}
use Rattle.std.specs.Prelude.{List, [], ◌∷◌, ◌++◌, map}
use Rattle.std.specs.Prelude.{Option, Some, None, if◌then◌else◌}
use Rattle.mte_tenant.specs.declared.refusal.Refusal.{Refusal}
use Rattle.mte_tenant.specs.Machines.{Start}
use Rattle.mte_tenant.specs.Ledger.{Call, Admit, Slice, Stop, LedgerEntry, call_refusal}
use Rattle.mte_sched.specs.Lives.{TenantEvent, OwnSlice, OwnStop, Life, Session, Agree, lives}

-- How a tenant begins, by its number and what it is admitted with, what a slice of some steps makes
-- of it, and what its stop leaves.
pub record Behaviour (M R : Type 0) : Type 0 where
  pub start : ℕ → Start → M
  pub slice : ℕ → M → M
  pub stop : M → R

-- A live tenant, or what its stop left.
pub data TenantState (M R : Type 0) : Type 0 where
  Live : M → TenantState M R
  Gone : R → TenantState M R

-- Whether a tenant was not stopped yet.
abbrev pub lives_on : {M R : Type 0} → TenantState M R → Bool
lives_on (Live m) = true
lives_on (Gone r) = false

-- A tenant after a slice; a stopped one stays.
abbrev pub state_after_slice :
    {M R : Type 0} → Behaviour M R → ℕ → TenantState M R → TenantState M R
state_after_slice b n (Live m) = Live (b.slice n m)
state_after_slice b n (Gone r) = Gone r

-- A tenant after its stop; a stopped one stays.
abbrev pub state_after_stop :
    {M R : Type 0} → Behaviour M R → TenantState M R → TenantState M R
state_after_stop b (Live m) = Gone (b.stop m)
state_after_stop b (Gone r) = Gone r

-- A tenant alone: after its own events, and nothing else.
abbrev pub after_own_events :
    {M R : Type 0} → Behaviour M R → TenantState M R → List TenantEvent → TenantState M R
after_own_events b h [] = h
after_own_events b h (OwnSlice n ∷ more) = after_own_events b (state_after_slice b n h) more
after_own_events b h (OwnStop ∷ more) = after_own_events b (state_after_stop b h) more

-- ---- the content of a host: its frames, and its tenants in the order of their admissions

-- A tenant of a host: its number, its reservation, and its state.
pub record Tenant (M R : Type 0) : Type 0 where
  pub id : ℕ
  pub pages : ℕ
  pub held : TenantState M R

-- The state of a host: a number of frames, and its tenants in the order of their admissions.
pub record Content (M R : Type 0) : Type 0 where
  pub frames : ℕ
  pub tenants : List (Tenant M R)

-- A host without tenants.
abbrev pub empty : {M R : Type 0} → ℕ → Content M R
empty frames = record { frames = frames; tenants = [] }

-- The ledger entry of a tenant.
abbrev pub entry_of : {M R : Type 0} → Tenant M R → LedgerEntry
entry_of t = record { id = t.id; pages = t.pages; live = lives_on t.held }

-- The ledger of a host.
abbrev pub ledger_of : {M R : Type 0} → Content M R → List LedgerEntry
ledger_of c = map entry_of c.tenants

-- A tenant that is admitted.
abbrev pub new_tenant : {M R : Type 0} → Behaviour M R → ℕ → Start → Tenant M R
new_tenant b id start =
    record { id = id; pages = start.terms.pages; held = Live (b.start id start) }

-- The host after an accepted admission.
abbrev pub after_admit :
    {M R : Type 0} → Behaviour M R → Content M R → ℕ → Start → Content M R
after_admit b c id start = record c { tenants = c.tenants ++ new_tenant b id start ∷ [] }

-- One tenant's state, and no other's.
abbrev pub tenant_after_slice :
    {M R : Type 0} → Behaviour M R → ℕ → ℕ → Tenant M R → Tenant M R
tenant_after_slice b id n t =
    record t { held = if t.id == id then state_after_slice b n t.held else t.held }

-- A tenant after the stop of the tenant with a number.
abbrev pub tenant_after_stop :
    {M R : Type 0} → Behaviour M R → ℕ → Tenant M R → Tenant M R
tenant_after_stop b id t =
    record t { held = if t.id == id then state_after_stop b t.held else t.held }

-- The host after an accepted slice.
abbrev pub after_slice_of :
    {M R : Type 0} → Behaviour M R → Content M R → ℕ → ℕ → Content M R
after_slice_of b c id n = record c { tenants = map (tenant_after_slice b id n) c.tenants }

-- The host after an accepted stop.
abbrev pub after_stop_of : {M R : Type 0} → Behaviour M R → Content M R → ℕ → Content M R
after_stop_of b c id = record c { tenants = map (tenant_after_stop b id) c.tenants }

-- The host after an accepted call.
abbrev pub after_call : {M R : Type 0} → Behaviour M R → Content M R → Call → Content M R
after_call b c (Admit id start) = after_admit b c id start
after_call b c (Slice id n) = after_slice_of b c id n
after_call b c (Stop id) = after_stop_of b c id

-- The host after a call: a refused one changes nothing.
abbrev pub after_call_cases :
    {M R : Type 0} → Behaviour M R → Option Refusal → Content M R → Call → Content M R
after_call_cases b (Some r) c e = c
after_call_cases b None c e = after_call b c e

-- Calls in turn.
abbrev pub after_calls :
    {M R : Type 0} → Behaviour M R → Content M R → List Call → Content M R
after_calls b c [] = c
after_calls b c (e ∷ more) =
    after_calls b (after_call_cases b (call_refusal c.frames (ledger_of c) e) c e) more

-- The host of a session after all its calls.
abbrev pub content_after : {M R : Type 0} → Behaviour M R → Session → Content M R
content_after b s = after_calls b (empty s.frames) s.calls

-- The tenant that a life is, alone.
abbrev pub tenant_of : {M R : Type 0} → Behaviour M R → Life → Tenant M R
tenant_of b life = record {
  id = life.id;
  pages = life.start.terms.pages;
  held = after_own_events b (Live (b.start life.id life.start)) life.own;
}

-- The tenant with a number, if there is one.
abbrev pub tenant_among : {M R : Type 0} → ℕ → List (Tenant M R) → Option (Tenant M R)
tenant_among id [] = None
tenant_among id (t ∷ more) = if t.id == id then Some t else tenant_among id more

-- ---- isolation

-- After every list of calls the tenants are the accepted admissions, each alone.
abbrev pub BehavioursAreAlone : (M R : Type 0) → Type 0
BehavioursAreAlone M R =
    (b : Behaviour M R) (s : Session)
    → (content_after b s).tenants ≡ map (tenant_of b) (lives s)

-- Two sessions have the same of a tenant: what it is, or what its stop left.
pub record HaveTheSame {M R : Type 0} (b : Behaviour M R) (id : ℕ) (s t : Session) : Type 0 where
  pub tenant : Tenant M R
  pub one : tenant_among id (content_after b s).tenants ≡ Some tenant
  pub other : tenant_among id (content_after b t).tenants ≡ Some tenant

-- Whatever other tenants there are, and whatever they do.
abbrev pub BehavioursAreIsolated : (M R : Type 0) → Type 0
BehavioursAreIsolated M R =
    (b : Behaviour M R) (id : ℕ) (s t : Session) → Agree id s t → HaveTheSame b id s t
