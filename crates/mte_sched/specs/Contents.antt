-- The content of a host: a machine for each live tenant, and the record alone of each that was
-- stopped. A session's definitions are those of Behaviours, with a tenant's machine as the
-- behaviour.
use Rattle.std.specs.Prelude.{ℕ, ◌==◌, List, map, Option, Some, None, if◌then◌else◌, Bool}
use Rattle.std.specs.List.{refill}
use Rattle.mte_tags.specs.Memory.{Memory, Page, page_at, with_page}
use Rattle.mte_svc.specs.declared.record.Record.{Record}
use Rattle.mte_tenant.specs.declared.refusal.Refusal.{Refusal}
use Rattle.mte_tenant.specs.Machines.{Start, Machine, start_of, after_slice, after_stop}
use Rattle.mte_tenant.specs.Ledger.{Call, LedgerEntry}
use Rattle.mte_sched.specs.Lives.{TenantEvent, Life}
use Rattle.mte_sched.specs.Behaviours as behaviours
pub use Rattle.mte_sched.specs.Behaviours.{Live, Gone, lives_on, empty, entry_of, ledger_of}
use Rattle.mte_sched.specs.Behaviours.{Behaviour}

-- A tenant behaves as its machine does, and its stop leaves its record.
abbrev pub machine : Behaviour Machine Record
machine = record {
  start = start_of;
  slice = after_slice;
  stop = λ m. (after_stop m).parts.history;
}

-- A live tenant has its machine, a stopped one its record alone.
abbrev pub TenantState : Type 0
TenantState = behaviours.TenantState Machine Record

-- A tenant of a host: its number, its reservation, and its machine or its record.
abbrev pub Tenant : Type 0
Tenant = behaviours.Tenant Machine Record

-- A number of frames, and the tenants in the order of their admissions.
abbrev pub Content : Type 0
Content = behaviours.Content Machine Record

-- The record of a tenant.
abbrev pub record_of : TenantState → Record
record_of (Live m) = m.parts.history
record_of (Gone r) = r

-- ---- what happens to a tenant

-- A tenant after a slice; a stopped one stays.
abbrev pub state_after_slice : ℕ → TenantState → TenantState
state_after_slice n h = behaviours.state_after_slice machine n h

-- A tenant after its stop: its record alone.
abbrev pub state_after_stop : TenantState → TenantState
state_after_stop h = behaviours.state_after_stop machine h

-- A tenant alone: after its own events, and nothing else.
unfoldable pub after_own_events : TenantState → List TenantEvent → TenantState
after_own_events h own = behaviours.after_own_events machine h own

-- ---- what an accepted call makes of a content

-- A tenant that is admitted.
abbrev pub new_tenant : ℕ → Start → Tenant
new_tenant id start = behaviours.new_tenant machine id start

-- The host after an accepted admission.
unfoldable pub after_admit : Content → ℕ → Start → Content
after_admit c id start = behaviours.after_admit machine c id start

-- One tenant's machine, and no other's.
abbrev pub tenant_after_slice : ℕ → ℕ → Tenant → Tenant
tenant_after_slice id n t = behaviours.tenant_after_slice machine id n t

-- A tenant after the stop of the tenant with a number.
abbrev pub tenant_after_stop : ℕ → Tenant → Tenant
tenant_after_stop id t = behaviours.tenant_after_stop machine id t

-- The host after an accepted slice.
unfoldable pub after_slice_of : Content → ℕ → ℕ → Content
after_slice_of c id n = behaviours.after_slice_of machine c id n

-- The host after an accepted stop.
unfoldable pub after_stop_of : Content → ℕ → Content
after_stop_of c id = behaviours.after_stop_of machine c id

-- The host after an accepted call.
unfoldable pub after_call : Content → Call → Content
after_call c e = behaviours.after_call machine c e

-- The host after a call: a refused one changes nothing.
abbrev pub after_call_cases : Option Refusal → Content → Call → Content
after_call_cases r c e = behaviours.after_call_cases machine r c e

-- Calls in turn.
unfoldable pub after_calls : Content → List Call → Content
after_calls c calls = behaviours.after_calls machine c calls

-- The tenant that a life is, alone.
abbrev pub tenant_of : Life → Tenant
tenant_of life = record {
  id = life.id;
  pages = life.start.terms.pages;
  held = after_own_events (Live (start_of life.id life.start)) life.own;
}

-- ---- what a write to the bytes of a page makes of a content, which is no call of a session

-- The page q, where it is mapped, has the bytes ws, cut or filled up from its own to 4096.
abbrev pub with_bytes_of : Memory → ℕ → List ℕ → Option Page → Memory
with_bytes_of m q ws None = m
with_bytes_of m q ws (Some p) = with_page m q (record p { bytes = refill 4096 p.bytes ws })

-- A memory with the bytes of a page replaced, if it is mapped.
unfoldable pub with_page_bytes : Memory → ℕ → List ℕ → Memory
with_page_bytes m q ws = with_bytes_of m q ws (page_at m q)

-- A tenant after a write to one of its pages.
abbrev pub state_after_write : ℕ → List ℕ → TenantState → TenantState
state_after_write q ws (Live m) = Live (record m { memory = with_page_bytes m.memory q ws })
state_after_write q ws (Gone r) = Gone r

-- A tenant after a write to a page of the tenant with a number.
abbrev pub tenant_after_write : ℕ → ℕ → List ℕ → Tenant → Tenant
tenant_after_write id q ws t =
    record t { held = if t.id == id then state_after_write q ws t.held else t.held }

-- One page of one tenant, and no other.
unfoldable pub after_write_of : Content → ℕ → ℕ → List ℕ → Content
after_write_of c id q ws = record c { tenants = map (tenant_after_write id q ws) c.tenants }
