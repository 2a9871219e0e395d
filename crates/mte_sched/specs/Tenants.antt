-- The tenants of the host: what each is, read off the pool of frames that all share.
use Rattle.std.specs.Prelude.{ℕ, Bool, true, false, List, map}
use Rattle.mte_svc.specs.declared.record.Record.{Record}
use Rattle.mte_frames.specs.Pool.{Pool}
use Rattle.mte_sched.specs.declared.tenant.Tenant as code
use Rattle.mte_sched.specs.declared.tenant.Holding.{Holding}
use Rattle.mte_sched.specs.declared.tenant.Holding.TheVariants as kept
use Rattle.mte_tenant.specs.Machines.{machine_of}
use Rattle.mte_tenant.specs.Ledger.{LedgerEntry}
use Rattle.mte_sched.specs.Contents.{TenantState, Live, Gone, Tenant}
use Rattle.mte_sched.specs.Memories.{memory_at}

-- The record of a tenant with a reservation.
abbrev pub state_of_holding : Pool → ℕ → Holding → TenantState
state_of_holding p pages (kept.Live l) =
    Live (machine_of l.parts.value (memory_at p l.memory pages))
state_of_holding p pages (kept.Gone r) = Gone r

-- The record of a tenant in the code.
abbrev pub record_of_holding : Holding → Record
record_of_holding (kept.Live l) = l.parts.value.history
record_of_holding (kept.Gone r) = r

-- Whether a tenant in the code is live.
abbrev pub is_live_holding : Holding → Bool
is_live_holding (kept.Live l) = true
is_live_holding (kept.Gone r) = false

-- The record of a tenant in the code.
abbrev pub record_in : code.Tenant → Record
record_in t = record_of_holding t.holding

-- The tenant that the code keeps.
abbrev pub tenant_in : Pool → code.Tenant → Tenant
tenant_in p t = record {
  id = (record_in t).id;
  pages = t.pages;
  held = state_of_holding p t.pages t.holding;
}

-- The tenants that the code keeps.
abbrev pub tenants_in : Pool → List code.Tenant → List Tenant
tenants_in p ts = map (tenant_in p) ts

-- A tenant's entry in the ledger.
abbrev pub entry_in : code.Tenant → LedgerEntry
entry_in t =
    record { id = (record_in t).id; pages = t.pages; live = is_live_holding t.holding }

-- The ledger that the code keeps.
abbrev pub entries_in : List code.Tenant → List LedgerEntry
entries_in ts = map entry_in ts
