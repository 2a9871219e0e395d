-- The invariant of every host: its live tenants share a pool of frames and a translation lookaside
-- buffer, and have nothing in common in them. A tenant's ASID is its place in the order of the
-- admissions.
use Rattle.std.specs.Prelude.{◌≡◌, ℕ, ◌-◌, ◌≤◌, Bool, true, false, List, ◌++◌, All, length}
use Rattle.std.specs.Prelude.{replicate, sum, sum_by, Option}
use Rattle.std.specs.Prelude.{Some}
use Rattle.std.specs.Prelude.{None}
use Rattle.std.specs.List.{slice_get}
use Rattle.mte_frames.specs.Pool.{Pool}
use Rattle.mte_translate.specs.declared.translation.Translation.{Translation}
use Rattle.mte_sched.specs.declared.index.TheConstants.{NUMBERS}
use Rattle.mte_sched.specs.declared.tenant.Live.{Live}
use Rattle.mte_sched.specs.declared.tenant.Holding.TheVariants as kept
use Rattle.mte_sched.specs.declared.tenant.Tenant.{Tenant}
use Rattle.mte_tenant.specs.Ledger.{charge_of_entry, has_live_id}
use Rattle.mte_sched.specs.Memories.{memory_at, IsTenantMemory}
use Rattle.mte_svc.specs.Ready.{IsReady}
use Rattle.mte_sched.specs.Tenants.{record_in, is_live_holding, entry_in, entries_in}

-- Whether a tenant is live.
abbrev pub is_placed : Option Tenant → Bool
is_placed None = false
is_placed (Some t) = is_live_holding t.holding

-- Whether a tenant is live and has the number.
abbrev pub has_live_in : ℕ → Option Tenant → Bool
has_live_in id None = false
has_live_in id (Some t) = has_live_id id (entry_in t)

-- t is one of the tenants, and has the number.
pub record HasId (ts : List Tenant) (id : ℕ) (t : Tenant) : Type 0 where
  pub at : ℕ
  pub stands : slice_get ts at ≡ Some t
  pub number : (record_in t).id ≡ id

-- The i-th tenant is live and has the number.
abbrev pub HasLiveAt : List Tenant → ℕ → ℕ → Type 0
HasLiveAt ts i id = has_live_in id (slice_get ts i) ≡ true

-- The i-th tenant is t, and a is its machine.
pub record LiesAt (ts : List Tenant) (i : ℕ) (t : Tenant) (a : Live) : Type 0 where
  pub tenant : slice_get ts i ≡ Some t
  pub live : t.holding ≡ kept.Live a

-- The isolation invariant: no two live tenants share a quota, an ASID, or a frame.
pub record IsSharing (p : Pool) (us : List Translation) (ts : List Tenant) : Type 0 where
  -- of each live tenant: table, frames and translations are in order, and heap and generator may be
  -- used with its memory
  pub placed : (i : ℕ) (t : Tenant) (a : Live) → LiesAt ts i t a
      → IsTenantMemory p us i t.pages a.memory
  pub ready : (i : ℕ) (t : Tenant) (a : Live) → LiesAt ts i t a
      → IsReady a.parts.value (memory_at p a.memory t.pages)
  -- no two have the same quota
  pub quotas : (i j : ℕ) (t u : Tenant) (a b : Live) → LiesAt ts i t a → LiesAt ts j u b
      → a.memory.quota ≡ b.memory.quota → i ≡ j
  -- no two tenants have the same number
  pub numbers : (i j : ℕ) (t u : Tenant) → slice_get ts i ≡ Some t → slice_get ts j ≡ Some u
      → (record_in t).id ≡ (record_in u).id → i ≡ j
  -- each translation is of a live tenant
  pub cached : All (λ u. is_placed (slice_get ts u.asid) ≡ true) us
  -- what is reserved is what live tenants are charged
  pub reserved : sum p.reserved ≡ sum_by charge_of_entry (entries_in ts)

-- A list of positions for at least n numbers: the list, and 0 for each number that it lacks.
abbrev pub positions_for : List ℕ → ℕ → List ℕ
positions_for positions n = positions ++ replicate (n - length positions) 0

-- A table has at most a position for each number, and of each number of a list the one where it is.
-- So a number that is not at its position, and one past the table's end, is none of the list.
pub record IsIndexed (positions ids : List ℕ) : Type 0 where
  pub numbers : length positions ≤ NUMBERS
  pub position : (i id : ℕ) → slice_get ids i ≡ Some id → slice_get positions id ≡ Some i
