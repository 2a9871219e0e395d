-- The tenant with a number, and the entries of tenants in the ledger.
use Rattle.std.proofs.Common.{◌≡◌, ℕ, ◌∙◌, ◌||◌, ◌==◌, Bool, true, false, List, [], ◌∷◌, map, zero, suc}
use Rattle.std.proofs.Common.{Option, Some, None, option_map, if◌then◌else◌, refl, ap, arith}
use Rattle.std.specs.List.{list_any, slice_get}
use Rattle.std.proofs.lemmas.Bool.{eq-eqb, ne_eqb}
use Rattle.mte_frames.specs.Pool.{Pool}
use Rattle.mte_sched.specs.declared.tenant.Tenant as code
use Rattle.mte_sched.specs.declared.tenant.Holding.{Holding}
use Rattle.mte_sched.specs.declared.tenant.Holding.TheVariants as kept
use Rattle.mte_tenant.specs.Ledger.{LedgerEntry, has_id, has_live_id}
use Rattle.mte_svc.specs.declared.record.Record.{Record}
use Rattle.mte_sched.specs.Contents.{Tenant, entry_of, lives_on, record_of}
use Rattle.mte_sched.specs.Isolation.{tenant_among}
use Rattle.mte_sched.specs.Views.{record_among, find_page_cases, found_among}
use Rattle.mte_sched.specs.Tenants.{state_of_holding, record_of_holding, is_live_holding, record_in, tenant_in, tenants_in, entry_in, entries_in}
use Rattle.mte_sched.specs.Sharing.{HasLiveAt}
use Rattle.mte_sched.proofs.PlaceLists.{some_same}

pub or_left : (a b : Bool) → (a || b) ≡ false → a ≡ false
or_left true b e = e
or_left false b e = refl

pub or_right : (a b : Bool) → (a || b) ≡ false → b ≡ false
or_right true b e = absurd cc
or_right false b e = e

tenant_record : (p : Pool) (pages : ℕ) (h : Holding) → record_of (state_of_holding p pages h) ≡ record_of_holding h
tenant_record p pages (kept.Live l) = refl
tenant_record p pages (kept.Gone r) = refl

record_if : (b : Bool) (t : code.Tenant) (p : Pool) (more : Option Record) (others : Option Tenant) → option_map (λ u. record_of u.held) others ≡ more
    → option_map (λ u. record_of u.held) (if b then Some (tenant_in p t) else others) ≡ (if b then Some (record_in t) else more)
record_if true t p more others e = ap (λ r. Some r) (tenant_record p t.pages t.holding)
record_if false t p more others e = e

record_step : (p : Pool) (id : ℕ) (t : code.Tenant) (ts : List code.Tenant)
    → record_among id (tenants_in p (t ∷ ts)) ≡ (if (record_in t).id == id then Some (record_in t) else record_among id (tenants_in p ts))
record_step p id t ts = record_if ((record_in t).id == id) t p (record_among id (tenants_in p ts)) (tenant_among id (tenants_in p ts)) refl

-- ---- the first tenant with a number

module _ {X : Type 0} (id : ℕ) (F : List code.Tenant → Option X) (g : code.Tenant → Option X) (step : (t : code.Tenant) (ts : List code.Tenant) → F (t ∷ ts) ≡ (if (record_in t).id == id then g t else F ts)) where
  pub first_at : (ts : List code.Tenant) (i : ℕ) (t : code.Tenant) → slice_get ts i ≡ Some t → (record_in t).id ≡ id
      → ((j : ℕ) (u : code.Tenant) → slice_get ts j ≡ Some u → (record_in u).id ≡ id → j ≡ i) → F ts ≡ g t
  first_at [] i t at number alone = absurd cc
  first_at (u ∷ ts) zero t at number alone =
      let same : u ≡ t = some_same u t at in
      step u ts ∙ ap (λ b. if b then g u else F ts) (eq-eqb (record_in u).id id (ap (λ (w : code.Tenant). (record_in w).id) same ∙ number)) ∙ ap g same
  first_at (u ∷ ts) (suc i) t at number alone =
      step u ts ∙ ap (λ b. if b then g u else F ts) (ne_eqb (record_in u).id id (λ e. let z : 0 ≡ suc i = alone 0 u refl e in absurd (omega (arith, z))))
      ∙ first_at ts i t at number (λ j w h e. let z : suc j ≡ suc i = alone (suc j) w h e in omega (arith, z))

  pub first_none : F [] ≡ None → (ts : List code.Tenant) → list_any (has_id id) (entries_in ts) ≡ false → F ts ≡ None
  first_none empty [] none = empty
  first_none empty (t ∷ ts) none =
      step t ts ∙ ap (λ b. if b then g t else F ts) (or_left ((record_in t).id == id) _ none) ∙ first_none empty ts (or_right ((record_in t).id == id) _ none)

pub record_at : (p : Pool) (id : ℕ) (ts : List code.Tenant) (i : ℕ) (t : code.Tenant) → slice_get ts i ≡ Some t → (record_in t).id ≡ id
    → ((j : ℕ) (u : code.Tenant) → slice_get ts j ≡ Some u → (record_in u).id ≡ id → j ≡ i) → record_among id (tenants_in p ts) ≡ Some (record_in t)
record_at p id = first_at id (λ ts. record_among id (tenants_in p ts)) (λ t. Some (record_in t)) (record_step p id)

pub record_none : (p : Pool) (id : ℕ) (ts : List code.Tenant) → list_any (has_id id) (entries_in ts) ≡ false → record_among id (tenants_in p ts) ≡ None
record_none p id = first_none id (λ ts. record_among id (tenants_in p ts)) (λ t. Some (record_in t)) (record_step p id) refl

pub found_at : (p : Pool) (id q : ℕ) (ts : List code.Tenant) (i : ℕ) (t : code.Tenant) → slice_get ts i ≡ Some t → (record_in t).id ≡ id
    → ((j : ℕ) (u : code.Tenant) → slice_get ts j ≡ Some u → (record_in u).id ≡ id → j ≡ i) → found_among p id q ts ≡ find_page_cases p q t.holding
found_at p id q = first_at id (found_among p id q) (λ t. find_page_cases p q t.holding) (λ t ts. refl)

pub found_none : (p : Pool) (id q : ℕ) (ts : List code.Tenant) → list_any (has_id id) (entries_in ts) ≡ false → found_among p id q ts ≡ None
found_none p id q = first_none id (found_among p id q) (λ t. find_page_cases p q t.holding) (λ t ts. refl) refl

-- ---- entries

lives_by : (p : Pool) (pages : ℕ) (h : Holding) → lives_on (state_of_holding p pages h) ≡ is_live_holding h
lives_by p pages (kept.Live l) = refl
lives_by p pages (kept.Gone r) = refl

-- The ledger of the content is that of the entries.
pub ledger_is : (p : Pool) (ts : List code.Tenant) → map entry_of (tenants_in p ts) ≡ entries_in ts
ledger_is p [] = refl
ledger_is p (t ∷ ts) =
    ap (λ b. (let e : LedgerEntry = record { id = (record_in t).id; pages = t.pages; live = b } in e) ∷ map entry_of (tenants_in p ts)) (lives_by p t.pages t.holding)
    ∙ ap (λ l. entry_in t ∷ l) (ledger_is p ts)

or_true : (a b : Bool) → b ≡ true → (a || b) ≡ true
or_true true b e = refl
or_true false b e = e

-- A live tenant with a number stands in the ledger.
pub live_there : (id : ℕ) (ts : List code.Tenant) (i : ℕ) → HasLiveAt ts i id → list_any (has_live_id id) (entries_in ts) ≡ true
live_there id [] i h = absurd cc
live_there id (t ∷ ts) zero h = rw h refl
live_there id (t ∷ ts) (suc i) h = or_true (has_live_id id (entry_in t)) _ (live_there id ts i h)

pub id_there : (id : ℕ) (ts : List code.Tenant) (i : ℕ) (t : code.Tenant) → slice_get ts i ≡ Some t → ((record_in t).id == id) ≡ true → list_any (has_id id) (entries_in ts) ≡ true
id_there id [] i t at h = absurd cc
id_there id (u ∷ ts) zero t at h =
    let same : ((record_in u).id == id) ≡ true = ap (λ (w : code.Tenant). (record_in w).id == id) (some_same u t at) ∙ h in
    rw same refl
id_there id (u ∷ ts) (suc i) t at h = or_true ((record_in u).id == id) _ (id_there id ts i t at h)
