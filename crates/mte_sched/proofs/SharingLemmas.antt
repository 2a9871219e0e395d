-- One tenant's turn leaves what holds of all.
use Rattle.std.proofs.Common.{◌≡◌, ◌≢◌, ℕ, true, List, sum, sum_by}
use Rattle.std.proofs.Common.{Some, refl, ap, sym, subst, ◌∙◌, inl, inr}
use Rattle.std.specs.Prelude.{All, Contains}
use Rattle.std.specs.List.{slice_get}
use Rattle.std.proofs.lemmas.Bool.{cases_eq}
use Rattle.std.proofs.lemmas.List.Elements.{All-weaker, All-contains}
use Rattle.mte_frames.specs.Pool.{Pool, KeepsOthers}
use Rattle.mte_translate.specs.declared.translation.Translation.{Translation}
use Rattle.mte_space.specs.Spaces.{NoneEnters}
use Rattle.mte_space.proofs.OtherSpaces.{other_memory, other_space, other_cached, other_remembered}
use Rattle.mte_sched.specs.declared.memory.TenantMemory.{TenantMemory}
use Rattle.mte_sched.specs.declared.tenant.Tenant as code
use Rattle.mte_sched.specs.declared.tenant.Live.{Live}
use Rattle.mte_sched.specs.declared.tenant.Holding.{Holding}
use Rattle.mte_sched.specs.declared.tenant.Holding.TheVariants as kept
use Rattle.mte_tenant.specs.Machines.{machine_of}
use Rattle.mte_sched.specs.Contents.{Tenant}
use Rattle.mte_sched.specs.Contents as held
use Rattle.mte_tenant.specs.Ledger.{charge_of_entry}
use Rattle.mte_sched.specs.Memories.{memory_at, IsTenantMemory}
use Rattle.mte_svc.specs.Ready.{IsReady}
use Rattle.mte_sched.specs.Tenants.{record_in, is_live_holding, tenant_in, entries_in, state_of_holding}
use Rattle.mte_sched.specs.Sharing.{is_placed, LiesAt, IsSharing}
use Rattle.mte_sched.proofs.PlaceLists.{HasAt, some_same}

-- From p to n one tenant's turn, under the quota k and the ASID i.
pub record Turn (p n : Pool) (us vs : List Translation) (k i : ℕ) : Type 0 where
  pub others : KeepsOthers k p n
  pub entries : NoneEnters i us vs

-- ---- a tenant of another quota and another ASID

pub placed_stays : (p n : Pool) (us vs : List Translation) (k i j pages : ℕ) (a : TenantMemory) → Turn p n us vs k i
    → a.quota ≢ k → j ≢ i → IsTenantMemory p us j pages a → IsTenantMemory n vs j pages a
placed_stays p n us vs k i j pages a turn differs apart h = record {
  space = other_space p n k a.quota pages a.table differs turn.others h.space;
  charged = (turn.others.counts a.quota differs).0 ∙ h.charged;
  counted = (turn.others.counts a.quota differs).1 ∙ h.counted;
  cached = other_cached p n k a.quota i j a.table us vs differs turn.others h.space.table apart turn.entries h.cached;
  remembered = other_remembered p n k a.quota a.table a.remembered differs turn.others h.space.table h.remembered;
  some = h.some;
  most = h.most;
}

pub memory_stays : (p n : Pool) (us vs : List Translation) (k i j pages : ℕ) (a : TenantMemory) → Turn p n us vs k i
    → a.quota ≢ k → IsTenantMemory p us j pages a → memory_at n a pages ≡ memory_at p a pages
memory_stays p n us vs k i j pages a turn differs h =
    other_memory p n k a.quota pages a.table a.state differs turn.others h.space.table

same_held : (p n : Pool) (pages : ℕ) (o : Holding) → ((a : Live) → o ≡ kept.Live a → memory_at n a.memory pages ≡ memory_at p a.memory pages)
    → state_of_holding n pages o ≡ state_of_holding p pages o
same_held p n pages (kept.Gone r) h = refl
same_held p n pages (kept.Live a) h = ap (λ m. held.Live (machine_of a.parts.value m)) (h a refl)

-- A tenant whose quota is not the turn's is what it was.
pub tenant_stays : (p n : Pool) (us vs : List Translation) (ts : List code.Tenant) (k i j : ℕ) (u : code.Tenant) → Turn p n us vs k i → IsSharing p us ts
    → ((a : Live) → LiesAt ts j u a → a.memory.quota ≢ k) → slice_get ts j ≡ Some u → tenant_in n u ≡ tenant_in p u
tenant_stays p n us vs ts k i j u turn sharing differs at =
    let same : state_of_holding n u.pages u.holding ≡ state_of_holding p u.pages u.holding =
    same_held p n u.pages u.holding (λ a e. memory_stays p n us vs k i j u.pages a.memory turn (differs a (record { tenant = at; live = e })) (sharing.placed j u a (record { tenant = at; live = e }))) in
    ap (λ (m : held.TenantState). let t : Tenant = record { id = (record_in u).id; pages = u.pages; held = m } in t) same

-- ---- what holds of all, after a turn

module _ (p n : Pool) (us vs : List Translation) (ts ns : List code.Tenant) (k i : ℕ) (t : code.Tenant) (turn : Turn p n us vs k i) (sharing : IsSharing p us ts)
    (has : HasAt ts ns i t) (differs : (j : ℕ) (u : code.Tenant) (a : Live) → j ≢ i → LiesAt ts j u a → a.memory.quota ≢ k) where
  was_at : (j : ℕ) (u : code.Tenant) (a : Live) → j ≢ i → LiesAt ns j u a → LiesAt ts j u a
  was_at j u a d h = record { tenant = sym (has.other j d) ∙ h.tenant; live = h.live }

  is_new : (j : ℕ) (u : code.Tenant) → j ≡ i → slice_get ns j ≡ Some u → t ≡ u
  is_new j u e h = some_same t u (sym has.here ∙ ap (λ l. slice_get ns l) (sym e) ∙ h)

  -- a translation of each live tenant
  pub cached_after : All (λ v. (v.asid ≢ i) → Contains us v) vs → is_live_holding t.holding ≡ true → All (λ v. is_placed (slice_get ns v.asid) ≡ true) vs
  cached_after entered placed =
      All-weaker (λ v. (v.asid ≢ i) → Contains us v) (λ v. is_placed (slice_get ns v.asid) ≡ true)
      (λ v stood. elim (cases_eq v.asid i) [
        | inl e ↦ ap (λ l. is_placed (slice_get ns l)) e ∙ ap is_placed has.here ∙ placed
        | inr d ↦ ap is_placed (has.other v.asid d) ∙ All-contains (λ v. is_placed (slice_get ts v.asid) ≡ true) us v sharing.cached (stood d)
      ]) vs entered

  pub cached_without : All (λ v. Contains us v × (v.asid ≢ i)) vs → All (λ v. is_placed (slice_get ns v.asid) ≡ true) vs
  cached_without rest =
      All-weaker (λ v. Contains us v × (v.asid ≢ i)) (λ v. is_placed (slice_get ns v.asid) ≡ true)
      (λ v h. ap is_placed (has.other v.asid h.1) ∙ All-contains (λ v. is_placed (slice_get ts v.asid) ≡ true) us v sharing.cached h.0) vs rest

  module _ (own : (a : Live) → t.holding ≡ kept.Live a → (a.memory.quota ≡ k) × IsTenantMemory n vs i t.pages a.memory × IsReady a.parts.value (memory_at n a.memory t.pages))
      (number : (j : ℕ) (u : code.Tenant) → j ≢ i → slice_get ts j ≡ Some u → (record_in u).id ≢ (record_in t).id)
      (cached : All (λ v. is_placed (slice_get ns v.asid) ≡ true) vs) (reserved : sum n.reserved ≡ sum_by charge_of_entry (entries_in ns)) where
    own_at : (j : ℕ) (u : code.Tenant) (a : Live) → j ≡ i → LiesAt ns j u a → (a.memory.quota ≡ k) × IsTenantMemory n vs j u.pages a.memory × IsReady a.parts.value (memory_at n a.memory u.pages)
    own_at j u a e h =
        subst (λ l. (a.memory.quota ≡ k) × IsTenantMemory n vs l u.pages a.memory × IsReady a.parts.value (memory_at n a.memory u.pages)) (sym e)
        (subst (λ (w : code.Tenant). (a.memory.quota ≡ k) × IsTenantMemory n vs i w.pages a.memory × IsReady a.parts.value (memory_at n a.memory w.pages)) (is_new j u e h.tenant)
        (own a (ap (λ (w : code.Tenant). w.holding) (is_new j u e h.tenant) ∙ h.live)))

    placed_at : (j : ℕ) (u : code.Tenant) (a : Live) → LiesAt ns j u a → IsTenantMemory n vs j u.pages a.memory
    placed_at j u a h = elim (cases_eq j i) [
      | inl e ↦ (own_at j u a e h).1
      | inr d ↦ placed_stays p n us vs k i j u.pages a.memory turn (differs j u a d (was_at j u a d h)) d (sharing.placed j u a (was_at j u a d h))
    ]

    ready_at : (j : ℕ) (u : code.Tenant) (a : Live) → LiesAt ns j u a → IsReady a.parts.value (memory_at n a.memory u.pages)
    ready_at j u a h = elim (cases_eq j i) [
      | inl e ↦ (own_at j u a e h).2
      | inr d ↦
          let was = was_at j u a d h in
          subst (IsReady a.parts.value) (sym (memory_stays p n us vs k i j u.pages a.memory turn (differs j u a d was) (sharing.placed j u a was))) (sharing.ready j u a was)
    ]

    quotas_at : (j l : ℕ) (u w : code.Tenant) (a b : Live) → LiesAt ns j u a → LiesAt ns l w b → a.memory.quota ≡ b.memory.quota → j ≡ l
    quotas_at j l u w a b g h e = elim (cases_eq j i) [
      | inl x ↦ elim (cases_eq l i) [
        | inl y ↦ x ∙ sym y
        | inr d ↦ absurd (differs l w b d (was_at l w b d h) (sym e ∙ (own_at j u a x g).0))
      ]
      | inr c ↦ elim (cases_eq l i) [
        | inl y ↦ absurd (differs j u a c (was_at j u a c g) (e ∙ (own_at l w b y h).0))
        | inr d ↦ sharing.quotas j l u w a b (was_at j u a c g) (was_at l w b d h) e
      ]
    ]

    numbers_at : (j l : ℕ) (u w : code.Tenant) → slice_get ns j ≡ Some u → slice_get ns l ≡ Some w → (record_in u).id ≡ (record_in w).id → j ≡ l
    numbers_at j l u w g h e = elim (cases_eq j i) [
      | inl x ↦ elim (cases_eq l i) [
        | inl y ↦ x ∙ sym y
        | inr d ↦ absurd (number l w d (sym (has.other l d) ∙ h) (sym e ∙ ap (λ (z : code.Tenant). (record_in z).id) (sym (is_new j u x g))))
      ]
      | inr c ↦ elim (cases_eq l i) [
        | inl y ↦ absurd (number j u c (sym (has.other j c) ∙ g) (e ∙ ap (λ (z : code.Tenant). (record_in z).id) (sym (is_new l w y h))))
        | inr d ↦ sharing.numbers j l u w (sym (has.other j c) ∙ g) (sym (has.other l d) ∙ h) e
      ]
    ]

    pub sharing_after : IsSharing n vs ns
    sharing_after = record {
      placed = placed_at;
      ready = ready_at;
      quotas = quotas_at;
      numbers = numbers_at;
      cached = cached;
      reserved = reserved;
    }
