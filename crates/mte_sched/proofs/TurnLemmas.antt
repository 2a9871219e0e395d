-- A slice and a stop of one tenant, beside the others.
use Rattle.std.proofs.Common.{◌≡◌, ◌≢◌, ℕ, zero, suc, ◌+◌, ◌<◌, ◌==◌, ◌&&◌, Bool, true, false, List, [], ◌∷◌, map, length, get_or, slice_set, sum, sum_by}
use Rattle.std.specs.declared.alloc.Global.{Global}
use Rattle.std.proofs.Common.{Box, Some, cond, count_by, if◌then◌else◌, refl, ap, sym, subst, ◌∙◌, arith}
use Rattle.std.specs.List.{slice_get}
use Rattle.std.proofs.lemmas.Bool.{ne_eqb, eqb-true}
use Rattle.std.proofs.lemmas.List.Elements.{All-weaker}
use Rattle.std.specs.Prelude.{Contains}
use Rattle.mte_tags.specs.Memory.{Memory}
use Rattle.mte_frames.specs.Pool.{Pool, IsSound, KeepsOthers}
use Rattle.mte_translate.specs.Tables.{pages_of, IsCached}
use Rattle.mte_translate.specs.Translations.{without_asid}
use Rattle.mte_translate.specs.declared.translation.Translation.{Translation}
use Rattle.mte_translate.proofs.StandingLaws.{forget-asid}
use Rattle.mte_space.specs.Remembered.{IsRemembered}
use Rattle.mte_space.specs.Spaces.{IsSpace, KeepsRest, NoneEnters}
use Rattle.mte_svc.specs.declared.parts.TenantParts.{TenantParts}
use Rattle.mte_svc.specs.declared.record.Record.{Record}
use Rattle.mte_sched.specs.declared.memory.TenantMemory.{TenantMemory}
use Rattle.mte_sched.specs.declared.tenant.Tenant as code
use Rattle.mte_sched.specs.declared.tenant.Live.{Live}
use Rattle.mte_sched.specs.declared.tenant.Holding.{Holding}
use Rattle.mte_sched.specs.declared.tenant.Holding.TheVariants as kept
use Rattle.mte_tenant.specs.Machines.{machine_of, after_slice, after_stop}
use Rattle.mte_tenant.specs.Ledger.{LedgerEntry, charge_of_entry, charge_of, is_live, has_live_id}
use Rattle.mte_sched.specs.Contents.{TenantState, state_after_slice, state_after_stop, Tenant, tenant_after_slice, tenant_after_stop}
use Rattle.mte_sched.specs.Memories.{memory_at, IsTenantMemory}
use Rattle.mte_svc.specs.Ready.{IsReady}
use Rattle.mte_sched.specs.Tenants.{state_of_holding, record_of_holding, is_live_holding, record_in, tenant_in, tenants_in, entry_in, entries_in}
use Rattle.mte_sched.specs.Sharing.{HasLiveAt, LiesAt, IsSharing}
use Rattle.mte_sched.proofs.TenantLemmas.{number_in, tenant_by, sliced_tenant, stopped_tenant, after-slice-id, after-stop-id}
use Rattle.mte_sched.proofs.PlaceLists.{has_set, some_same, map_turn, map-set_same, sum_turn}
use Rattle.mte_sched.proofs.MemoryLemmas.{placed_after, reserved_stays}
use Rattle.mte_sched.proofs.SharingLemmas.{Turn, tenant_stays, cached_after, cached_without, sharing_after}

pub live_same : (a b : Live) → kept.Live a ≡ kept.Live b → a ≡ b
live_same a b e = cc

-- ---- the tenant whose turn it is

pub live_within : (ts : List code.Tenant) (i id : ℕ) → HasLiveAt ts i id → i < length ts
live_within [] i id h = absurd cc
live_within (t ∷ ts) zero id h = omega arith
live_within (t ∷ ts) (suc i) id h = omega (arith, live_within ts i id h)

pub live_at : (ts : List code.Tenant) (i id : ℕ) (d : code.Tenant) → HasLiveAt ts i id → slice_get ts i ≡ Some (get_or ts i d)
live_at [] i id d h = absurd cc
live_at (t ∷ ts) zero id d h = refl
live_at (t ∷ ts) (suc i) id d h = live_at ts i id d h

pub live_id : (ts : List code.Tenant) (i id : ℕ) (d : code.Tenant) → HasLiveAt ts i id → has_live_id id (entry_in (get_or ts i d)) ≡ true
live_id [] i id d h = absurd cc
live_id (t ∷ ts) zero id d h = h
live_id (t ∷ ts) (suc i) id d h = live_id ts i id d h

pub both_left : (a b : Bool) → (a && b) ≡ true → a ≡ true
both_left true b e = refl
both_left false b e = e

pub both_right : (a b : Bool) → (a && b) ≡ true → b ≡ true
both_right true b e = e
both_right false b e = absurd cc

pub not_gone : (o : Holding) (r : Record) → is_live_holding o ≡ true → o ≢ kept.Gone r
not_gone (kept.Gone s) r e = absurd cc
not_gone (kept.Live a) r e = λ f. absurd cc

-- A tenant with another number is no tenant that the turn names.
pub held_if : (b : Bool) (t : Tenant) (h : TenantState) → b ≡ false → (let u : Tenant = record t { held = if b then h else t.held } in u) ≡ t
held_if true t h e = absurd cc
held_if false t h e = refl

pub by_live : (p : Pool) (t : code.Tenant) (a : Live) → t.holding ≡ kept.Live a → tenant_in p t ≡ tenant_by a.parts.value (memory_at p a.memory t.pages) t.pages
by_live p t a e = ap (λ (z : Holding). let u : Tenant = record { id = (record_of_holding z).id; pages = t.pages; held = state_of_holding p t.pages z } in u) e

pub live_record : (t : code.Tenant) (a : Live) → t.holding ≡ kept.Live a → record_in t ≡ a.parts.value.history
live_record t a e = ap record_of_holding e

module _ (p n : Pool) (us vs : List Translation) (ts : List code.Tenant) (i id : ℕ) (t : code.Tenant) (a : Live)
    (sharing : IsSharing p us ts) (lies : LiesAt ts i t a) (same : ((record_in t).id == id) ≡ true) (within : i < length ts)
    (others : KeepsOthers a.memory.quota p n) (entries : NoneEnters i us vs) where
  turn : Turn p n us vs a.memory.quota i
  turn = record { others = others; entries = entries }

  own_number : (record_in t).id ≡ a.parts.value.history.id
  own_number = ap (λ (r : Record). r.id) (live_record t a lies.live)

  own_same : (a.parts.value.history.id == id) ≡ true
  own_same = ap (λ k. k == id) (sym own_number) ∙ same

  differs : (j : ℕ) (u : code.Tenant) (b : Live) → j ≢ i → LiesAt ts j u b → b.memory.quota ≢ a.memory.quota
  differs j u b d h = λ e. d (sharing.quotas j i u t b a h lies e)

  number : (z : code.Tenant) → (record_in z).id ≡ (record_in t).id → (j : ℕ) (u : code.Tenant) → j ≢ i → slice_get ts j ≡ Some u → (record_in u).id ≢ (record_in z).id
  number z k j u d at = λ e. d (sharing.numbers j i u t at lies.tenant (e ∙ k))

  other_id : (j : ℕ) (u : code.Tenant) → j ≢ i → slice_get ts j ≡ Some u → ((record_in u).id == id) ≡ false
  other_id j u d at = ne_eqb (record_in u).id id (λ e. d (sharing.numbers j i u t at lies.tenant (e ∙ sym (eqb-true (record_in t).id id same))))

  stays : (j : ℕ) (u : code.Tenant) → j ≢ i → slice_get ts j ≡ Some u → tenant_in n u ≡ tenant_in p u
  stays j u d at = tenant_stays p n us vs ts a.memory.quota i j u turn sharing (λ b h. differs j u b d h) at

  -- ---- a slice

  module _ (steps : ℕ) (b : TenantMemory) (parts : Box TenantParts Global) (rest : KeepsRest a.memory.quota p n a.memory.table b.table) (quota : b.quota ≡ a.memory.quota) (space : IsSpace n b.quota b.table t.pages)
      (cached : IsCached (pages_of n b.table.frame) i vs) (remembered : IsRemembered (pages_of n b.table.frame) b.remembered) (ready : IsReady parts.value (memory_at n b t.pages))
      (step : machine_of parts.value (memory_at n b t.pages) ≡ after_slice steps (machine_of a.parts.value (memory_at p a.memory t.pages))) (was : IsSound p) (is : IsSound n) where
    abbrev pub after : code.Tenant
    after = record { pages = t.pages; holding = kept.Live (record { parts = parts; memory = b }) }

    same_number : parts.value.history.id ≡ (record_in t).id
    same_number = ap number_in step ∙ after-slice-id steps (machine_of a.parts.value (memory_at p a.memory t.pages)) ∙ sym own_number

    same_entry : entry_in after ≡ entry_in t
    same_entry =
        ap (λ k. let e : LedgerEntry = record { id = k; pages = t.pages; live = true } in e) same_number
        ∙ ap (λ (o : Holding). let e : LedgerEntry = record { id = (record_in t).id; pages = t.pages; live = is_live_holding o } in e) (sym lies.live)

    own : (c : Live) → after.holding ≡ kept.Live c → (c.memory.quota ≡ a.memory.quota) × IsTenantMemory n vs i after.pages c.memory × IsReady c.parts.value (memory_at n c.memory after.pages)
    own c e =
        subst (λ (z : Live). (z.memory.quota ≡ a.memory.quota) × IsTenantMemory n vs i t.pages z.memory × IsReady z.parts.value (memory_at n z.memory t.pages)) (live_same (record { parts = parts; memory = b }) c e)
        (quota, placed_after p n us vs i t.pages a.memory b (sharing.placed i t a lies) rest quota space cached remembered, ready)

    pub sliced_sharing : IsSharing n vs (slice_set ts i after)
    sliced_sharing =
        let has = has_set ts i after within in
        sharing_after p n us vs ts (slice_set ts i after) a.memory.quota i after turn sharing has differs own (number after same_number)
        (cached_after p n us vs ts (slice_set ts i after) a.memory.quota i after turn sharing has differs entries refl)
        (ap sum (reserved_stays p n a.memory.quota was is others rest.reserved) ∙ sharing.reserved
        ∙ ap (sum_by charge_of_entry) (sym (map-set_same entry_in ts i after (λ u e. same_entry ∙ ap entry_in (some_same t u (sym lies.tenant ∙ e))))))

    pub sliced_tenants : tenants_in n (slice_set ts i after) ≡ map (tenant_after_slice id steps) (tenants_in p ts)
    sliced_tenants =
        map_turn (tenant_in n) (tenant_in p) (tenant_after_slice id steps) ts i after
        (λ j u d at. stays j u d at ∙ sym (held_if ((record_in u).id == id) (tenant_in p u) (state_after_slice steps (tenant_in p u).held) (other_id j u d at)))
        (λ u e. sliced_tenant id steps t.pages a.parts.value parts.value (memory_at p a.memory t.pages) (memory_at n b t.pages) own_same step
        ∙ ap (tenant_after_slice id steps) (sym (by_live p t a lies.live) ∙ ap (tenant_in p) (some_same t u (sym lies.tenant ∙ e))))

  -- ---- a stop

  module _ (parts : TenantParts) (gone : vs ≡ without_asid i us) (charge : sum n.reserved + charge_of t.pages ≡ sum p.reserved)
      (step : (m : Memory) → machine_of parts m ≡ after_stop (machine_of a.parts.value m)) where
    abbrev pub left : code.Tenant
    left = record { pages = t.pages; holding = kept.Gone parts.history }

    left_number : parts.history.id ≡ (record_in t).id
    left_number = ap number_in (step (memory_at p a.memory t.pages)) ∙ after-stop-id (machine_of a.parts.value (memory_at p a.memory t.pages)) ∙ sym own_number

    was_charged : charge_of_entry (entry_in t) ≡ charge_of t.pages
    was_charged = ap (λ (o : Holding). if is_live_holding o then charge_of t.pages else 0) lies.live

    pub stopped_sharing : IsSharing n vs (slice_set ts i left)
    stopped_sharing =
        let has = has_set ts i left within in
        sharing_after p n us vs ts (slice_set ts i left) a.memory.quota i left turn sharing has differs (λ c e. absurd cc) (number left left_number)
        (cached_without p n us vs ts (slice_set ts i left) a.memory.quota i left turn sharing has differs (rw gone (forget-asid i us)))
        (omega (arith, charge, sharing.reserved, was_charged, sum_turn charge_of_entry entry_in ts i left t lies.tenant))

    pub stopped_count : count_by is_live (entries_in (slice_set ts i left)) + 1 ≡ count_by is_live (entries_in ts)
    stopped_count =
        let one : ℕ → ℕ = λ k. cond (is_live (entry_in t)) 1 k in
        let was : one 0 ≡ 1 = ap (λ (o : Holding). let k : ℕ = cond (is_live_holding o) 1 0 in k) lies.live in
        let turned : count_by is_live (entries_in (slice_set ts i left)) + one 0 ≡ count_by is_live (entries_in ts) + 0 = sum_turn (λ e. cond (is_live e) 1 0) entry_in ts i left t lies.tenant in
        omega (arith, was, turned)

    pub stopped_tenants : tenants_in n (slice_set ts i left) ≡ map (tenant_after_stop id) (tenants_in p ts)
    stopped_tenants =
        map_turn (tenant_in n) (tenant_in p) (tenant_after_stop id) ts i left
        (λ j u d at. stays j u d at ∙ sym (held_if ((record_in u).id == id) (tenant_in p u) (state_after_stop (tenant_in p u).held) (other_id j u d at)))
        (λ u e. stopped_tenant id t.pages a.parts.value parts (memory_at p a.memory t.pages) own_same step
        ∙ ap (tenant_after_stop id) (sym (by_live p t a lies.live) ∙ ap (tenant_in p) (some_same t u (sym lies.tenant ∙ e))))

pub gone_enters : (i : ℕ) (us vs : List Translation) → vs ≡ without_asid i us → NoneEnters i us vs
gone_enters i us vs e =
    rw e (All-weaker (λ u. Contains us u × (u.asid ≢ i)) (λ u. u.asid ≢ i → Contains us u) (λ u h d. h.0) (without_asid i us) (forget-asid i us))
