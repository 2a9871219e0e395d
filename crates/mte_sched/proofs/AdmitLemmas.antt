-- An admission beside the tenants that are there.
use Rattle.std.proofs.Common.{◌≡◌, ◌≢◌, ℕ, zero, suc, ◌+◌, ◌==◌, Bool, true, false, List, [], ◌∷◌, ◌++◌, length, sum, sum_by}
use Rattle.std.specs.declared.alloc.Global.{Global}
use Rattle.std.proofs.Common.{Box, Some, cond, count_by, None, refl, ap, sym, subst, ◌∙◌, arith}
use Rattle.std.specs.Prelude.{All}
use Rattle.std.specs.List.{list_any, slice_get}
use Rattle.std.proofs.lemmas.Option.{slice_get_past}
use Rattle.std.proofs.lemmas.Bool.{eq-eqb}
use Rattle.std.proofs.lemmas.List.{map-append}
use Rattle.std.proofs.lemmas.List.Sums.{sum_by-append, sum_by-cons}
use Rattle.std.proofs.lemmas.List.Elements.{All-weaker}
use Rattle.mte_frames.specs.Pool.{Pool, KeepsOthers, reserved_by}
use Rattle.mte_translate.specs.declared.translation.Translation.{Translation}
use Rattle.mte_space.specs.Spaces.{NoneEnters}
use Rattle.mte_svc.specs.declared.parts.TenantParts.{TenantParts}
use Rattle.mte_sched.specs.declared.memory.TenantMemory.{TenantMemory}
use Rattle.mte_sched.specs.declared.tenant.Tenant as code
use Rattle.mte_sched.specs.declared.tenant.Live.{Live}
use Rattle.mte_sched.specs.declared.tenant.Holding.TheVariants as kept
use Rattle.mte_tenant.specs.declared.admission.LedgerFacts.{LedgerFacts}
use Rattle.mte_tenant.specs.Machines.{Start, first_parts, first_memory, start_of}
use Rattle.mte_tenant.specs.Ledger.{charge_of_entry, charge_of, has_id, is_live}
use Rattle.mte_sched.specs.Contents.{new_tenant}
use Rattle.mte_sched.specs.Memories.{memory_at, IsTenantMemory}
use Rattle.mte_svc.specs.Ready.{IsReady}
use Rattle.mte_sched.specs.Tenants.{record_in, tenant_in, tenants_in, entry_in, entries_in}
use Rattle.mte_sched.specs.Sharing.{is_placed, LiesAt, IsSharing}
use Rattle.mte_sched.proofs.PlaceLists.{has_more, some_same, map_same}
use Rattle.mte_sched.proofs.EachLemmas.{or_left, or_right}
use Rattle.mte_sched.proofs.TurnLemmas.{live_same}
use Rattle.mte_sched.proofs.SharingLemmas.{Turn, tenant_stays, cached_after, sharing_after}

-- What a ledger tells, by its parts.
pub facts_same : (b c : Bool) (k l m n : ℕ) → b ≡ c → k ≡ l → m ≡ n
    → (let f : LedgerFacts = record { known = b; left = k; live = m } in f) ≡ record { known = c; left = l; live = n }
facts_same b c k l m n e f g = rw (e, f, g) refl

-- No translation is of an ASID that no tenant has.
pub fresh_asid : (p : Pool) (us : List Translation) (ts : List code.Tenant) → IsSharing p us ts → All (λ u. u.asid ≢ length ts) us
fresh_asid p us ts h =
    All-weaker (λ u. is_placed (slice_get ts u.asid) ≡ true) (λ u. u.asid ≢ length ts)
    (λ u placed e. let none : slice_get ts u.asid ≡ None = slice_get_past ts u.asid (omega (arith, e)) in let no : is_placed (slice_get ts u.asid) ≡ false = ap is_placed none in let z : true ≡ false = sym placed ∙ no in cc)
    us h.cached

-- A number that was never admitted is no tenant's.
pub fresh_number : (id : ℕ) (ts : List code.Tenant) (j : ℕ) (u : code.Tenant) → list_any (has_id id) (entries_in ts) ≡ false → slice_get ts j ≡ Some u → (record_in u).id ≢ id
fresh_number id [] j u none at = absurd cc
fresh_number id (t ∷ ts) zero u none at = λ e.
    let no : ((record_in t).id == id) ≡ false = or_left ((record_in t).id == id) _ none in
    let yes : ((record_in t).id == id) ≡ true = eq-eqb (record_in t).id id (ap (λ (w : code.Tenant). (record_in w).id) (some_same t u at) ∙ e) in
    let z : true ≡ false = sym yes ∙ no in cc
fresh_number id (t ∷ ts) (suc j) u none at = fresh_number id ts j u (or_right ((record_in t).id == id) _ none) at

module _ (p n : Pool) (us vs : List Translation) (ts : List code.Tenant) (id : ℕ) (b : TenantMemory) (parts : Box TenantParts Global) (pages : ℕ)
    (sharing : IsSharing p us ts) (placed : IsTenantMemory n vs (length ts) pages b) (unused : reserved_by p b.quota ≡ 0)
    (others : KeepsOthers b.quota p n) (entries : NoneEnters (length ts) us vs) where
  abbrev pub entered : code.Tenant
  entered = record { pages = pages; holding = kept.Live (record { parts = parts; memory = b }) }

  turn : Turn p n us vs b.quota (length ts)
  turn = record { others = others; entries = entries }

  differs : (j : ℕ) (u : code.Tenant) (a : Live) → LiesAt ts j u a → a.memory.quota ≢ b.quota
  differs j u a h = λ e.
      let charged : reserved_by p a.memory.quota ≡ charge_of u.pages = (sharing.placed j u a h).charged in
      let same : reserved_by p a.memory.quota ≡ reserved_by p b.quota = ap (reserved_by p) e in
      absurd (omega (arith, charged, same, unused))

  pub entered_tenants : tenants_in n (ts ++ entered ∷ []) ≡ tenants_in p ts ++ tenant_in n entered ∷ []
  entered_tenants =
      map-append (tenant_in n) ts (entered ∷ [])
      ∙ ap (λ l. l ++ tenant_in n entered ∷ []) (map_same (tenant_in n) (tenant_in p) ts (λ j u at. tenant_stays p n us vs ts b.quota (length ts) j u turn sharing (λ a h. differs j u a h) at))

  pub entered_count : count_by is_live (entries_in (ts ++ entered ∷ [])) ≡ count_by is_live (entries_in ts) + 1
  entered_count = ap (count_by is_live) (map-append entry_in ts (entered ∷ [])) ∙ sum_by-append (λ e. cond (is_live e) 1 0) (entries_in ts) (entry_in entered ∷ [])

  module _ (ready : IsReady parts.value (memory_at n b pages)) (reserved : sum n.reserved ≡ sum p.reserved + charge_of pages) (number : parts.value.history.id ≡ id)
      (fresh : list_any (has_id id) (entries_in ts) ≡ false) where
    own : (c : Live) → entered.holding ≡ kept.Live c → (c.memory.quota ≡ b.quota) × IsTenantMemory n vs (length ts) entered.pages c.memory × IsReady c.parts.value (memory_at n c.memory entered.pages)
    own c e =
        subst (λ (z : Live). (z.memory.quota ≡ b.quota) × IsTenantMemory n vs (length ts) pages z.memory × IsReady z.parts.value (memory_at n z.memory pages)) (live_same (record { parts = parts; memory = b }) c e) (refl, placed, ready)

    sums : sum_by charge_of_entry (entries_in (ts ++ entered ∷ [])) ≡ sum_by charge_of_entry (entries_in ts) + charge_of pages
    sums =
        let more : sum_by charge_of_entry (entries_in (ts ++ entered ∷ [])) ≡ sum_by charge_of_entry (entries_in ts) + sum_by charge_of_entry (entry_in entered ∷ []) =
        ap (sum_by charge_of_entry) (map-append entry_in ts (entered ∷ [])) ∙ sum_by-append charge_of_entry (entries_in ts) (entry_in entered ∷ []) in
        let one : sum_by charge_of_entry (entry_in entered ∷ []) ≡ charge_of pages + sum_by charge_of_entry [] = sum_by-cons charge_of_entry (entry_in entered) [] in
        let none : sum_by charge_of_entry [] ≡ 0 = refl in
        omega (arith, more, one, none)

    pub entered_sharing : IsSharing n vs (ts ++ entered ∷ [])
    entered_sharing =
        let has = has_more ts entered in
        sharing_after p n us vs ts (ts ++ entered ∷ []) b.quota (length ts) entered turn sharing has (λ j u a d h. differs j u a h) own
        (λ j u d at e. fresh_number id ts j u fresh at (e ∙ number))
        (cached_after p n us vs ts (ts ++ entered ∷ []) b.quota (length ts) entered turn sharing has (λ j u a d h. differs j u a h) entries refl)
        (omega (arith, reserved, sharing.reserved, sums))

-- ---- the first machine

pub first_number : (id : ℕ) (start : Start) (parts : TenantParts) → parts ≡ first_parts id start → parts.history.id ≡ id
unfolding first_parts
first_number id start parts e = ap (λ (q : TenantParts). q.history.id) e

pub first_tenant : (n : Pool) (id : ℕ) (start : Start) (parts : Box TenantParts Global) (b : TenantMemory) → parts.value ≡ first_parts id start → memory_at n b start.terms.pages ≡ first_memory start.image start.terms.pages start.terms.mode
    → tenant_in n (record { pages = start.terms.pages; holding = kept.Live (record { parts = parts; memory = b }) }) ≡ new_tenant id start
unfolding start_of first_parts
first_tenant n id start parts b e memory = rw (e, memory) refl
