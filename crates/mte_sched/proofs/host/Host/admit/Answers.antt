use Rattle.std.proofs.Common.{◌≡◌, ◌≢◌, ◌∙◌, ◌/◌, ◌^◌, ◌+◌, ◌++◌, ◌∷◌, [], ℕ, List, length, count_by, slice_set, ap, sym, subst, rules, arith}
use Rattle.std.specs.Prelude.{All}
use Rattle.mte_frames.specs.Pool.{Pool}
use Rattle.mte_translate.specs.declared.translation.Translation.{Translation}
use Rattle.mte_space.specs.Spaces.{NoneEnters}
use Rattle.scudo_heap.specs.Heaps.{empty_heap}
use Rattle.scudo_heap.specs.Served.{HeapOwnsItsPages}
use Rattle.mte_sched.specs.declared.memory.TenantMemory.{TenantMemory}
use Rattle.mte_sched.specs.declared.tenant.Tenant as code
use Rattle.mte_sched.specs.declared.tenant.Holding.TheVariants as kept
use Rattle.mte_tenant.specs.Machines.{first_parts}
use Rattle.mte_sched.specs.Contents.{Tenant, Content, after_admit, new_tenant}
use Rattle.mte_sched.specs.Memories.{memory_at, IsTenantMemory}
use Rattle.mte_sched.specs.Tenants.{record_in, tenants_in, entries_in}
use Rattle.mte_tenant.specs.Admissions.{start_in}
use Rattle.mte_tenant.specs.Ledger.{admission_refusal, is_live, numbers_of}
use Rattle.mte_sched.specs.Sharing.{IsSharing, IsIndexed, positions_for}
use Rattle.mte_sched.proofs.EachLemmas.{ledger_is}
use Rattle.mte_sched.proofs.IndexLemmas.{entered_position, entered_index}
use Rattle.mte_tenant.proofs.FirstLemmas.{first_ready}
use Rattle.mte_sched.proofs.AdmitLemmas.{fresh_asid, entered_sharing, entered_tenants, entered_count, first_number, first_tenant}
use Rattle.mte_sched.proofs.host.Host.admit.Goals as goal

pub returns-in_err-plan-clause-refused : goal.returns-in_err-plan-clause-refused
unfolding admission_refusal
returns-in_err-plan-clause-refused c =
    let told = rw c.ledger_facts-facts.ensures at c.in_err-plan.ensures.refused in
    rw (ledger_is c.args.self.now.pool c.args.self.now.tenants.items) (search (rules, told))

pub returns-in_err-plan-clause-memory : goal.returns-in_err-plan-clause-memory
returns-in_err-plan-clause-memory c =
    let told = rw c.ledger_facts-facts.ensures at c.in_err-plan.ensures.memory in
    rw (ledger_is c.args.self.now.pool c.args.self.now.tenants.items) (search (rules, told))

pub returns-in_err-parts-clause-memory : goal.returns-in_err-parts-clause-memory
returns-in_err-parts-clause-memory c =
    let fresh = rw c.ledger_facts-facts.ensures at c.accepted_means.ensures.fresh in
    rw (ledger_is c.args.self.now.pool c.args.self.now.tenants.items) (search (rules, fresh))

pub returns-in_err-first-clause-memory : goal.returns-in_err-first-clause-memory
returns-in_err-first-clause-memory c =
    let fresh = rw c.ledger_facts-facts.ensures at c.accepted_means.ensures.fresh in
    rw (ledger_is c.args.self.now.pool c.args.self.now.tenants.items) (search (rules, fresh))

pub returns-in_err-remembered-clause-memory : goal.returns-in_err-remembered-clause-memory
returns-in_err-remembered-clause-memory c =
    let fresh = rw c.ledger_facts-facts.ensures at c.accepted_means.ensures.fresh in
    rw (ledger_is c.args.self.now.pool c.args.self.now.tenants.items) (search (rules, fresh))

pub returns-in_err-make_room-clause-memory : goal.returns-in_err-make_room-clause-memory
returns-in_err-make_room-clause-memory c =
    let fresh = rw c.ledger_facts-facts.ensures at c.accepted_means.ensures.fresh in
    rw (ledger_is c.args.self.now.pool c.args.self.now.tenants.items) (search (rules, fresh))

pub start_memory-memory-requires-clause-frames : goal.start_memory-memory-requires-clause-frames
start_memory-memory-requires-clause-frames c =
    let told = rw c.ledger_facts-facts.ensures at c.accepted_means.ensures.frames in
    omega (arith, told, c.args.self.now.sharing.reserved)

pub start_memory-memory-requires-clause-fresh : goal.start_memory-memory-requires-clause-fresh
start_memory-memory-requires-clause-fresh c =
    let asid : c.len-asid.result ≡ length c.args.self.now.tenants.items = search rules in
    subst (λ k. All (λ u. u.asid ≢ k) c.args.self.now.caches.tlb) (sym asid) (fresh_asid c.args.self.now.pool c.args.self.now.caches.tlb c.args.self.now.tenants.items c.args.self.now.sharing)

pub enter-requires : goal.enter-requires
enter-requires c =
    let h = c.args.self.now in
    let asid : c.len-asid.result ≡ length h.tenants.items = search rules in
    rw asid (entered_position h.index.positions.items h.tenants.items c.args.admission.now.id h.indexed (search rules) (rw c.ledger_facts-facts.ensures at c.accepted_means.ensures.fresh))

pub invariant_of-self-2 : goal.invariant_of-self-2
invariant_of-self-2 c =
    let h = c.args.self.now in
    let ts : List code.Tenant = c.args.self.now.tenants.items in
    let given = start_in c.args.admission.now in
    let pages : ℕ = c.args.admission.now.terms.pages in
    let n : Pool = c.start_memory-memory.new.pool in
    let vs : List Translation = c.start_memory-memory.new.tlb in
    let b : TenantMemory = c.start_memory-memory.result in
    let start = c.start_memory-memory.ensures in
    let boxed : c.in_ok-parts.parts.value ≡ first_parts c.args.admission.now.id given = c.in_ok-parts.ensures.ok ∙ c.in_ok-first.ensures in
    let asid : c.len-asid.result ≡ length ts = search rules in
    let placed : IsTenantMemory n vs (length ts) pages b = subst (λ k. IsTenantMemory n vs k pages b) asid start.placed in
    let entries : NoneEnters (length ts) h.caches.tlb vs = subst (λ k. NoneEnters k h.caches.tlb vs) asid start.entries in
    let limit : (memory_at n b pages).limit ≡ pages = start.limit in
    let served : HeapOwnsItsPages (memory_at n b pages) (empty_heap (c.args.admission.now.terms.seed / 2 ^ 32) pages) =
    c.condition_of_calls.ensures.first (memory_at n b pages) (c.args.admission.now.terms.seed / 2 ^ 32) pages (omega (arith, limit)) start.untouched in
    let ready = first_ready c.args.admission.now.id given c.in_ok-parts.parts.value (memory_at n b pages) boxed served in
    let number = first_number c.args.admission.now.id given c.in_ok-parts.parts.value boxed in
    let all = entered_sharing h.pool n h.caches.tlb vs ts c.args.admission.now.id b c.in_ok-parts.parts pages h.sharing placed start.unused start.others entries ready start.reserved number (rw c.ledger_facts-facts.ensures at c.accepted_means.ensures.fresh) in
    let t : code.Tenant = record { pages = pages; holding = kept.Live (record { parts = c.in_ok-parts.parts; memory = b }) } in
    let pushed : c.push_reserved.new.self.items ≡ ts ++ t ∷ [] = c.push_reserved.ensures.items ∙ ap (λ l. l ++ t ∷ []) c.in_ok-make_room.ensures.items in
    let number_of : (record_in t).id ≡ c.args.admission.now.id = number in
    let index : IsIndexed (slice_set (positions_for h.index.positions.items (c.args.admission.now.id + 1)) c.args.admission.now.id (length ts)) (numbers_of (entries_in (ts ++ t ∷ []))) =
    entered_index h.index.positions.items ts c.args.admission.now.id h.indexed (search rules) (rw c.ledger_facts-facts.ensures at c.accepted_means.ensures.fresh) t number_of in
    let positions : c.enter.new.self.positions.items ≡ slice_set (positions_for h.index.positions.items (c.args.admission.now.id + 1)) c.args.admission.now.id (length ts) =
    c.enter.ensures.entered ∙ ap (slice_set (positions_for h.index.positions.items (c.args.admission.now.id + 1)) c.args.admission.now.id) asid in
    let count : count_by is_live (entries_in (ts ++ t ∷ [])) ≡ count_by is_live (entries_in ts) + 1 =
    entered_count h.pool n h.caches.tlb vs ts c.args.admission.now.id b c.in_ok-parts.parts pages h.sharing placed start.unused start.others entries in
    record {
      sharing = subst (IsSharing n vs) (sym pushed) all;
      indexed = subst (λ l. IsIndexed c.enter.new.self.positions.items (numbers_of (entries_in l))) (sym pushed) (subst (λ l. IsIndexed l (numbers_of (entries_in (ts ++ t ∷ [])))) (sym positions) index);
      counted = ap (λ k. k + 1) h.counted ∙ sym count ∙ ap (λ l. count_by is_live (entries_in l)) (sym pushed);
    }

pub returns-clause-accepted : goal.returns-clause-accepted
unfolding admission_refusal
returns-clause-accepted c =
    let told = rw c.ledger_facts-facts.ensures at c.in_ok-plan.ensures.accepted in
    rw (ledger_is c.args.self.now.pool c.args.self.now.tenants.items) (search (rules, told))

pub returns-clause-ok : goal.returns-clause-ok
unfolding after_admit
returns-clause-ok c =
    let h = c.args.self.now in
    let ts : List code.Tenant = c.args.self.now.tenants.items in
    let given = start_in c.args.admission.now in
    let pages : ℕ = c.args.admission.now.terms.pages in
    let n : Pool = c.start_memory-memory.new.pool in
    let vs : List Translation = c.start_memory-memory.new.tlb in
    let b : TenantMemory = c.start_memory-memory.result in
    let start = c.start_memory-memory.ensures in
    let boxed : c.in_ok-parts.parts.value ≡ first_parts c.args.admission.now.id given = c.in_ok-parts.ensures.ok ∙ c.in_ok-first.ensures in
    let asid : c.len-asid.result ≡ length ts = search rules in
    let placed : IsTenantMemory n vs (length ts) pages b = subst (λ k. IsTenantMemory n vs k pages b) asid start.placed in
    let entries : NoneEnters (length ts) h.caches.tlb vs = subst (λ k. NoneEnters k h.caches.tlb vs) asid start.entries in
    let t : code.Tenant = record { pages = pages; holding = kept.Live (record { parts = c.in_ok-parts.parts; memory = b }) } in
    let pushed : c.push_reserved.new.self.items ≡ ts ++ t ∷ [] = c.push_reserved.ensures.items ∙ ap (λ l. l ++ t ∷ []) c.in_ok-make_room.ensures.items in
    let tenants : tenants_in n c.push_reserved.new.self.items ≡ tenants_in h.pool ts ++ new_tenant c.args.admission.now.id given ∷ [] =
    ap (tenants_in n) pushed
    ∙ entered_tenants h.pool n h.caches.tlb vs ts c.args.admission.now.id b c.in_ok-parts.parts pages h.sharing placed start.unused start.others entries
    ∙ ap (λ u. tenants_in h.pool ts ++ u ∷ []) (first_tenant n c.args.admission.now.id given c.in_ok-parts.parts b boxed start.memory) in
    ap (λ (k : ℕ). let z : Content = record { frames = k; tenants = tenants_in n c.push_reserved.new.self.items } in z) start.others.count
    ∙ ap (λ (l : List Tenant). let z : Content = record { frames = length h.pool.frames; tenants = l } in z) tenants

pub start_memory-memory-requires-clause-remembered : goal.start_memory-memory-requires-clause-remembered
start_memory-memory-requires-clause-remembered c = λ m. c.in_ok-remembered.ensures m
