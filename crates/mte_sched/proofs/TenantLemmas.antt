-- A tenant's number stays, a slice attempts at most its steps, and what a machine becomes is what
-- its tenant becomes.
use Rattle.std.proofs.Common.{◌≡◌, ℕ, zero, suc, ◌+◌, ◌≤◌, ◌==◌, ◌&&◌, ◌∙◌, min, Bool, true, false, List, [], ◌∷◌, map, Option, Some, None, Result, Ok, Err}
use Rattle.std.specs.Prelude.{option_map}
use Rattle.std.proofs.Common.{if◌then◌else◌, refl, ap, arith}
use Rattle.a64_step.specs.declared.outcome.Outcome.{Outcome}
use Rattle.a64_step.specs.declared.outcome.Outcome.TheVariants as outcome
use Rattle.a64_step.specs.Steps.{step_of}
use Rattle.mte_tags.specs.Memory.{Memory, pages_left}
use Rattle.mte_tags.specs.Accesses.{read_fault, write_fault}
use Rattle.mte_tags.specs.declared.fault.MemFault.{MemFault}
use Rattle.mte_svc.specs.Results.{Served, with_answer, with_logged_call, resume_with, x_of}
use Rattle.mte_svc.specs.HeapServices.{heap_call_in, world_in, heap_service_cases, after_heap_service}
use Rattle.scudo_heap.specs.declared.call.HeapCall.{HeapCall}
use Rattle.scudo_heap.specs.Calls.{after_call}
use Rattle.scudo_heap.specs.Placing.{World}
use Rattle.scudo_heap.specs.declared.abort.HeapAbort.{HeapAbort}
use Rattle.mte_svc.specs.Services.{after_svc, service_cases, after_other_service, by_number, after_write_service, write_cases, write_count, after_read_service, read_cases, read_count, no_such_service}
use Rattle.mte_svc.specs.declared.parts.TenantParts.{TenantParts}
use Rattle.mte_svc.specs.declared.record.Record.{Record}
use Rattle.mte_svc.specs.declared.services.SvcEnd.{SvcEnd}
use Rattle.mte_svc.specs.declared.services.SvcEnd.TheVariants as end
use Rattle.mte_svc.specs.declared.services.TheConstants.{EXIT, WRITE, READ, YIELD, STEPS_LEFT, PAGES_LEFT}
use Rattle.mte_tenant.specs.Machines.{Machine, machine_of, runs, Attempt, continues, after_service, with_service, stop_by_tag, after_outcome, with_steps, with_regs}
use Rattle.mte_tenant.specs.Machines.{after_attempt, after_attempts, after_slice_end, after_slice, after_stop}
use Rattle.mte_tenant.specs.Machines.{start_of, first_parts}
use Rattle.mte_sched.specs.Lives.{TenantEvent, OwnSlice, OwnStop}
use Rattle.mte_sched.specs.Isolation.{NumbersStay}
use Rattle.mte_sched.specs.Contents.{TenantState, Live, Gone, record_of, state_after_slice, state_after_stop, after_own_events, Tenant, tenant_after_slice, tenant_after_stop, after_slice_of}
use Rattle.mte_sched.specs.Isolation.{tenant_among}
use Rattle.mte_sched.specs.Views.{record_among}
use Rattle.mte_sched.specs.Bounds.{SlicesAreBounded, TurnsAreBounded}

abbrev pub number_in : Machine → ℕ
number_in m = m.parts.history.id

abbrev pub steps_in : Machine → ℕ
steps_in m = m.parts.history.steps

-- what services leave: the number, and the count of attempted instructions
abbrev pub kept_in : TenantParts → ℕ × ℕ
kept_in p = (p.history.id, p.history.steps)

abbrev pub kept_of : Machine → ℕ × ℕ
kept_of m = kept_in m.parts

-- ---- no service changes the number and the count of attempted instructions

served_if : (b : Bool) (s t : Served) (k : ℕ × ℕ) → kept_in s.parts ≡ k → kept_in t.parts ≡ k → kept_in (if b then s else t).parts ≡ k
served_if true s t k e f = e
served_if false s t k e f = f

after-write-service-kept : (f : Option MemFault) (p : TenantParts) (m : Memory) (n : ℕ) → kept_in (write_cases f p m n).parts ≡ kept_in p
unfolding with_answer
after-write-service-kept (Some f) p m n = refl
after-write-service-kept None p m n = refl

read-kept : (f : Option MemFault) (p : TenantParts) (m : Memory) (n : ℕ) → kept_in (read_cases f p m n).parts ≡ kept_in p
unfolding with_answer
read-kept (Some f) p m n = refl
read-kept None p m n = refl

call-cases-kept : (p : TenantParts) (m : Memory) (call : HeapCall) (w : World) (r : Result ℕ HeapAbort) → kept_in (heap_service_cases p m call w r).parts ≡ kept_in p
unfolding with_answer with_logged_call
call-cases-kept p m call w (Ok a) = refl
call-cases-kept p m call w (Err e) = refl

call-kept : (p : TenantParts) (m : Memory) (call : HeapCall) → kept_in (after_heap_service p m call).parts ≡ kept_in p
unfolding after_heap_service
call-kept p m call = let r = after_call (world_in p m) call in call-cases-kept p m call r.world r.answer

number-kept : (n : ℕ) (p : TenantParts) (m : Memory) → kept_in (by_number n p m).parts ≡ kept_in p
unfolding after_write_service after_read_service with_answer
number-kept n p m =
    served_if (n == EXIT) _ _ (kept_in p) refl
    (served_if (n == WRITE) _ _ (kept_in p) (after-write-service-kept (read_fault m (x_of p 0) (write_count p) true) p m (write_count p))
    (served_if (n == READ) _ _ (kept_in p) (read-kept (write_fault m (x_of p 0) (read_count p) true) p m (read_count p))
    (served_if (n == YIELD) _ _ (kept_in p) refl
    (served_if (n == STEPS_LEFT) _ _ (kept_in p) refl
    (served_if (n == PAGES_LEFT) (resume_with p m (pages_left m)) (resume_with p m no_such_service) (kept_in p) refl refl)))))

service-cases-kept : (o : Option HeapCall) (p : TenantParts) (m : Memory) → kept_in (service_cases o p m).parts ≡ kept_in p
unfolding after_other_service
service-cases-kept (Some call) p m = call-kept p m call
service-cases-kept None p m = number-kept (x_of p 8) p m

after-svc-kept : (p : TenantParts) (m : Memory) → kept_in (after_svc p m).parts ≡ kept_in p
unfolding after_svc
after-svc-kept p m = service-cases-kept (heap_call_in p) p m

service-kept : (e : SvcEnd) (m : Machine) → kept_of (after_service e m).machine ≡ kept_of m
service-kept end.Resume m = refl
service-kept end.Yield m = refl
service-kept (end.Exit code) m = refl
service-kept (end.Fault f) m = refl
service-kept (end.Abort a p) m = refl

attempted_if : (b : Bool) (s t : Attempt) (k : ℕ × ℕ) → kept_of s.machine ≡ k → kept_of t.machine ≡ k → kept_of (if b then s else t).machine ≡ k
attempted_if true s t k e f = e
attempted_if false s t k e f = f

after-outcome-kept : (o : Outcome) (m : Machine) → kept_of (after_outcome o m).machine ≡ kept_of m
unfolding after_outcome
after-outcome-kept outcome.Next m = refl
after-outcome-kept outcome.Svc m =
    let s = after_svc m.parts m.memory in
    attempted_if m.memory.state.pending (continues (stop_by_tag m)) (with_service s) (kept_of m) refl (service-kept s.end (machine_of s.parts s.memory) ∙ after-svc-kept m.parts m.memory)
after-outcome-kept (outcome.Fault f) m = refl
after-outcome-kept (outcome.Illegal w) m = refl
after-outcome-kept (outcome.Breakpoint k) m = refl

-- ---- no instruction and no slice changes the number

after-attempt-kept : (n : ℕ) (m : Machine) → kept_of (after_attempt n m).machine ≡ (number_in m, min (steps_in m + 1) 18446744073709551615)
unfolding after_attempt
after-attempt-kept n m =
    after-outcome-kept (step_of m.parts.regs m.memory).outcome
    (machine_of (with_steps 1 n (with_regs m.parts (step_of m.parts.regs m.memory).regs)) (step_of m.parts.regs m.memory).memory)

after-attempt-id : (n : ℕ) (m : Machine) → number_in (after_attempt n m).machine ≡ number_in m
after-attempt-id n m = ap (λ k. k.0) (after-attempt-kept n m)

machine_if : (b : Bool) (s t : Machine) (n : ℕ) → number_in s ≡ n → number_in t ≡ n → number_in (if b then s else t) ≡ n
machine_if true s t n h k = h
machine_if false s t n h k = k

after-attempts-id : (n : ℕ) (m : Machine) → number_in (after_attempts n m) ≡ number_in m
unfolding after_attempts
after-attempts-id zero m = refl
after-attempts-id (suc n) m =
    let next = (after_attempt n m).machine in
    let one : number_in next ≡ number_in m = after-attempt-id n m in
    machine_if (runs m) (if (after_attempt n m).goes_on then after_attempts n next else next) m (number_in m)
    (machine_if (after_attempt n m).goes_on (after_attempts n next) next (number_in m) (after-attempts-id n next ∙ one) one) refl

after-slice-end-id : (m : Machine) → number_in (after_slice_end m) ≡ number_in m
unfolding after_slice_end
after-slice-end-id m =
    let z : Machine = record m { parts = record m.parts { left = 0 } } in
    machine_if (runs z && z.memory.state.pending) (stop_by_tag z) z (number_in m) refl refl

pub after-slice-id : (n : ℕ) (m : Machine) → number_in (after_slice n m) ≡ number_in m
unfolding after_slice
after-slice-id n m = after-slice-end-id (after_attempts n m) ∙ after-attempts-id n m

pub after-stop-id : (m : Machine) → number_in (after_stop m) ≡ number_in m
unfolding after_stop
after-stop-id m = machine_if (runs m) _ m (number_in m) refl refl

-- ---- a slice attempts at most as many instructions as it has steps

after-attempt-steps : (n : ℕ) (m : Machine) → steps_in (after_attempt n m).machine ≡ min (steps_in m + 1) 18446744073709551615
after-attempt-steps n m = ap (λ k. k.1) (after-attempt-kept n m)

most_if : (b : Bool) (s t : Machine) (n : ℕ) → steps_in s ≤ n → steps_in t ≤ n → steps_in (if b then s else t) ≤ n
most_if true s t n h k = h
most_if false s t n h k = k

after-attempts-steps : (n : ℕ) (m : Machine) → steps_in (after_attempts n m) ≤ steps_in m + n
unfolding after_attempts
after-attempts-steps zero m = omega arith
after-attempts-steps (suc n) m =
    let next = (after_attempt n m).machine in
    let one : steps_in next ≡ min (steps_in m + 1) 18446744073709551615 = after-attempt-steps n m in
    let rest : steps_in (after_attempts n next) ≤ steps_in next + n = after-attempts-steps n next in
    most_if (runs m) (if (after_attempt n m).goes_on then after_attempts n next else next) m (steps_in m + suc n)
    (most_if (after_attempt n m).goes_on (after_attempts n next) next (steps_in m + suc n) (omega (arith, one, rest)) (omega (arith, one)))
    (omega arith)

-- no end of a slice changes the count
settled_if : (b : Bool) (z : Machine) → steps_in (if b then stop_by_tag z else z) ≡ steps_in z
settled_if true z = refl
settled_if false z = refl

after-slice-end-steps : (m : Machine) → steps_in (after_slice_end m) ≡ steps_in m
unfolding after_slice_end
after-slice-end-steps m =
    let z : Machine = record m { parts = record m.parts { left = 0 } } in
    settled_if (runs z && z.memory.state.pending) z

pub slice-bounded : SlicesAreBounded
unfolding after_slice
slice-bounded n m =
    let last : steps_in (after_slice_end (after_attempts n m)) ≡ steps_in (after_attempts n m) = after-slice-end-steps (after_attempts n m) in
    omega (arith, last, after-attempts-steps n m)

held_bounded : (n : ℕ) (h : TenantState) → (record_of (state_after_slice n h)).steps ≤ (record_of h).steps + n
held_bounded n (Live m) = slice-bounded n m
held_bounded n (Gone r) = omega arith

abbrev steps_by : Option Record → ℕ
steps_by None = 0
steps_by (Some r) = r.steps

bounded_if : (b : Bool) (id n : ℕ) (t : Tenant) (more : List Tenant) (r s : Record)
    → (record_among id more ≡ Some r → record_among id (map (tenant_after_slice id n) more) ≡ Some s → s.steps ≤ r.steps + n)
    → option_map (λ u. record_of u.held) (if b then Some t else tenant_among id more) ≡ Some r
    → option_map (λ u. record_of u.held) (if b then Some (let u : Tenant = record t { held = if b then state_after_slice n t.held else t.held } in u) else tenant_among id (map (tenant_after_slice id n) more)) ≡ Some s
    → s.steps ≤ r.steps + n
bounded_if true id n t more r s rest e f =
    let was : (record_of t.held).steps ≡ r.steps = ap steps_by e in
    let is : (record_of (state_after_slice n t.held)).steps ≡ s.steps = ap steps_by f in
    omega (arith, was, is, held_bounded n t.held)
bounded_if false id n t more r s rest e f = rest e f

bounded_among : (id n : ℕ) (ts : List Tenant) (r s : Record) → record_among id ts ≡ Some r
    → record_among id (map (tenant_after_slice id n) ts) ≡ Some s → s.steps ≤ r.steps + n
bounded_among id n [] r s e f = cc
bounded_among id n (t ∷ more) r s e f = bounded_if (t.id == id) id n t more r s (bounded_among id n more r s) e f

pub turn-bounded : TurnsAreBounded
unfolding after_slice_of
turn-bounded id n c r s e f = bounded_among id n c.tenants r s e f

-- ---- the tenant

abbrev pub tenant_by : TenantParts → Memory → ℕ → Tenant
tenant_by p m pages = record { id = p.history.id; pages = pages; held = Live (machine_of p m) }

abbrev pub tenant_gone : Record → ℕ → Tenant
tenant_gone r pages = record { id = r.id; pages = pages; held = Gone r }

pub sliced_tenant : (id steps pages : ℕ) (p p' : TenantParts) (m m' : Memory) → (p.history.id == id) ≡ true
    → machine_of p' m' ≡ after_slice steps (machine_of p m)
    → tenant_by p' m' pages ≡ tenant_after_slice id steps (tenant_by p m pages)
sliced_tenant id steps pages p p' m m' same step =
    let number : p'.history.id ≡ p.history.id = ap number_in step ∙ after-slice-id steps (machine_of p m) in
    rw (same, ← step, number) refl

pub stopped_tenant : (id pages : ℕ) (p p' : TenantParts) (m : Memory) → (p.history.id == id) ≡ true
    → ((m : Memory) → machine_of p' m ≡ after_stop (machine_of p m))
    → tenant_gone p'.history pages ≡ tenant_after_stop id (tenant_by p m pages)
unfolding after_stop
stopped_tenant id pages p p' m live step =
    let number : p'.history.id ≡ p.history.id = ap number_in (step m) ∙ after-stop-id (machine_of p m) in
    rw (live, ← step m, number) refl

-- ---- a tenant alone

sliced_number : (n : ℕ) (h : TenantState) → (record_of (state_after_slice n h)).id ≡ (record_of h).id
sliced_number n (Live m) = after-slice-id n m
sliced_number n (Gone r) = refl

stopped_number : (h : TenantState) → (record_of (state_after_stop h)).id ≡ (record_of h).id
stopped_number (Live m) = after-stop-id m
stopped_number (Gone r) = refl

alone_number : (h : TenantState) (own : List TenantEvent) → (record_of (after_own_events h own)).id ≡ (record_of h).id
unfolding after_own_events
alone_number h [] = refl
alone_number h (OwnSlice n ∷ own) = alone_number (state_after_slice n h) own ∙ sliced_number n h
alone_number h (OwnStop ∷ own) = alone_number (state_after_stop h) own ∙ stopped_number h

pub numbers_stay : NumbersStay
unfolding start_of first_parts
numbers_stay life = alone_number (Live (start_of life.id life.start)) life.own
