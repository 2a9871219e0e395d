-- What a tenant may use, and its heap calls.
use Rattle.std.proofs.Common.{◌≡◌, ℕ, true, Some, None, refl, sym, ap, ◌∙◌, ◌≢◌, Bool, false, cond, Option, List, [], ◌∷◌, Result, Ok, Err, subst}
use Rattle.mte_tags.specs.Memory.{Memory}
use Rattle.mte_laws.specs.CarefulSessions.{state_in}
use Rattle.mte_laws.proofs.Sessions.{tenants-stay}
use Rattle.std.specs.Prelude.{slice_index, slice_set}
use Rattle.scudo_heap.specs.declared.abort.HeapAbort.{HeapAbort}
use Rattle.scudo_heap.specs.declared.call.HeapCall.{HeapCall}
use Rattle.scudo_heap.specs.Placing.{World}
use Rattle.scudo_heap.specs.Calls.{after_call}
use Rattle.a64_step.specs.declared.outcome.Outcome.{Outcome}
use Rattle.a64_step.specs.declared.outcome.Outcome.TheVariants as outcome
use Rattle.mte_svc.specs.declared.parts.TenantParts.{TenantParts}
use Rattle.mte_svc.specs.Results.{x_of, with_answer, with_logged_call}
use Rattle.mte_svc.specs.Services.{service_cases, after_svc}
use Rattle.mte_svc.specs.HeapServices.{heap_call_in, world_in, heap_service_cases, after_heap_service}
use Rattle.mte_tenant.specs.Machines.{Machine, Attempt, machine_of, with_steps, with_regs, runs, continues, stop_by_tag, with_service, after_outcome, after_attempt}
use Rattle.a64_step.specs.Steps.{step_of}
use Rattle.mte_laws.specs.CarefulRuns.{State, Live, state_after_call, IsCareful}
use Rattle.mte_laws.specs.CarefulTenants.{state_of, before_service, call_at, next_call}
use Rattle.mte_laws.proofs.Tenants.{step-quiet, service-same, after-attempt-done, call-with-steps}
use Rattle.mte_laws.specs.Answers.{asked_bytes, HasUsableBytes}
use Rattle.mte_laws.specs.TenantCalls.{ChunksOfTenantsMayBeUsed, AskedBytesOfTenantsMayBeUsed, ServicesAreCalls}
use Rattle.mte_laws.proofs.Answers.{asked-usable}
use Rattle.mte_laws.proofs.Uses.{chunks-usable}

pub chunks-of-tenants-usable : ChunksOfTenantsMayBeUsed
chunks-of-tenants-usable = record {
  blocks = λ s life m u x h e. chunks-usable.blocks (state_in life m) u x (tenants-stay s life m h) e;
  pages = λ s life m u x h e. chunks-usable.pages (state_in life m) u x (tenants-stay s life m h) e;
}

-- ---- of a tenant: the answer is in x0, where it still runs

first-set : (xs : List ℕ) (v : ℕ) → slice_index (slice_set xs 0 v) 0 ≢ 0 → v ≡ slice_index (slice_set xs 0 v) 0
first-set [] v some = absurd (some refl)
first-set (x ∷ xs) v some = refl

IsServed : Attempt → Result ℕ HeapAbort → Type 0
IsServed a r = runs a.machine ≡ true → x_of a.machine.parts 0 ≢ 0 → r ≡ Ok (x_of a.machine.parts 0)

result-served : (p : TenantParts) (m : Memory) (c : HeapCall) (w : World) (r : Result ℕ HeapAbort) → IsServed (with_service (heap_service_cases p m c w r)) r
unfolding IsServed with_answer with_logged_call
result-served p m c w (Err a) = λ runs some. cc
result-served p m c w (Ok v) = λ runs some. ap Ok (first-set p.regs.x v some)

service-served : (p : TenantParts) (m : Memory) (c : HeapCall) (o : Option HeapCall) → o ≡ Some c → IsServed (with_service (service_cases o p m)) (after_call (world_in p m) c).answer
unfolding after_heap_service
service-served p m c None e = cc
service-served p m c (Some d) e =
    let same : d ≡ c = cc in
    subst (λ t. IsServed (with_service (service_cases (Some d) p m)) (after_call (world_in p m) t).answer) same
    (result-served p m d (after_call (world_in p m) d).world (after_call (world_in p m) d).answer)

flag-served : (b : Bool) (p : TenantParts) (m : Memory) (c : HeapCall) → cond b None (heap_call_in p) ≡ Some c
    → IsServed (cond b (continues (stop_by_tag (machine_of p m))) (with_service (after_svc p m))) (after_call (world_in p m) c).answer
unfolding after_svc
flag-served true p m c e = cc
flag-served false p m c e = service-served p m c (heap_call_in p) e

outcome-served : (o : Outcome) (p : TenantParts) (m : Memory) (c : HeapCall) → call_at o (machine_of p m) ≡ Some c → IsServed (after_outcome o (machine_of p m)) (after_call (world_in p m) c).answer
unfolding after_outcome
outcome-served outcome.Next p m c e = cc
outcome-served outcome.Svc p m c e = flag-served m.state.pending p m c e
outcome-served (outcome.Fault f) p m c e = cc
outcome-served (outcome.Illegal w) p m c e = cc
outcome-served (outcome.Breakpoint i) p m c e = cc

attempt-served : (left : ℕ) (m : Machine) (l : Live) (c : HeapCall) → next_call m ≡ Some c → IsServed (after_attempt left m) (after_call (state_of (before_service m) l).world c).answer
unfolding after_attempt next_call
attempt-served left m l c e =
    let o = (step_of m.parts.regs m.memory).outcome in
    let memory = (step_of m.parts.regs m.memory).memory in
    let q = with_regs m.parts (step_of m.parts.regs m.memory).regs in
    outcome-served o (with_steps 1 left q) memory c (sym (call-with-steps o left q memory) ∙ e)

pub asked-of-tenants : AskedBytesOfTenantsMayBeUsed
unfolding IsServed state_after_call
asked-of-tenants = λ left m l c k careful e running some.
    let s = state_of (before_service m) l in
    let x0 = x_of (after_attempt left m).machine.parts 0 in
    let sound = (step-quiet m l careful.tags k).sound in
    let answer = attempt-served left m l c e running some in
    let done : (after_attempt left m).machine.memory ≡ (after_call s.world c).world.memory = ap (λ (t : State). t.world.memory) (after-attempt-done left m l c e) in
    subst (λ t. HasUsableBytes t x0 (asked_bytes c)) (sym done) (asked-usable s c x0 sound (careful.call c e) answer some)

-- ---- a heap call

pub services-are-calls : ServicesAreCalls
services-are-calls = λ left m l c k careful e.
    let same = service-same m l c e in (
      subst (λ s. IsCareful s c) same (careful.call c e),
      after-attempt-done left m l c e ∙ ap (state_after_call c) same,
    )
