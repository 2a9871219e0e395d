-- A machine's careful instructions keep its live chunks Sound.
use Rattle.std.proofs.Common.{◌≡◌, ℕ, zero, suc, ◌==◌, ◌&&◌, Bool, true, false, cond, Option, Some, None, List, Result, Ok, Err, refl, sym, ap, subst, ◌∙◌}
use Rattle.mte_tags.specs.Memory.{Memory, page_at, attrs_at, pages_left, with_pending}
use Rattle.mte_tags.specs.Accesses.{read_fault, write_fault, access_cases, after_access, after_read, after_write}
use Rattle.mte_tags.specs.declared.access.Access.{Access}
use Rattle.mte_tags.specs.declared.fault.MemFault.{MemFault}
use Rattle.mte_tags.proofs.PageLaws.{attrs_at-with-bytes-at, pages_left-with-bytes-at}
use Rattle.mte_tags.proofs.StateLaws.{mode-after_read, mode-after_write, tag_at-after_read, tag_at-after_write, limit-after_read, limit-after_write, whole-after_read, whole-after_write, attrs-after_read, attrs-after_write, left-after_read, left-after_write}
use Rattle.a64_step.specs.declared.outcome.Outcome.{Outcome}
use Rattle.a64_step.specs.declared.outcome.Outcome.TheVariants as outcome
use Rattle.a64_step.specs.Steps.{step_of, next_stores_tags}
use Rattle.a64_step.proofs.Effects.{step_orderly}
use Rattle.scudo_heap.specs.declared.abort.HeapAbort.{HeapAbort}
use Rattle.scudo_heap.specs.declared.call.HeapCall.{HeapCall}
use Rattle.scudo_heap.specs.Placing.{World, world_of}
use Rattle.scudo_heap.specs.Calls.{after_call}
use Rattle.scudo_heap.proofs.CallLemmas.{call_stays}
use Rattle.mte_svc.specs.declared.parts.TenantParts.{TenantParts}
use Rattle.mte_svc.specs.declared.services.SvcEnd.{SvcEnd}
use Rattle.mte_svc.specs.declared.services.SvcEnd.TheVariants as end
use Rattle.mte_svc.specs.Results.{Served, x_of, with_answer, with_logged_call}
use Rattle.mte_svc.specs.Services.{write_count, write_cases, after_write_service, read_count, read_cases, after_read_service, after_other_service, service_cases, after_svc}
use Rattle.mte_svc.specs.HeapServices.{heap_call_in, heap_service_cases, after_heap_service}
use Rattle.mte_tenant.specs.Machines.{Machine, machine_of, with_regs, with_steps, runs, continues, stop_by_tag, after_service, with_service, after_outcome, after_attempt, after_attempts, after_slice_end, after_slice}
use Rattle.mte_laws.specs.CarefulRuns.{State, Live, live_after_call, state_after_call, HasFree}
use Rattle.mte_laws.specs.CarefulRuns as heap
use Rattle.mte_laws.specs.CarefulTenants.{state_of, before_service, call_at, next_call, live_after_cases, live_after, IsCarefulNext, live_through, IsCareful, Steps, stop, next}
use Rattle.mte_laws.specs.SoundHeaps.{Sound}
use Rattle.mte_laws.proofs.Freed.{Freed, IsStale}
use Rattle.mte_laws.proofs.FreeStates.{IsKeptOn, kept-same}
use Rattle.mte_laws.proofs.Runs.{call-kept, quiet-kept}

-- ---- services

abbrev after : Served → Live → State
after s l = record { world = world_of s.memory s.parts.heap s.parts.regs.rgsr; live = l }

abbrev before : TenantParts → Memory → Live → State
before p m l = record { world = world_of m p.heap p.regs.rgsr; live = l }

after-write-service-kept : (p : TenantParts) (m : Memory) (l : Live) (n : ℕ) (f : Option MemFault) → Sound (before p m l) → IsKeptOn (before p m l) (after (write_cases f p m n) l)
unfolding with_answer
after-write-service-kept p m l n (Some f) k = kept-same (before p m l) k
after-write-service-kept p m l n None k = quiet-kept (before p m l) _ k (record {
  heap = refl;
  live = refl;
  limit = limit-after_read m (x_of p 0) n true;
  mode = mode-after_read m (x_of p 0) n true;
  attrs = attrs-after_read m (x_of p 0) n true;
  left = left-after_read m (x_of p 0) n true;
  tags = tag_at-after_read m (x_of p 0) n true;
  whole = whole-after_read m (x_of p 0) n true k.whole;
})

read-kept : (p : TenantParts) (m : Memory) (l : Live) (n : ℕ) (f : Option MemFault) → Sound (before p m l) → IsKeptOn (before p m l) (after (read_cases f p m n) l)
unfolding with_answer
read-kept p m l n (Some f) k = kept-same (before p m l) k
read-kept p m l n None k = quiet-kept (before p m l) _ k (record {
  heap = refl;
  live = refl;
  limit = limit-after_write m (x_of p 0) _ true;
  mode = mode-after_write m (x_of p 0) _ true;
  attrs = attrs-after_write m (x_of p 0) _ true;
  left = left-after_write m (x_of p 0) _ true;
  tags = tag_at-after_write m (x_of p 0) _ true;
  whole = whole-after_write m (x_of p 0) _ true k.whole;
})

-- ---- a heap call

abbrev of_world : World → Live → State
of_world w l = record { world = w; live = l }

-- one that aborts leaves the world as it was
call-cases-are : (p : TenantParts) (m : Memory) (j : Live) (c : HeapCall) (w : World) (r : Result ℕ HeapAbort) → ((e : HeapAbort) → r ≡ Err e → w ≡ world_of m p.heap p.regs.rgsr) → after (heap_service_cases p m c w r) j ≡ of_world w j
unfolding with_answer with_logged_call
call-cases-are p m j c w (Err e) h = ap (λ v. of_world v j) (sym (h e refl))
call-cases-are p m j c w (Ok value) h = refl

-- what the service leaves is what the call leaves
heap-service-done : (p : TenantParts) (m : Memory) (l : Live) (c : HeapCall) → after (after_heap_service p m c) (state_after_call c (before p m l)).live ≡ state_after_call c (before p m l)
unfolding after_heap_service state_after_call
heap-service-done p m l c =
    let w = world_of m p.heap p.regs.rgsr in
    call-cases-are p m (live_after_call c (before p m l)) c (after_call w c).world (after_call w c).answer (call_stays w c)

-- ---- all services

pick : (p : TenantParts) (m : Memory) (l : Live) (b : Bool) (x y : Served) → (b ≡ true → IsKeptOn (before p m l) (after x l)) → (b ≡ false → IsKeptOn (before p m l) (after y l)) → IsKeptOn (before p m l) (after (cond b x y) l)
pick p m l true x y f g = f refl
pick p m l false x y f g = g refl

other-service : (p : TenantParts) (m : Memory) (l : Live) → Sound (before p m l) → IsKeptOn (before p m l) (after (after_other_service p m) l)
unfolding after_other_service after_write_service after_read_service with_answer
other-service p m l k =
    let n = x_of p 8 in
    let same = kept-same (before p m l) k in
    pick p m l (n == 0) _ _ (λ e. same)
    (λ e. pick p m l (n == 1) _ _ (λ f. after-write-service-kept p m l (write_count p) (read_fault m (x_of p 0) (write_count p) true) k)
    (λ f. pick p m l (n == 2) _ _ (λ g. read-kept p m l (read_count p) (write_fault m (x_of p 0) (read_count p) true) k)
    (λ g. pick p m l (n == 9) _ _ (λ h. same)
    (λ h. pick p m l (n == 10) _ _ (λ i. same)
    (λ i. pick p m l (n == 11) _ _ (λ j. same) (λ j. same))))))

ended-heap : (e : SvcEnd) (k : Machine) → (after_service e k).machine.parts.heap ≡ k.parts.heap
ended-heap end.Resume k = refl
ended-heap end.Yield k = refl
ended-heap (end.Exit code) k = refl
ended-heap (end.Fault f) k = refl
ended-heap (end.Abort a pointer) k = refl

heap-by : (p : TenantParts) (b : Bool) (x y : Served) → x.parts.heap ≡ p.heap → y.parts.heap ≡ p.heap → (cond b x y).parts.heap ≡ p.heap
heap-by p true x y f g = f
heap-by p false x y f g = g

write-heap : (p : TenantParts) (m : Memory) (f : Option MemFault) → (write_cases f p m (write_count p)).parts.heap ≡ p.heap
unfolding with_answer
write-heap p m (Some f) = refl
write-heap p m None = refl

read-heap : (p : TenantParts) (m : Memory) (f : Option MemFault) → (read_cases f p m (read_count p)).parts.heap ≡ p.heap
unfolding with_answer
read-heap p m (Some f) = refl
read-heap p m None = refl

abbrev MayServe : Option HeapCall → TenantParts → Memory → Live → Type 0
MayServe o p m l = (c : HeapCall) → o ≡ Some c → heap.IsCareful (before p m l) c

cases-kept : (o : Option HeapCall) (p : TenantParts) (m : Memory) (l : Live) → Sound (before p m l) → MayServe o p m l → IsKeptOn (before p m l) (after (service_cases o p m) (live_after_cases o (before p m l)))
cases-kept None p m l k c = other-service p m l k
cases-kept (Some d) p m l k c = subst (IsKeptOn (before p m l)) (sym (heap-service-done p m l d)) (call-kept (before p m l) d k (c d refl))

some-is : (c d : HeapCall) → Some c ≡ Some d → c ≡ d
some-is c d e = cc

cases-done : (o : Option HeapCall) (p : TenantParts) (m : Memory) (l : Live) (c : HeapCall) → o ≡ Some c → after (service_cases o p m) (state_after_call c (before p m l)).live ≡ state_after_call c (before p m l)
cases-done None p m l c e = cc
cases-done (Some d) p m l c e =
    subst (λ t. after (after_heap_service p m t) (state_after_call c (before p m l)).live ≡ state_after_call c (before p m l)) (some-is c d (sym e)) (heap-service-done p m l c)

-- ---- an attempted instruction

-- the flag, the status and the counts are no part of the state
ended-state : (e : SvcEnd) (k : Machine) (l : Live) → state_of k l ≡ state_of (after_service e k).machine l
ended-state end.Resume k l = refl
ended-state end.Yield k l = refl
ended-state (end.Exit code) k l = refl
ended-state (end.Fault f) k l = refl
ended-state (end.Abort a pointer) k l = refl

after-svc-kept : (p : TenantParts) (m : Memory) (l : Live) → Sound (before p m l) → MayServe (heap_call_in p) p m l → IsKeptOn (before p m l) (state_of (with_service (after_svc p m)).machine (live_after_cases (heap_call_in p) (before p m l)))
unfolding after_svc
after-svc-kept p m l k c =
    let s = service_cases (heap_call_in p) p m in
    let j = live_after_cases (heap_call_in p) (before p m l) in
    subst (IsKeptOn (before p m l)) (ended-state s.end (machine_of s.parts s.memory) j) (cases-kept (heap_call_in p) p m l k c)

flag-kept : (b : Bool) (p : TenantParts) (m : Memory) (l : Live) → Sound (before p m l) → ((c : HeapCall) → cond b None (heap_call_in p) ≡ Some c → heap.IsCareful (before p m l) c)
    → IsKeptOn (before p m l) (state_of (cond b (continues (stop_by_tag (machine_of p m))) (with_service (after_svc p m))).machine (live_after_cases (cond b None (heap_call_in p)) (before p m l)))
flag-kept true p m l k c = kept-same (before p m l) k
flag-kept false p m l k c = after-svc-kept p m l k c

after-outcome-kept : (o : Outcome) (p : TenantParts) (m : Memory) (l : Live) → Sound (before p m l) → ((c : HeapCall) → call_at o (machine_of p m) ≡ Some c → heap.IsCareful (before p m l) c)
    → IsKeptOn (before p m l) (state_of (after_outcome o (machine_of p m)).machine (live_after_cases (call_at o (machine_of p m)) (before p m l)))
unfolding after_outcome
after-outcome-kept outcome.Next p m l k c = kept-same (before p m l) k
after-outcome-kept outcome.Svc p m l k c = flag-kept m.state.pending p m l k c
after-outcome-kept (outcome.Fault f) p m l k c = kept-same (before p m l) k
after-outcome-kept (outcome.Illegal w) p m l k c = kept-same (before p m l) k
after-outcome-kept (outcome.Breakpoint i) p m l k c = kept-same (before p m l) k

-- an instruction that stores no tags
pub step-quiet : (m : Machine) (l : Live) → next_stores_tags m.parts.regs m.memory ≡ false → Sound (state_of m l) → IsKeptOn (state_of m l) (state_of (before_service m) l)
step-quiet m l tagless k =
    let o = step_orderly m.parts.regs m.memory in
    quiet-kept (state_of m l) (state_of (before_service m) l) k (record {
      heap = refl;
      live = refl;
      limit = o.state.limit;
      mode = o.state.mode;
      attrs = o.state.attrs;
      left = o.state.left;
      tags = o.tags tagless;
      whole = o.state.whole k.whole;
    })

-- the counts are no part of what is asked
pub call-with-steps : (o : Outcome) (n : ℕ) (p : TenantParts) (m : Memory) → call_at o (machine_of p m) ≡ call_at o (machine_of (with_steps 1 n p) m)
call-with-steps outcome.Next n p m = refl
call-with-steps outcome.Svc n p m = refl
call-with-steps (outcome.Fault f) n p m = refl
call-with-steps (outcome.Illegal w) n p m = refl
call-with-steps (outcome.Breakpoint i) n p m = refl

pub after-attempt-kept : (n : ℕ) (m : Machine) (l : Live) → Sound (state_of m l) → IsCarefulNext m l → IsKeptOn (state_of m l) (state_of (after_attempt n m).machine (live_after m l))
unfolding after_attempt live_after next_call
after-attempt-kept n m l k c =
    let o = (step_of m.parts.regs m.memory).outcome in
    let memory = (step_of m.parts.regs m.memory).memory in
    let q = with_regs m.parts (step_of m.parts.regs m.memory).regs in
    let p = with_steps 1 n q in
    let e : call_at o (machine_of q memory) ≡ call_at o (machine_of p memory) = call-with-steps o n q memory in
    let first = step-quiet m l c.tags k in
    let last = after-outcome-kept o p memory l first.sound (λ d f. c.call d (e ∙ f)) in
    let then = subst (λ r. IsKeptOn (before p memory l) (state_of (after_outcome o (machine_of p memory)).machine (live_after_cases r (before p memory l)))) (sym e) last in
    record { sound = then.sound; stale = λ f st continues. then.stale f (first.stale f st st.stacked) continues }

-- ---- what an instruction asks of the heap is what it leaves

after-svc-done : (p : TenantParts) (m : Memory) (l : Live) (c : HeapCall) → heap_call_in p ≡ Some c → state_of (with_service (after_svc p m)).machine (state_after_call c (before p m l)).live ≡ state_after_call c (before p m l)
unfolding after_svc
after-svc-done p m l c e =
    let s = service_cases (heap_call_in p) p m in
    sym (ended-state s.end (machine_of s.parts s.memory) (state_after_call c (before p m l)).live) ∙ cases-done (heap_call_in p) p m l c e

flag-done : (b : Bool) (p : TenantParts) (m : Memory) (l : Live) (c : HeapCall) → cond b None (heap_call_in p) ≡ Some c
    → state_of (cond b (continues (stop_by_tag (machine_of p m))) (with_service (after_svc p m))).machine (state_after_call c (before p m l)).live ≡ state_after_call c (before p m l)
flag-done true p m l c e = cc
flag-done false p m l c e = after-svc-done p m l c e

after-outcome-done : (o : Outcome) (p : TenantParts) (m : Memory) (l : Live) (c : HeapCall) → call_at o (machine_of p m) ≡ Some c → state_of (after_outcome o (machine_of p m)).machine (state_after_call c (before p m l)).live ≡ state_after_call c (before p m l)
unfolding after_outcome
after-outcome-done outcome.Next p m l c e = cc
after-outcome-done outcome.Svc p m l c e = flag-done m.state.pending p m l c e
after-outcome-done (outcome.Fault f) p m l c e = cc
after-outcome-done (outcome.Illegal w) p m l c e = cc
after-outcome-done (outcome.Breakpoint i) p m l c e = cc

pub after-attempt-done : (n : ℕ) (m : Machine) (l : Live) (c : HeapCall) → next_call m ≡ Some c → state_of (after_attempt n m).machine (live_after m l) ≡ state_after_call c (state_of (before_service m) l)
unfolding after_attempt live_after next_call
after-attempt-done n m l c e =
    let o = (step_of m.parts.regs m.memory).outcome in
    let memory = (step_of m.parts.regs m.memory).memory in
    let q = with_regs m.parts (step_of m.parts.regs m.memory).regs in
    let p = with_steps 1 n q in
    let f : call_at o (machine_of p memory) ≡ Some c = sym (call-with-steps o n q memory) ∙ e in
    ap (λ r. state_of (after_outcome o (machine_of p memory)).machine (live_after_cases r (before p memory l))) e ∙ after-outcome-done o p memory l c f

-- ---- a service finds the state of before its instruction

not-next : (o : Outcome) (k : Machine) (c : HeapCall) → call_at o k ≡ Some c → o ≡ outcome.Next → ⊥
not-next outcome.Next k c e f = cc
not-next outcome.Svc k c e f = cc
not-next (outcome.Fault a) k c e f = cc
not-next (outcome.Illegal w) k c e f = cc
not-next (outcome.Breakpoint i) k c e f = cc

pub service-same : (m : Machine) (l : Live) (c : HeapCall) → next_call m ≡ Some c → state_of (before_service m) l ≡ state_of m l
unfolding next_call
service-same m l c e =
    let o = step_orderly m.parts.regs m.memory in
    let n = not-next (step_of m.parts.regs m.memory).outcome (before_service m) c e in
    let regs = o.regs n in
    let memory = o.memory n in
    λ i. record { world = world_of (memory i) m.parts.heap (regs i).rgsr; live = l }

-- ---- an instruction that is no heap call leaves the heap

other-heap : (p : TenantParts) (m : Memory) → (after_other_service p m).parts.heap ≡ p.heap
unfolding after_other_service after_write_service after_read_service with_answer
other-heap p m =
    let n = x_of p 8 in
    heap-by p (n == 0) _ _ refl (heap-by p (n == 1) _ _ (write-heap p m (read_fault m (x_of p 0) (write_count p) true)) (heap-by p (n == 2) _ _ (read-heap p m (write_fault m (x_of p 0) (read_count p) true))
    (heap-by p (n == 9) _ _ refl (heap-by p (n == 10) _ _ refl (heap-by p (n == 11) _ _ refl refl)))))

cases-heap : (o : Option HeapCall) (p : TenantParts) (m : Memory) → o ≡ None → (with_service (service_cases o p m)).machine.parts.heap ≡ p.heap
cases-heap None p m e = ended-heap (after_other_service p m).end (machine_of (after_other_service p m).parts (after_other_service p m).memory) ∙ other-heap p m
cases-heap (Some c) p m e = cc

flag-heap : (b : Bool) (p : TenantParts) (m : Memory) → cond b None (heap_call_in p) ≡ None → (cond b (continues (stop_by_tag (machine_of p m))) (with_service (after_svc p m))).machine.parts.heap ≡ p.heap
unfolding after_svc
flag-heap true p m e = refl
flag-heap false p m e = cases-heap (heap_call_in p) p m e

outcome-heap : (o : Outcome) (p : TenantParts) (m : Memory) → call_at o (machine_of p m) ≡ None → (after_outcome o (machine_of p m)).machine.parts.heap ≡ p.heap
unfolding after_outcome
outcome-heap outcome.Next p m e = refl
outcome-heap outcome.Svc p m e = flag-heap m.state.pending p m e
outcome-heap (outcome.Fault f) p m e = refl
outcome-heap (outcome.Illegal w) p m e = refl
outcome-heap (outcome.Breakpoint i) p m e = refl

pub attempt-heap : (n : ℕ) (m : Machine) → next_call m ≡ None → (after_attempt n m).machine.parts.heap ≡ m.parts.heap
unfolding after_attempt next_call
attempt-heap n m e =
    let o = (step_of m.parts.regs m.memory).outcome in
    let memory = (step_of m.parts.regs m.memory).memory in
    let q = with_regs m.parts (step_of m.parts.regs m.memory).regs in
    outcome-heap o (with_steps 1 n q) memory (sym (call-with-steps o n q memory) ∙ e)

-- ---- a slice

after-slice-end-by : (b : Bool) (m : Machine) (l : Live) → Sound (state_of m l) → Sound (state_of (cond b (stop_by_tag m) m) l)
after-slice-end-by true m l k = k
after-slice-end-by false m l k = k

after-slice-end-sound : (m : Machine) (l : Live) → Sound (state_of m l) → Sound (state_of (after_slice_end m) l)
unfolding after_slice_end
after-slice-end-sound m l k =
    let z : Machine = record m { parts = record m.parts { left = 0 } } in
    after-slice-end-by (runs z && z.memory.state.pending) z l k

states-by : (b : Bool) (m k : Machine) (l j : Live) → (b ≡ true → Sound (state_of m l)) → (b ≡ false → Sound (state_of k j)) → Sound (state_of (cond b m k) (cond b l j))
states-by true m k l j f g = f refl
states-by false m k l j f g = g refl

after-attempts-sound : (n : ℕ) (m : Machine) (l : Live) → Sound (state_of m l) → IsCareful n m l → Sound (state_of (after_attempts n m) (live_through n m l))
unfolding after_attempts live_through IsCareful
after-attempts-sound zero m l k c = k
after-attempts-sound (suc n) m l k c =
    let a = after_attempt n m in
    let j = live_after m l in
    states-by (runs m) (cond a.goes_on (after_attempts n a.machine) a.machine) m (cond a.goes_on (live_through n a.machine j) j) l
    (λ e.
    let sound = (after-attempt-kept n m l k (c.0 e)).sound in
    states-by a.goes_on (after_attempts n a.machine) a.machine (live_through n a.machine j) j (λ f. after-attempts-sound n a.machine j sound (c.1 e f)) (λ f. sound))
    (λ e. k)

pub after-slice-sound : (n : ℕ) (m : Machine) (l : Live) → Sound (state_of m l) → IsCareful n m l → Sound (state_of (after_slice n m) (live_through n m l))
unfolding after_slice
after-slice-sound n m l k c = after-slice-end-sound (after_attempts n m) (live_through n m l) (after-attempts-sound n m l k c)

-- ---- instructions in turn

pub steps-sound : {P : State → Type 0} {m k : Machine} {l j : Live} → Steps P m l k j → Sound (state_of m l) → Sound (state_of k j)
steps-sound stop s = s
steps-sound {P} (next {m = m} {k = k} {l = l} {j = j} n c p r) s = steps-sound r (after-attempt-kept n m l s c).sound

pub steps-stale : (f : Freed) {m k : Machine} {l j : Live} → Steps (HasFree f.place.class f.place.block) m l k j → Sound (state_of m l) → IsStale m.memory m.parts.heap.stacks f → IsStale k.memory k.parts.heap.stacks f
steps-stale f stop s st = st
steps-stale f (next {m = m} {k = k} {l = l} {j = j} n c p r) s st = let h = after-attempt-kept n m l s c in steps-stale f r h.sound (h.stale f st p)
