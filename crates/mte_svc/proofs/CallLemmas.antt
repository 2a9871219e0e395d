-- A heap call that was answered, and one that aborted.
use Rattle.std.proofs.Common.{◌≡◌, ℕ, ◌∙◌, Ok, Err, refl, sym, ap}
use Rattle.mte_tags.specs.Memory.{Memory}
use Rattle.mte_tags.specs.declared.generator.Rgsr.{Rgsr}
use Rattle.scudo_heap.specs.Heaps.{HeapState}
use Rattle.scudo_heap.specs.declared.abort.HeapAbort.{HeapAbort}
use Rattle.scudo_heap.specs.declared.call.HeapCall.{HeapCall}
use Rattle.scudo_heap.specs.Placing.{World, world_of}
use Rattle.scudo_heap.specs.Calls.{after_call}
use Rattle.scudo_heap.proofs.CallLemmas.{call_stays}
use Rattle.mte_svc.specs.declared.parts.TenantParts.{TenantParts}
use Rattle.mte_svc.specs.declared.services.SvcEnd.{SvcEnd}
use Rattle.mte_svc.specs.declared.services.SvcEnd.TheVariants.{Resume, Abort}
use Rattle.mte_svc.specs.Results.{Served, x_of, with_answer, with_logged_call, ends}
use Rattle.mte_svc.specs.HeapServices.{world_in, heap_service_cases, after_heap_service}

-- a tenant's parts with a heap and a generator
abbrev pub with_both : TenantParts → HeapState → Rgsr → TenantParts
with_both p h r = record p { heap = h; regs = record p.regs { rgsr = r } }

-- the parts and the memory that a service leaves, and how it ends
abbrev served_of : TenantParts → Memory → SvcEnd → Served
served_of p m end = record { parts = p; memory = m; end = end }

-- what the call of the heap leaves, and its answer
abbrev IsCallOf : TenantParts → Memory → HeapCall → Memory → HeapState → Rgsr → Type 0
IsCallOf p m call m' h' r' = world_of m' h' r' ≡ (after_call (world_in p m) call).world

answered_cases : (p p' : TenantParts) (m : Memory) (call : HeapCall) (answer : ℕ) (w : World) (m' : Memory) (h' : HeapState) (r' : Rgsr)
    → world_of m' h' r' ≡ w → p' ≡ with_answer (with_logged_call (with_both p h' r') (record { call = call; answer = answer })) answer
    → served_of p' m' Resume ≡ heap_service_cases p m call w (Ok answer)
answered_cases p p' m call answer w m' h' r' world parts = rw (parts, ← world) refl

pub answered_from : (p p' : TenantParts) (m : Memory) (call : HeapCall) (answer : ℕ) (m' : Memory) (h' : HeapState) (r' : Rgsr)
    → IsCallOf p m call m' h' r' → Ok answer ≡ (after_call (world_in p m) call).answer
    → p' ≡ with_answer (with_logged_call (with_both p h' r') (record { call = call; answer = answer })) answer
    → served_of p' m' Resume ≡ after_heap_service p m call
unfolding after_heap_service
answered_from p p' m call answer m' h' r' world is parts =
    let w = (after_call (world_in p m) call).world in
    answered_cases p p' m call answer w m' h' r' world parts ∙ ap (heap_service_cases p m call w) is

-- the same tenant and memory
aborted_cases : (p : TenantParts) (m m' : Memory) (h' : HeapState) (r' : Rgsr) (end : SvcEnd)
    → world_of m' h' r' ≡ world_in p m → served_of (with_both p h' r') m' end ≡ ends p m end
aborted_cases p m m' h' r' end world = ap (λ (w : World). served_of (with_both p w.heap w.rgsr) w.memory end) world

pub aborted_from : (p : TenantParts) (m : Memory) (call : HeapCall) (abort : HeapAbort) (m' : Memory) (h' : HeapState) (r' : Rgsr)
    → IsCallOf p m call m' h' r' → Err abort ≡ (after_call (world_in p m) call).answer
    → served_of (with_both p h' r') m' (Abort abort (x_of p 0)) ≡ after_heap_service p m call
unfolding after_heap_service
aborted_from p m call abort m' h' r' world is =
    let w = world_in p m in
    aborted_cases p m m' h' r' (Abort abort (x_of p 0)) (world ∙ call_stays w call abort (sym is))
    ∙ ap (heap_service_cases p m call (after_call w call).world) is
