-- No service changes a page that is mapped without WRITE.
use Rattle.std.proofs.Common.{◌≡◌, ℕ, ◌≤◌, ◌==◌, min, Bool, true, false, cond, take, length, Option, Some, None, Result, Ok, Err, refl, ap, ◌∙◌, ◌⊎◌, inl, inr, arith}
use Rattle.std.proofs.lemmas.List.{length-take-le}
use Rattle.mte_tags.specs.Memory.{Memory, attrs_at}
use Rattle.mte_tags.specs.Accesses.{read_fault, write_fault}
use Rattle.mte_tags.specs.declared.fault.MemFault.{MemFault}
use Rattle.mte_tags.specs.Fixed.{lacks_write, is_fixed, KeepsFixed}
use Rattle.mte_tags.proofs.FixedPages.{fixed_same, fixed-after_read, fixed-after_write}
use Rattle.scudo_heap.specs.declared.abort.HeapAbort.{HeapAbort}
use Rattle.scudo_heap.specs.Heaps.{HeapState}
use Rattle.scudo_heap.specs.Placing.{World}
use Rattle.scudo_heap.specs.declared.call.HeapCall.{HeapCall}
use Rattle.scudo_heap.specs.Calls.{after_call}
use Rattle.scudo_heap.specs.Served.{HeapOwnsItsPages}
use Rattle.scudo_heap.specs.Others.{KeepsOthers}
use Rattle.scudo_heap.specs.Sound.{IsSound}
use Rattle.scudo_heap.proofs.OtherPages.{range_pages}
use Rattle.scudo_heap.proofs.CallLemmas.{call_others}
use Rattle.mte_svc.specs.declared.parts.TenantParts.{TenantParts}
use Rattle.mte_svc.specs.declared.services.TheConstants.{EXIT, WRITE, READ, YIELD, STEPS_LEFT, PAGES_LEFT}
use Rattle.mte_svc.specs.Results.{Served, x_of}
use Rattle.mte_svc.specs.HeapServices.{heap_call_in, world_in, heap_service_cases, after_heap_service}
use Rattle.mte_svc.specs.Services.{write_cases, write_count, after_write_service, read_cases, read_count, after_read_service, by_number, after_other_service, service_cases, after_svc}

-- a page of the heap's ranges has WRITE, if it is mapped
has-write : (o : Option ℕ) → (o ≡ None) ⊎ (o ≡ Some 11) → lacks_write o ≡ true → ⊥
has-write o (inl e) h = let f : lacks_write o ≡ false = ap lacks_write e in cc
has-write o (inr e) h = let f : lacks_write o ≡ false = ap lacks_write e in cc

fixed_others : (m n : Memory) (h : HeapState) → HeapOwnsItsPages m h → KeepsOthers m n → KeepsFixed m n
unfolding is_fixed
fixed_others m n h v k = λ q f. k q (λ l u. has-write (attrs_at m q) (range_pages m h q v l u) f)

-- ---- write and read

fixed-write-cases : (f : Option MemFault) (p : TenantParts) (m : Memory) (n : ℕ) → KeepsFixed m (write_cases f p m n).memory
fixed-write-cases (Some f) p m n = fixed_same m
fixed-write-cases None p m n = fixed-after_read m (x_of p 0) n true

fixed-after-write-service : (p : TenantParts) (m : Memory) → KeepsFixed m (after_write_service p m).memory
unfolding after_write_service
fixed-after-write-service p m = fixed-write-cases (read_fault m (x_of p 0) (write_count p) true) p m (write_count p)

fixed-read-cases : (f : Option MemFault) (p : TenantParts) (m : Memory) (n : ℕ) → write_fault m (x_of p 0) n true ≡ f → n ≤ length p.input → KeepsFixed m (read_cases f p m n).memory
fixed-read-cases (Some f) p m n e l = fixed_same m
fixed-read-cases None p m n e l =
    fixed-after_write m (x_of p 0) (take n p.input) true
    (ap (λ k. write_fault m (x_of p 0) k true) (length-take-le n p.input l) ∙ e)

least : (a b : ℕ) → min a b ≤ b
least a b = omega arith

fixed-read : (p : TenantParts) (m : Memory) → KeepsFixed m (after_read_service p m).memory
unfolding after_read_service
fixed-read p m = fixed-read-cases (write_fault m (x_of p 0) (read_count p) true) p m (read_count p) refl (least (x_of p 1) (length p.input))

-- ---- the heap

fixed-call-cases : (p : TenantParts) (m : Memory) (call : HeapCall) (w : World) (r : Result ℕ HeapAbort) → KeepsFixed m w.memory → KeepsFixed m (heap_service_cases p m call w r).memory
fixed-call-cases p m call w (Err e) k = fixed_same m
fixed-call-cases p m call w (Ok a) k = k

fixed-call : (p : TenantParts) (m : Memory) (call : HeapCall) → HeapOwnsItsPages m p.heap → IsSound p.heap → KeepsFixed m (after_heap_service p m call).memory
unfolding after_heap_service
fixed-call p m call v s =
    let r = after_call (world_in p m) call in
    fixed-call-cases p m call r.world r.answer (fixed_others m _ p.heap v (call_others (world_in p m) call v s))

-- ---- all services

either : (b : Bool) (m : Memory) (s t : Served) → KeepsFixed m s.memory → KeepsFixed m t.memory → KeepsFixed m (cond b s t).memory
either true m s t h k = h
either false m s t h k = k

fixed-by_number : (n : ℕ) (p : TenantParts) (m : Memory) → KeepsFixed m (by_number n p m).memory
fixed-by_number n p m =
    either (n == EXIT) m _ _ (fixed_same m)
    (either (n == WRITE) m _ _ (fixed-after-write-service p m)
    (either (n == READ) m _ _ (fixed-read p m)
    (either (n == YIELD) m _ _ (fixed_same m)
    (either (n == STEPS_LEFT) m _ _ (fixed_same m)
    (either (n == PAGES_LEFT) m _ _ (fixed_same m) (fixed_same m))))))

fixed-cases : (o : Option HeapCall) (p : TenantParts) (m : Memory) → HeapOwnsItsPages m p.heap → IsSound p.heap → KeepsFixed m (service_cases o p m).memory
unfolding after_other_service
fixed-cases (Some call) p m v s = fixed-call p m call v s
fixed-cases None p m v s = fixed-by_number (x_of p 8) p m

pub services_fixed : (p : TenantParts) (m : Memory) → HeapOwnsItsPages m p.heap → IsSound p.heap → KeepsFixed m (after_svc p m).memory
unfolding after_svc
services_fixed p m v s = fixed-cases (heap_call_in p) p m v s
