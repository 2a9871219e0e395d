-- The first machine of a tenant.
use Rattle.std.proofs.Common.{◌≡◌, ℕ, ◌/◌, ◌^◌, ◌<◌, ◌∙◌, refl, ap, sym, subst, arith}
use Rattle.mte_tags.specs.Memory.{Memory}
use Rattle.scudo_heap.specs.Heaps.{empty_heap}
use Rattle.scudo_heap.specs.Served.{HeapOwnsItsPages}
use Rattle.mte_svc.specs.declared.parts.TenantParts.{TenantParts}
use Rattle.mte_tenant.specs.Machines.{Start, first_parts, first_registers}
use Rattle.mte_svc.specs.Ready.{IsReady}

pub heap_at_first : (id : ℕ) (start : Start) → (first_parts id start).heap ≡ empty_heap (start.terms.seed / 2 ^ 32) start.terms.pages
unfolding first_parts
heap_at_first id start = refl

pub tag_at_first : (id : ℕ) (start : Start) → (first_parts id start).regs.rgsr.tag < 16
unfolding first_parts first_registers
tag_at_first id start = omega arith

pub first_ready : (id : ℕ) (start : Start) (parts : TenantParts) (m : Memory) → parts ≡ first_parts id start → HeapOwnsItsPages m (empty_heap (start.terms.seed / 2 ^ 32) start.terms.pages) → IsReady parts m
first_ready id start parts m e served = record {
  heap = subst (λ h. HeapOwnsItsPages m h) (sym (ap (λ (q : TenantParts). q.heap) e ∙ heap_at_first id start)) served;
  tag = subst (λ (q : TenantParts). q.regs.rgsr.tag < 16) (sym e) (tag_at_first id start);
}
