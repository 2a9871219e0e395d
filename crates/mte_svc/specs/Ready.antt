-- When a tenant's heap and its tag generator may be used with a memory.
use Rattle.std.specs.Prelude.{◌<◌}
use Rattle.mte_tags.specs.Memory.{Memory}
use Rattle.scudo_heap.specs.Served.{HeapOwnsItsPages}
use Rattle.mte_svc.specs.declared.parts.TenantParts.{TenantParts}

-- heap: the condition of the heap's calls
-- tag: the last tag that was drawn is one
pub record IsReady (p : TenantParts) (m : Memory) : Type 0 where
  pub heap : HeapOwnsItsPages m p.heap
  pub tag : p.regs.rgsr.tag < 16
