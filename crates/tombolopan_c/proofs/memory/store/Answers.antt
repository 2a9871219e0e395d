use Rattle.std.proofs.Common.{sym, subst}
use Rattle.scudo_heap.specs.Served.{HeapOwnsItsPages}
use Rattle.scudo_heap.proofs.FirstLemmas.{served-write}
use Rattle.tombolopan_c.proofs.memory.store.Goals as goal

pub returns-in-Ok-clause-served : goal.returns-in-Ok-clause-served
returns-in-Ok-clause-served g c =
    λ h s. subst (λ t. HeapOwnsItsPages t h) (sym c.in-Ok.ensures.memory) (served-write _ c.args.act.now.addr _ _ h s)
