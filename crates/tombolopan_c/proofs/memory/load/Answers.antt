use Rattle.std.proofs.Common.{sym, subst}
use Rattle.scudo_heap.specs.Served.{HeapOwnsItsPages}
use Rattle.scudo_heap.proofs.FirstLemmas.{served-read}
use Rattle.tombolopan_c.proofs.memory.load.Goals as goal

pub returns-in-Ok-clause-served : goal.returns-in-Ok-clause-served
returns-in-Ok-clause-served g c =
    λ h s. subst (λ t. HeapOwnsItsPages t h) (sym c.in-Ok.ensures.memory) (served-read _ c.args.act.now.addr 8 _ h s)
