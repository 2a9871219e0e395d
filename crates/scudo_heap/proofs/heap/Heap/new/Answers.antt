use Rattle.std.proofs.Common.{sym, subst}
use Rattle.scudo_heap.specs.Heaps.{heap_of}
use Rattle.scudo_heap.specs.Inner.{AreHeapParts}
use Rattle.scudo_heap.proofs.FirstLemmas.{parts-first}
use Rattle.scudo_heap.proofs.heap.Heap.new.Goals as goal

pub invariant_of-result : goal.invariant_of-result
invariant_of-result c =
    subst AreHeapParts (λ i. heap_of c.args.cookie (sym c.in_ok-stacks.ensures i) (sym c.in_ok-maps.ensures i))
    (parts-first c.args.cookie c.args.pages c.requires.most)
