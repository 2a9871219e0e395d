use Rattle.std.proofs.Common.{arith}
use Rattle.scudo_heap.proofs.FirstLemmas.{served-new}
use Rattle.tombolopan.proofs.heap_bench.HeapBench.new.Goals as goal

pub invariant_of-result : goal.invariant_of-result
invariant_of-result c =
    (served-new c.in_ok-memory.memory c.in_ok-heap.heap c.args.cookie c.from.result c.args.pages c.args.mode c.in_ok-memory.ensures.empty c.in_ok-heap.ensures (omega (arith, c.from.ensures)), c.requires.tag)
