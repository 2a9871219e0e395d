use Rattle.std.proofs.Common.{sym, subst}
use Rattle.scudo_primary.specs.Blocks.{AreBlocks}
use Rattle.scudo_heap.specs.Stacks.{ClassHeap}
use Rattle.scudo_heap.proofs.StackLemmas.{at-inside}
use Rattle.scudo_heap.proofs.stacks.Stacks.recall.Goals as goal

pub returns : goal.returns
returns c = record {
  each = λ k lo hi.
      let at = at-inside c.self.inside c.args.self.now k c.self.view_is (record { low = lo; high = hi }) in
      subst (λ (t : ClassHeap). AreBlocks k t.pages t.stack) (sym at) (c.self.invariant.stacks.each k lo hi).blocks;
}
