use Rattle.std.proofs.Common.{sym, subst}
use Rattle.scudo_primary.specs.Blocks.{IsBlock}
use Rattle.scudo_heap.specs.Stacks.{ClassHeap}
use Rattle.scudo_heap.proofs.StackLemmas.{at-inside}
use Rattle.scudo_heap.proofs.stacks.Stacks.is_block.Goals as goal

pub returns : goal.returns
returns c =
    let at = (at-inside c.self.inside c.args.self.now c.args.class c.self.view_is c.requires.class) in (
      λ t. subst (λ (k : ClassHeap). IsBlock c.args.class k.pages c.args.block) (sym at) (c.is_block.ensures.0 t),
      λ b. c.is_block.ensures.1 (subst (λ (k : ClassHeap). IsBlock c.args.class k.pages c.args.block) at b),
    )
