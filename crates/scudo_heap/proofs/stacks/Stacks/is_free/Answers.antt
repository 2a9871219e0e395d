use Rattle.std.proofs.Common.{◌∙◌, sym, ap, subst}
use Rattle.scudo_primary.specs.Blocks.{IsBlock}
use Rattle.scudo_primary.specs.Pools.{is_member}
use Rattle.scudo_heap.specs.Stacks.{ClassHeap}
use Rattle.scudo_heap.proofs.StackLemmas.{at-inside}
use Rattle.scudo_heap.proofs.stacks.Stacks.is_free.Goals as goal

pub is_free-requires-clause-carved : goal.is_free-requires-clause-carved
is_free-requires-clause-carved c = subst (λ (k : ClassHeap). IsBlock c.args.class k.pages c.args.block) (at-inside c.self.inside c.args.self.now c.args.class c.self.view_is c.requires.class) c.requires.carved

pub returns : goal.returns
returns c = c.is_free.ensures.answer ∙ ap (λ (k : ClassHeap). is_member k.stack c.args.block) (sym (at-inside c.self.inside c.args.self.now c.args.class c.self.view_is c.requires.class))
