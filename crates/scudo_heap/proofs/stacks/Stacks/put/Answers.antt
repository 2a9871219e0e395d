use Rattle.std.proofs.Common.{◌∙◌, sym, ap, subst}
use Rattle.scudo_primary.specs.Blocks.{IsBlock, is_member}
use Rattle.scudo_heap.specs.Stacks.{ClassHeap}
use Rattle.scudo_heap.proofs.StackLemmas.{at-inside, view-after-push}
use Rattle.scudo_heap.proofs.stacks.Stacks.put.Goals as goal

pub put-requires-clause-carved : goal.put-requires-clause-carved
put-requires-clause-carved c = subst (λ (k : ClassHeap). IsBlock c.args.class k.pages c.args.block) (at-inside c.self.inside c.args.self.now c.args.class c.self.view_is c.requires.class) c.requires.carved

pub put-requires-clause-used : goal.put-requires-clause-used
put-requires-clause-used c =
    let at = (at-inside c.self.inside c.args.self.now c.args.class c.self.view_is c.requires.class) in
    (c.self.invariant.stacks.each c.args.class c.requires.class.low c.requires.class.high).marked c.args.block (subst (λ (k : ClassHeap). IsBlock c.args.class k.pages c.args.block) at c.requires.carved)
    ∙ ap (λ (k : ClassHeap). is_member k.stack c.args.block) (sym at) ∙ c.requires.used

pub invariant_of-self : goal.invariant_of-self
invariant_of-self c = record { above = c.put.ensures.rest.above; stacks = c.put.ensures.rest.stacks c.self.invariant.stacks }

pub returns : goal.returns
returns c =
    view-after-push c.self.inside (record { pool = c.put.new.pool; cache = c.put.new.self }) c.args.self.now c.args.class c.args.block c.self.view_is c.requires.class
    c.put.ensures.rest c.put.ensures.cache c.put.ensures.pool
