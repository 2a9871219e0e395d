use Rattle.std.proofs.Common.{◌∙◌, slice_get, IfSome, sym, ap, subst}
use Rattle.scudo_primary.specs.Blocks.{IsBlock}
use Rattle.scudo_heap.specs.Stacks.{ClassHeap}
use Rattle.scudo_heap.proofs.StackLemmas.{at-inside, view-after-pop, after-pop-none, none-is}
use Rattle.scudo_heap.proofs.stacks.Stacks.take.Goals as goal

pub invariant_of-self : goal.invariant_of-self
invariant_of-self c = record { above = c.take.ensures.rest.above; stacks = c.take.ensures.rest.stacks c.self.invariant.stacks }

pub returns-clause-answer : goal.returns-clause-answer
returns-clause-answer c = c.take.ensures.top ∙ ap (λ (k : ClassHeap). slice_get k.stack 0) (sym (at-inside c.self.inside c.args.self.now c.args.class c.self.view_is c.requires.class))

pub returns-clause-stacks : goal.returns-clause-stacks
returns-clause-stacks c =
    view-after-pop c.self.inside (record { pool = c.take.new.pool; cache = c.take.new.self }) c.args.self.now c.args.class c.self.view_is c.requires.class
    c.take.ensures.rest (sym c.take.ensures.answer ∙ c.take.ensures.top) c.take.ensures.cache c.take.ensures.pool

pub returns-clause-block : goal.returns-clause-block
returns-clause-block c =
    subst (λ n. IfSome c.take.result (IsBlock c.args.class n))
    (c.take.ensures.rest.pages c.args.class ∙ ap (λ (k : ClassHeap). k.pages) (sym (at-inside c.self.inside c.args.self.now c.args.class c.self.view_is c.requires.class))) c.take.ensures.block

pub returns-clause-none : goal.returns-clause-none
returns-clause-none c = λ n.
    returns-clause-stacks c
    ∙ after-pop-none c.self.inside c.args.self.now c.args.class c.self.view_is c.requires.class
    (sym (returns-clause-answer c) ∙ none-is c.take.result n)
