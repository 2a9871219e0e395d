use Rattle.std.proofs.Common.{◌∙◌, sym, ap}
use Rattle.scudo_heap.specs.Stacks.{ClassHeap}
use Rattle.scudo_heap.proofs.StackLemmas.{at-inside}
use Rattle.scudo_heap.proofs.stacks.Stacks.pages.Goals as goal

pub returns-clause-pages : goal.returns-clause-pages
returns-clause-pages c = c.pages.ensures.pages ∙ ap (λ (k : ClassHeap). k.pages) (sym (at-inside c.self.inside c.args.self.now c.args.class c.self.view_is c.requires.class))
