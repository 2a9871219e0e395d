use Rattle.std.proofs.Common.{sym, subst}
use Rattle.scudo_heap.proofs.StackLemmas.{view-after-carve, no-entries}
use Rattle.scudo_primary.specs.Caches.{IsAbove, AreStacks}
use Rattle.scudo_primary.proofs.CacheLaws.{above-with_pages}
use Rattle.scudo_primary.proofs.StackLemmas.{stacks-with_pages}
use Rattle.scudo_heap.proofs.stacks.Stacks.carve.Goals as goal

pub invariant_of-self : goal.invariant_of-self
invariant_of-self c =
    let f = c.self.inside in
    let e = c.carve.ensures in
    record {
      above = subst (IsAbove f.cache) (sym e) (above-with_pages f.cache f.pool c.args.class c.args.pages c.requires.class.low c.requires.class.high c.self.invariant.above);
      stacks = subst (AreStacks f.cache) (sym e) (stacks-with_pages f.cache f.pool c.args.class c.args.pages c.requires.class.low c.requires.class.high (no-entries f c.args.self.now c.args.class c.self.view_is c.requires.class c.requires.empty) c.self.invariant.stacks);
    }

pub returns : goal.returns
returns c = view-after-carve c.self.inside c.carve.new.self c.args.self.now c.args.class c.args.pages c.self.view_is c.requires.class c.requires.empty c.carve.ensures
