use Rattle.std.proofs.Common.{false}
use Rattle.scudo_primary.specs.Pools.{ClassState, class_with_mark}
use Rattle.scudo_primary.proofs.ModelLemmas.{PoolDone, placed, mark-done}
use Rattle.scudo_primary.proofs.pool.Primary.mark_used.Goals as goal

pub set_mark-requires-clause-number : goal.set_mark-requires-clause-number
set_mark-requires-clause-number c = record {
  class = c.requires.class;
  inside = c.requires.carved.inside;
  slot = (placed c.self.inside c.args.self.now _ _ _ _ c.self.view_is c.self.invariant c.requires.class c.deref_mut.ensures.value c.deref.ensures.value c.requires.carved).slot;
}

pub set_mark-requires-clause-place : goal.set_mark-requires-clause-place
set_mark-requires-clause-place c =
    (placed c.self.inside c.args.self.now _ _ _ _ c.self.view_is c.self.invariant c.requires.class c.deref_mut.ensures.value c.deref.ensures.value c.requires.carved).place

done : (c : goal.After-self-1) → PoolDone c.self.inside c.args.self.now c.deref.result.now c.set_mark.new.entries c.self.inside.lists c.args.class (λ (k : ClassState). class_with_mark c.args.class k c.args.block false)
done c =
    mark-done c.self.inside c.args.self.now _ _ _ _ _ false c.self.view_is c.self.invariant c.requires.class
    c.deref_mut.ensures.value c.deref_mut.ensures.len c.deref.ensures.value c.requires.carved (λ e. c.requires.unlisted) c.set_mark.ensures

pub returns : goal.returns
returns c = (done c).view

pub invariant_of-self : goal.invariant_of-self
invariant_of-self c = (done c).invariant
