use Rattle.std.proofs.Common.{subst}
use Rattle.std.specs.List.{All}
use Rattle.scudo_primary.specs.Pools.{ClassState, IsLoose, class_after_push_batch}
use Rattle.scudo_primary.proofs.ModelLemmas.{PoolDone, pool-done, class_at-slices}
use Rattle.scudo_primary.proofs.pool.Primary.push_batch.Goals as goal

pub link_batch-requires-clause-blocks : goal.link_batch-requires-clause-blocks
link_batch-requires-clause-blocks c =
    subst (λ (k : ClassState). All (IsLoose k c.args.class) c.args.blocks.now)
    (class_at-slices c.self.inside c.args.self.now _ _ _ c.self.view_is c.requires.class c.deref_mut.ensures.value c.deref.ensures.value) c.requires.cached

done : (c : goal.After-self-1) → PoolDone c.self.inside c.args.self.now c.deref.result.now c.link_batch.new.entries c.link_batch.new.lists c.args.class (λ (k : ClassState). class_after_push_batch k c.args.blocks.now)
done c =
    pool-done c.self.inside c.args.self.now c.deref_mut.result.now c.deref.result.now _ _ _ (λ (k : ClassState). class_after_push_batch k c.args.blocks.now) c.self.view_is c.self.invariant
    c.requires.class c.deref_mut.ensures.value c.deref_mut.ensures.len c.deref.ensures.value c.link_batch.ensures

pub returns : goal.returns
returns c = (done c).view

pub invariant_of-self : goal.invariant_of-self
invariant_of-self c = (done c).invariant
