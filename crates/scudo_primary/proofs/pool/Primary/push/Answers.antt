use Rattle.std.proofs.Common.{◌≡◌, false, get_or, subst}
use Rattle.scudo_primary.specs.Blocks.{IsBlock, number_of}
use Rattle.scudo_primary.specs.Pools.{ClassState, class_after_push}
use Rattle.scudo_primary.proofs.ListLemmas.{max_count-pos}
use Rattle.scudo_primary.proofs.ModelLemmas.{PoolDone, pool-done, table-same, class_at-slices, used-unlisted}
use Rattle.scudo_primary.proofs.pool.Primary.push.Goals as goal

done : (c : goal.After-self-1) → PoolDone c.self.inside c.args.self.now c.deref.result.now c.link.new.entries c.link.new.lists c.args.class (λ (k : ClassState). class_after_push c.args.class k c.args.block)
done c =
    pool-done c.self.inside c.args.self.now c.deref_mut.result.now c.deref.result.now _ _ _ (λ (k : ClassState). class_after_push c.args.class k c.args.block) c.self.view_is c.self.invariant
    c.requires.class c.deref_mut.ensures.value c.deref_mut.ensures.len c.deref.ensures.value c.link.ensures

pub link-requires-clause-block : goal.link-requires-clause-block
link-requires-clause-block c =
    subst (λ (k : ClassState). IsBlock c.args.class k.pages c.args.block)
    (class_at-slices c.self.inside c.args.self.now _ _ _ c.self.view_is c.requires.class c.deref_mut.ensures.value c.deref.ensures.value) c.requires.carved

pub link-requires-clause-unlisted : goal.link-requires-clause-unlisted
link-requires-clause-unlisted c =
    let t = table-same c.self.inside _ _ c.self.invariant c.deref_mut.ensures.value c.deref.ensures.value in
    let at = class_at-slices c.self.inside c.args.self.now _ _ _ c.self.view_is c.requires.class c.deref_mut.ensures.value c.deref.ensures.value in
    used-unlisted _ _ _ _ _ (t.linked _ c.requires.class) (subst (λ (k : ClassState). IsBlock c.args.class k.pages c.args.block) at c.requires.carved)
    (subst (λ (k : ClassState). get_or k.marks (number_of c.args.class c.args.block) false ≡ false) at c.requires.used)

pub link-requires-clause-room : goal.link-requires-clause-room
link-requires-clause-room c =
    let t = table-same c.self.inside _ _ c.self.invariant c.deref_mut.ensures.value c.deref.ensures.value in
    (max_count-pos c.args.class, (t.linked _ c.requires.class).batches)

pub returns : goal.returns
returns c = (done c).view

pub invariant_of-self : goal.invariant_of-self
invariant_of-self c = (done c).invariant
