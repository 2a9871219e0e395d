use Rattle.std.proofs.Common.{ℕ, List, ap, subst, sym, ◌∙◌, arith, slice_get}
use Rattle.scudo_primary.specs.Blocks.{IsBlock}
use Rattle.scudo_primary.specs.Pools.{ClassState, class_after_pop, is_member}
use Rattle.scudo_primary.specs.Inner.{list_at}
use Rattle.scudo_primary.proofs.ModelLemmas.{PoolDone, pool-done, class_at-slices, empty-stack, after-pop-empty, after-pop-used}
use Rattle.scudo_primary.proofs.pool.Primary.pop.Goals as goal

done : (c : goal.After-self-1) → PoolDone c.self.inside c.args.self.now c.deref.result.now c.unlink.new.entries c.unlink.new.lists c.args.class (λ (k : ClassState). class_after_pop c.args.class k k.stack)
done c =
    pool-done c.self.inside c.args.self.now c.deref_mut.result.now c.deref.result.now _ _ _ (λ (k : ClassState). class_after_pop c.args.class k k.stack) c.self.view_is c.self.invariant
    c.requires.class c.deref_mut.ensures.value c.deref_mut.ensures.len c.deref.ensures.value c.unlink.ensures.rest

pub returns-then-self-class-eq0-clause-answer : goal.returns-then-self-class-eq0-clause-answer
unfolding list_at
returns-then-self-class-eq0-clause-answer c =
    sym (ap (λ (t : List ℕ). slice_get t 0) (empty-stack c.self.inside c.args.self.now _ c.self.view_is c.requires.class c.if-self-class-eq0.true))

pub returns-then-self-class-eq0-clause-pool : goal.returns-then-self-class-eq0-clause-pool
unfolding list_at
returns-then-self-class-eq0-clause-pool c =
    after-pop-empty c.self.inside c.args.self.now _ c.self.view_is c.requires.class c.if-self-class-eq0.true

pub unlink-requires-clause-some : goal.unlink-requires-clause-some
unfolding list_at
unlink-requires-clause-some c = let n = c.if-self-class-eq0.false in omega arith

pub invariant_of-self : goal.invariant_of-self
invariant_of-self c = (done c).invariant

pub returns-clause-answer : goal.returns-clause-answer
returns-clause-answer c =
    sym (ap (λ (k : ClassState). slice_get k.stack 0) (class_at-slices c.self.inside c.args.self.now _ _ _ c.self.view_is c.requires.class c.deref_mut.ensures.value c.deref.ensures.value)
    ∙ c.unlink.ensures.top)

pub returns-clause-pool : goal.returns-clause-pool
returns-clause-pool c = (done c).view

pub returns-clause-block : goal.returns-clause-block
returns-clause-block c =
    let d = done c in
    subst (λ (k : ClassState). IsBlock c.args.class k.pages c.unlink.result) (sym d.now) (subst (λ n. IsBlock c.args.class n c.unlink.result) (sym d.pages) c.unlink.ensures.block)

pub returns-clause-unlisted : goal.returns-clause-unlisted
returns-clause-unlisted c =
    ap (λ (k : ClassState). is_member k.stack c.unlink.result) (done c).now ∙ c.unlink.ensures.unlisted

pub returns-clause-used : goal.returns-clause-used
returns-clause-used c =
    let at = class_at-slices c.self.inside c.args.self.now _ _ _ c.self.view_is c.requires.class c.deref_mut.ensures.value c.deref.ensures.value in
    after-pop-used c.args.self.now _ c.args.class c.unlink.result (done c).view (ap (λ (k : ClassState). slice_get k.stack 0) at ∙ c.unlink.ensures.top)
