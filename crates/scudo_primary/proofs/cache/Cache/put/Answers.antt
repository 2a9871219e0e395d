use Rattle.std.proofs.Common.{◌≡◌, ◌∙◌, ◌∷◌, ap, subst, sym}
use Rattle.scudo_primary.specs.Pools.{class_at, pages_of}
use Rattle.scudo_primary.specs.Caches.{Class, entries_of, with_entries, stack_over, one_stack, with_room, after_put, class_after_put, KeepsRest}
use Rattle.scudo_primary.specs.CacheInner.{class_with}
use Rattle.scudo_primary.proofs.ClassLemmas.{KeepsOthers, keeps-put, stack-put}
use Rattle.scudo_primary.proofs.CacheLemmas.{at-class, entries-in, held-at, view-with, put-back}
use Rattle.scudo_primary.proofs.StackLemmas.{marks-put, stack-pushed, stack-is, keeps-rest}
use Rattle.scudo_primary.proofs.cache.Cache.put.Goals as goal

read : (c : goal.After-self-1) → c.index_mut.result.now ≡ entries_of c.args.self.now c.args.class
read c =
    at-class c.self.inside c.args.self.now c.args.class c.index_mut.result.now c.self.invariant c.self.view_is c.requires.class c.index_mut.ensures.value
    ∙ entries-in c.self.inside c.args.self.now c.args.class c.self.view_is c.requires.class

pub put_into-requires-clause-held : goal.put_into-requires-clause-held
put_into-requires-clause-held c =
    held-at c.self.inside c.args.self.now c.args.pool.now c.args.class c.index_mut.result.now c.self.invariant c.self.view_is c.requires.class c.requires.above
    (at-class c.self.inside c.args.self.now c.args.class c.index_mut.result.now c.self.invariant c.self.view_is c.requires.class c.index_mut.ensures.value)

pub invariant_of-self : goal.invariant_of-self
invariant_of-self c = put-back c.self.inside c.args.class c.put_into.new.entries c.self.invariant c.requires.class c.put_into.ensures.held.most c.put_into.ensures.held.distinct

-- what the class is left with
after : (c : goal.After-self-1) → class_with c.put_into.new.entries c.put_into.new.pool ≡ class_after_put c.args.self.now c.args.pool.now c.args.class c.args.block
after c = c.put_into.ensures.state ∙ ap (λ xs. after_put c.args.class c.args.block (with_room c.args.class xs c.args.pool.now)) (read c)

pub returns-clause-cache : goal.returns-clause-cache
returns-clause-cache c =
    view-with c.self.inside c.args.self.now c.args.class c.put_into.new.entries c.self.invariant c.self.view_is c.requires.class
    ∙ ap (λ (k : Class). with_entries c.args.self.now c.args.class k.entries) (after c)

pub returns-clause-pool : goal.returns-clause-pool
returns-clause-pool c = ap (λ (k : Class). k.pool) (after c)

pub returns-clause-rest : goal.returns-clause-rest
returns-clause-rest c =
    let k = c.args.class in
    let b = c.args.block in
    let v = c.args.self.now in
    let p = c.args.pool.now in
    let p' = c.put_into.new.pool in
    let ys = c.put_into.new.entries in
    let xs = entries_of v k in
    let kept : KeepsOthers k p p' = subst (λ (t : Class). KeepsOthers k p t.pool) (sym (after c)) (keeps-put k b xs p) in
    let marks = ap (λ (t : Class). (class_at t.pool k).marks) (after c) ∙ marks-put k b xs p in
    let stack : stack_over ys p' k ≡ b ∷ one_stack v p k = ap (λ (t : Class). stack_over t.entries t.pool k) (after c) ∙ stack-put k b xs p in
    subst (λ t. KeepsRest k v p t p') (sym (view-with c.self.inside v k ys c.self.invariant c.self.view_is c.requires.class))
    (keeps-rest v p p' k ys c.requires.above kept c.put_into.ensures.held.cached
    (λ h. stack-is k _ _ _ _ _ _ marks kept.pages stack (stack-pushed k (pages_of p k) (class_at p k).marks b (one_stack v p k) c.requires.carved c.requires.used (h.each k c.requires.class.low c.requires.class.high))))
