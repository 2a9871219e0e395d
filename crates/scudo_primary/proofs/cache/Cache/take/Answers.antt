use Rattle.std.proofs.Common.{◌≡◌, ◌∙◌, drop, slice_get, sym, ap, subst}
use Rattle.scudo_primary.specs.Pools.{class_at, pages_of}
use Rattle.scudo_primary.specs.Caches.{Class, entries_of, with_entries, stack_over, one_stack, after_refill, newest, after_take, class_after_take, KeepsRest}
use Rattle.scudo_primary.specs.CacheInner.{class_with}
use Rattle.scudo_primary.proofs.ClassLemmas.{KeepsOthers, keeps-taken, rest-taken}
use Rattle.scudo_primary.proofs.CacheLemmas.{at-class, entries-in, held-at, view-with, put-back}
use Rattle.scudo_primary.proofs.StackLemmas.{marks-taken, stack-taken, stack-is, keeps-rest}
use Rattle.scudo_primary.proofs.cache.Cache.take.Goals as goal

read : (c : goal.After-self-1) → c.index_mut.result.now ≡ entries_of c.args.self.now c.args.class
read c =
    at-class c.self.inside c.args.self.now c.args.class c.index_mut.result.now c.self.invariant c.self.view_is c.requires.class c.index_mut.ensures.value
    ∙ entries-in c.self.inside c.args.self.now c.args.class c.self.view_is c.requires.class

pub take_from-requires-clause-held : goal.take_from-requires-clause-held
take_from-requires-clause-held c =
    held-at c.self.inside c.args.self.now c.args.pool.now c.args.class c.index_mut.result.now c.self.invariant c.self.view_is c.requires.class c.requires.above
    (at-class c.self.inside c.args.self.now c.args.class c.index_mut.result.now c.self.invariant c.self.view_is c.requires.class c.index_mut.ensures.value)

pub invariant_of-self : goal.invariant_of-self
invariant_of-self c = put-back c.self.inside c.args.class c.take_from.new.entries c.self.invariant c.requires.class c.take_from.ensures.held.most c.take_from.ensures.held.distinct

-- what the class is left with
after : (c : goal.After-self-1) → class_with c.take_from.new.entries c.take_from.new.pool ≡ class_after_take c.args.self.now c.args.pool.now c.args.class
after c = c.take_from.ensures.state ∙ ap (λ xs. after_take c.args.class (after_refill c.args.class xs c.args.pool.now)) (read c)

pub returns-clause-answer : goal.returns-clause-answer
returns-clause-answer c = c.take_from.ensures.answer ∙ ap (λ xs. newest (after_refill c.args.class xs c.args.pool.now).entries) (read c)

pub returns-clause-cache : goal.returns-clause-cache
returns-clause-cache c =
    view-with c.self.inside c.args.self.now c.args.class c.take_from.new.entries c.self.invariant c.self.view_is c.requires.class
    ∙ ap (λ (k : Class). with_entries c.args.self.now c.args.class k.entries) (after c)

pub returns-clause-pool : goal.returns-clause-pool
returns-clause-pool c = ap (λ (k : Class). k.pool) (after c)

pub returns-clause-top : goal.returns-clause-top
returns-clause-top c = c.take_from.ensures.top ∙ ap (λ xs. slice_get (stack_over xs c.args.pool.now c.args.class) 0) (read c)

pub returns-clause-rest : goal.returns-clause-rest
returns-clause-rest c =
    let k = c.args.class in
    let v = c.args.self.now in
    let p = c.args.pool.now in
    let p' = c.take_from.new.pool in
    let ys = c.take_from.new.entries in
    let xs = entries_of v k in
    let kept : KeepsOthers k p p' = subst (λ (t : Class). KeepsOthers k p t.pool) (sym (after c)) (keeps-taken k xs p) in
    let marks = ap (λ (t : Class). (class_at t.pool k).marks) (after c) ∙ marks-taken k xs p in
    let e = sym (returns-clause-answer c) ∙ returns-clause-top c in
    let rest : stack_over ys p' k ≡ drop 1 (one_stack v p k) = ap (λ (t : Class). stack_over t.entries t.pool k) (after c) ∙ rest-taken k xs p e in
    subst (λ t. KeepsRest k v p t p') (sym (view-with c.self.inside v k ys c.self.invariant c.self.view_is c.requires.class))
    (keeps-rest v p p' k ys c.requires.above kept c.take_from.ensures.held.cached
    (λ h. stack-is k _ _ _ _ _ _ marks kept.pages rest (stack-taken k (pages_of p k) (class_at p k).marks _ (one_stack v p k) e (h.each k c.requires.class.low c.requires.class.high))))
