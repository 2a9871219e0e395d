use Rattle.std.proofs.Common.{◌≡◌, ◌<◌, ◌∙◌, length, rules, ap}
use Rattle.scudo_primary.specs.Caches.{Class, after_refill, newest, after_take}
use Rattle.scudo_primary.specs.CacheInner.{class_with}
use Rattle.scudo_primary.proofs.ClassLemmas.{after-refill-some}
use Rattle.scudo_primary.proofs.cache.take_from.Goals as goal

-- there is an entry, so nothing is refilled
at-hand : (c : goal.After-hand_out) → class_with c.args.entries.now c.args.pool.now ≡ after_refill c.args.class c.args.entries.now c.args.pool.now
at-hand c =
    let l : 0 < length c.args.entries.now = search rules in
    after-refill-some c.args.class c.args.entries.now c.args.pool.now l

pub returns-clause-answer : goal.returns-clause-answer
returns-clause-answer c = c.hand_out.ensures.answer ∙ ap (λ (k : Class). newest k.entries) (at-hand c)

pub returns-clause-state : goal.returns-clause-state
returns-clause-state c = c.hand_out.ensures.state ∙ ap (after_take c.args.class) (at-hand c)
