use Rattle.std.proofs.Common.{◌∙◌, ap}
use Rattle.scudo_primary.specs.Caches.{Class, newest, after_take}
use Rattle.scudo_primary.proofs.ClassLemmas.{top-refilled}
use Rattle.scudo_primary.proofs.cache.refill_and_take.Goals as goal

pub returns-clause-answer : goal.returns-clause-answer
returns-clause-answer c = c.hand_out.ensures.answer ∙ ap (λ (k : Class). newest k.entries) c.refill.ensures.state

pub returns-clause-state : goal.returns-clause-state
returns-clause-state c = c.hand_out.ensures.state ∙ ap (after_take c.args.class) c.refill.ensures.state

pub returns-clause-top : goal.returns-clause-top
returns-clause-top c = top-refilled c.args.class c.args.entries.now c.args.pool.now _ _ c.refill.ensures.state c.hand_out.ensures.top
