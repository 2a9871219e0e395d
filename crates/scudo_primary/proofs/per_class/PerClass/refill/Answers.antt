use Rattle.std.proofs.Common.{◌≡◌, ◌∙◌, length, rules, arith}
use Rattle.scudo_primary.specs.Pools.{top_batch, without_batch}
use Rattle.scudo_primary.proofs.ListLemmas.{max_count-high}
use Rattle.scudo_primary.specs.CacheInner.{class_with}
use Rattle.scudo_primary.proofs.ClassLemmas.{after-refill-none, front, class-same}
use Rattle.scudo_primary.proofs.per_class.PerClass.refill.Goals as goal

pub returns-clause-state : goal.returns-clause-state
returns-clause-state c =
    let k = c.args.class in
    let p = c.args.pool.now in
    let r = c.pop_batch-self-inside in
    let most = r.ensures.most in
    let high = max_count-high k in
    let before : length c.self.inside.blocks ≡ 28 = search rules in
    let after : length r.new.buffer ≡ 28 = search rules in
    class-same (class_with (top_batch p k) (without_batch p k)) _ _
    (front 28 r.result (top_batch p k) c.self.inside.blocks r.new.buffer before after (omega arith) r.ensures.blocks) r.ensures.pool
    ∙ after-refill-none k c.args.self.now p c.requires.empty
