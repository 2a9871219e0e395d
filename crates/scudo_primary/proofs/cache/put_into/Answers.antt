use Rattle.std.proofs.Common.{◌<◌, ◌∙◌, length, rules, ap}
use Rattle.scudo_primary.specs.Batches.{max_count_of}
use Rattle.scudo_primary.specs.Caches.{after_put}
use Rattle.scudo_primary.proofs.ClassLemmas.{room-left}
use Rattle.scudo_primary.proofs.cache.put_into.Goals as goal

-- there is room, so no half moves
pub returns-clause-state : goal.returns-clause-state
returns-clause-state c =
    let l : length c.args.entries.now < max_count_of c.args.class = search rules in
    c.add.ensures.state ∙ ap (after_put c.args.class c.args.block) (room-left c.args.class c.args.entries.now c.args.pool.now l)
