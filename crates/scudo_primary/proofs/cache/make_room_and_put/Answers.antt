use Rattle.std.proofs.Common.{◌∙◌, ap}
use Rattle.scudo_primary.specs.Caches.{Class, after_put}
use Rattle.scudo_primary.proofs.ClassLemmas.{block-still, used-still}
use Rattle.scudo_primary.proofs.cache.make_room_and_put.Goals as goal

pub add-requires-clause-carved : goal.add-requires-clause-carved
add-requires-clause-carved c = block-still c.args.class c.args.block c.args.entries.now c.args.pool.now c.make_room.new.pool (ap (λ (k : Class). k.pool) c.make_room.ensures.state) c.requires.carved

pub add-requires-clause-used : goal.add-requires-clause-used
add-requires-clause-used c = used-still c.args.class c.args.block c.args.entries.now c.args.pool.now c.make_room.new.pool (ap (λ (k : Class). k.pool) c.make_room.ensures.state) c.requires.used

pub returns-clause-state : goal.returns-clause-state
returns-clause-state c = c.add.ensures.state ∙ ap (after_put c.args.class c.args.block) c.make_room.ensures.state
