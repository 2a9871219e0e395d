use Rattle.std.proofs.Common.{◌<◌, ◌∷◌, [], length, ap, arith}
use Rattle.std.proofs.lemmas.List.{length-append}
use Rattle.scudo_primary.specs.Batches.{max_count_of}
use Rattle.scudo_primary.proofs.ClassLemmas.{put-state, put-loose, put-distinct}
use Rattle.scudo_primary.proofs.cache.add.Goals as goal

pub returns-clause-state : goal.returns-clause-state
returns-clause-state c = put-state _ _ c.args.class c.args.block _ _ c.mark_free.ensures.pool c.push.ensures

pub returns-clause-held : goal.returns-clause-held
returns-clause-held c =
    let h = c.requires.held in
    let room : length c.args.entries.now < max_count_of c.args.class = c.requires.room in
    let more = length-append c.args.entries.now (c.args.block ∷ []) in
    let t = ap length c.push.ensures in
    record {
      cached = put-loose c.args.pool.now c.mark_free.new.self c.args.class c.args.block c.args.entries.now c.push.new.self c.mark_free.ensures.pool c.push.ensures c.requires.carved c.requires.used
          (c.mark_free.ensures.cached c.requires.used) h.cached;
      distinct = put-distinct c.args.pool.now c.args.class c.args.block c.args.entries.now c.push.new.self c.push.ensures c.requires.used h.cached h.distinct;
      most = omega arith;
    }
