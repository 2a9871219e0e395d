use Rattle.std.proofs.Common.{◌≡◌, ◌≤◌, ◌/◌, ◌∙◌, length, take, drop, nat_eq, sym, ap, subst, arith}
use Rattle.std.specs.List.{IsDistinct}
use Rattle.scudo_primary.specs.Batches.{max_count_of}
use Rattle.scudo_primary.specs.Pools.{with_batch}
use Rattle.scudo_primary.proofs.EntryLemmas.{distinct-take}
use Rattle.scudo_primary.proofs.ClassLemmas.{class-same, halved_class, room-full, held-room}
use Rattle.scudo_primary.proofs.cache.make_room.Goals as goal

pub push_batch-requires-clause-batch : goal.push_batch-requires-clause-batch
push_batch-requires-clause-batch c =
    let f : length c.args.entries.now ≡ max_count_of c.args.class = c.requires.full in
    let a : c.max_count-half.result ≡ max_count_of c.args.class = c.max_count-half.ensures in
    let l : c.max_count-half.result / 2 ≤ length c.args.entries.now = omega arith in
    let e = c.oldest.ensures in
    record {
      some = grind arith;
      most = grind arith;
      distinct = subst (IsDistinct nat_eq) (sym c.oldest.ensures) (distinct-take (c.max_count-half.result / 2) c.args.entries.now l c.requires.held.distinct);
    }

pub returns-clause-state : goal.returns-clause-state
returns-clause-state c =
    let f : length c.args.entries.now ≡ max_count_of c.args.class = c.requires.full in
    let a : c.max_count-half.result ≡ max_count_of c.args.class = c.max_count-half.ensures in
    class-same (halved_class c.args.class c.args.entries.now c.args.pool.now) _ _ (c.drop_oldest.ensures ∙ ap (λ n. drop (n / 2) c.args.entries.now) a)
    (c.push_batch.ensures ∙ ap (with_batch c.args.pool.now c.args.class) c.oldest.ensures
    ∙ ap (λ n. with_batch c.args.pool.now c.args.class (take (n / 2) c.args.entries.now)) a)
    ∙ room-full c.args.class c.args.entries.now c.args.pool.now f

pub returns-clause-held : goal.returns-clause-held
returns-clause-held c = held-room _ _ c.args.class c.args.entries.now _ c.requires.full (returns-clause-state c) c.requires.held
