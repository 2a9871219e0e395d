use Rattle.std.proofs.Common.{◌≡◌, ◌∙◌, ◌+◌, sym, subst, arith}
use Rattle.mte_frames.specs.Pool.{KeepsOthers, taken_by, reserved_by}
use Rattle.mte_translate.specs.Tables.{missing_leaf, IsTable, KeepsData}
use Rattle.mte_space.specs.Spaces.{IsSpace}
use Rattle.mte_space.proofs.MapSteps.{room_for_two, taken_table, taken_apart, taken_unmapped, taken_room, Mapped, mapped}
use Rattle.mte_space.proofs.mapping.map_page.Goals as goal

pub take-frame-requires : goal.take-frame-requires
take-frame-requires c = omega (arith, room_for_two c.args.pool.now c.args.quota.now c.args.table.now c.args.limit c.requires.space c.requires.left)

pub map-requires-clause-table : goal.map-requires-clause-table
map-requires-clause-table c =
    let take = c.take-frame.ensures in
    subst (λ k. IsTable c.take-frame.new.self k c.args.table.now) (sym take.same)
    (taken_table c.args.pool.now _ c.args.quota.now c.take-frame.result c.args.page c.args.limit c.args.table.now c.requires.space c.recall.ensures.sound c.requires.left take.vacant take.within take.pool)

pub map-requires-clause-unmapped : goal.map-requires-clause-unmapped
map-requires-clause-unmapped c =
    let take = c.take-frame.ensures in
    taken_unmapped c.args.pool.now _ c.args.quota.now c.take-frame.result c.args.page c.args.limit c.args.table.now c.requires.space c.recall.ensures.sound c.requires.left take.vacant take.within take.pool c.requires.unmapped

pub map-requires-clause-apart : goal.map-requires-clause-apart
map-requires-clause-apart c =
    let take = c.take-frame.ensures in
    taken_apart c.args.pool.now _ c.args.quota.now c.take-frame.result c.args.page c.args.limit c.args.table.now c.requires.space c.recall.ensures.sound c.requires.left take.vacant take.within take.pool

pub map-requires-clause-room : goal.map-requires-clause-room
map-requires-clause-room c =
    let take = c.take-frame.ensures in
    rw take.same (taken_room c.args.pool.now _ c.args.quota.now c.take-frame.result c.args.page c.args.limit c.args.table.now c.requires.space c.recall.ensures.sound c.requires.left take.vacant take.within take.pool)

done : (c : goal.After-map) → Mapped c.args.pool.now c.map.new.pool c.args.quota.now c.args.page c.args.limit c.args.attrs c.args.table.now c.map.new.self
done c =
    let take = c.take-frame.ensures in
    let map = c.map.ensures in
    let n = c.take-frame.new.self in
    let m = c.map.new.pool in
    let root = c.args.table.now.frame in
    mapped c.args.pool.now n c.args.quota.now c.take-frame.result c.args.page c.args.limit c.args.table.now c.requires.space c.recall.ensures.sound c.requires.left take.vacant take.within take.pool
    m c.args.attrs c.map.new.self c.requires.unmapped take.out take.still_out
    (subst (λ k. IsTable m k c.map.new.self) (map.same ∙ take.same) map.table) map.pages map.counts map.once
    (subst (λ k. taken_by m k ≡ taken_by n k + missing_leaf n root c.args.page) take.same map.taken)
    (subst (λ k. reserved_by m k ≡ reserved_by n k) take.same map.reserved)
    (subst (λ k. KeepsData k root n m) take.same map.kept)
    take.others (subst (λ k. KeepsOthers k n m) take.same map.others) map.capacities

pub returns-clause-space : goal.returns-clause-space
returns-clause-space c = subst (λ k. IsSpace c.map.new.pool k c.map.new.self c.args.limit) (sym (c.map.ensures.same ∙ c.take-frame.ensures.same)) (done c).space

pub returns-clause-memory : goal.returns-clause-memory
returns-clause-memory c = (done c).memory

pub returns-clause-others : goal.returns-clause-others
returns-clause-others c = (done c).others

pub returns-clause-cached : goal.returns-clause-cached
returns-clause-cached c = (done c).cached

pub returns-clause-rest : goal.returns-clause-rest
returns-clause-rest c = (done c).rest
