use Rattle.std.proofs.Common.{◌≡◌, ◌-◌, ap, subst, ◌∙◌, arith, slice_set, None}
use Rattle.mte_frames.specs.Pool.{Pool, make_pool, KeepsOthers, taken_by}
use Rattle.mte_frames.proofs.Keeps.{keeps_on}
use Rattle.mte_translate.specs.Tables.{IsTable}
use Rattle.mte_sched.proofs.MemoryLemmas.{root_left, none_left, sum_less, reserved_stays}
use Rattle.mte_sched.proofs.memory.stop_memory.Goals as goal

pub release-requires-clause-nothing_out : goal.release-requires-clause-nothing_out
release-requires-clause-nothing_out c =
    let m = c.unmap_all.new.pool in
    let u = c.unmap_all.new.table in
    let k = c.args.memory.quota in
    let one : taken_by m k ≡ 1 =
    root_left c.args.pool.now m c.args.tlb.now c.args.asid c.args.pages c.args.memory u c.requires c.unmap_all.ensures.rest
    (subst (λ q. IsTable m q u) c.unmap_all.ensures.same c.unmap_all.ensures.space.table) c.unmap_all.ensures.none in
    let closed : c.close.new.pool ≡ make_pool m.capacities m.frames (slice_set m.owners u.frame None) m.reserved (slice_set m.taken k (taken_by m k - 1)) =
    subst (λ q. c.close.new.pool ≡ make_pool m.capacities m.frames (slice_set m.owners u.frame None) m.reserved (slice_set m.taken q (taken_by m q - 1))) c.unmap_all.ensures.same c.close.ensures.pool in
    ap (taken_by c.close.new.pool) (c.close.ensures.same ∙ c.unmap_all.ensures.same) ∙ none_left m c.close.new.pool k _ one closed

pub returns-clause-others : goal.returns-clause-others
returns-clause-others c =
    let k = c.args.memory.quota in
    keeps_on k c.args.pool.now c.unmap_all.new.pool c.release.new.self c.unmap_all.ensures.rest.others
    (keeps_on k c.unmap_all.new.pool c.close.new.pool c.release.new.self
    (subst (λ q. KeepsOthers q c.unmap_all.new.pool c.close.new.pool) c.unmap_all.ensures.same c.close.ensures.others)
    (subst (λ q. KeepsOthers q c.close.new.pool c.release.new.self) (c.close.ensures.same ∙ c.unmap_all.ensures.same) c.release.ensures.others))

pub returns-clause-reserved : goal.returns-clause-reserved
returns-clause-reserved c =
    let same = c.close.ensures.same ∙ c.unmap_all.ensures.same in
    sum_less c.args.pool.now c.close.new.pool c.release.new.self c.args.memory.quota _ (omega arith) c.requires.charged
    (ap (λ (x : Pool). x.reserved) c.close.ensures.pool ∙ reserved_stays c.args.pool.now c.unmap_all.new.pool c.args.memory.quota c.recall.ensures.sound c.recall-2.ensures.sound c.unmap_all.ensures.rest.others c.unmap_all.ensures.rest.reserved)
    (ap (λ (x : Pool). x.reserved) c.release.ensures.pool ∙ ap (λ q. slice_set c.close.new.pool.reserved q 0) same)
