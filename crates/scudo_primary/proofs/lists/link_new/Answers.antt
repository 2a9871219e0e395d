use Rattle.std.proofs.Common.{◌-◌, arith}
use Rattle.scudo_primary.proofs.CarveLemmas.{partial-init, partial-step, partial-end, partial-block, partial-below, partial-unlisted, partial-room, block-sum, last-half}
use Rattle.scudo_primary.proofs.lists.link_new.Goals as goal

pub loop-n-init : goal.loop-n-init
loop-n-init c = partial-init _ _ _ _ _ _ c.requires.table c.requires.order c.requires.all

pub overflow_mul-n : goal.overflow_mul-n
overflow_mul-n c =
    let b = partial-below _ _ _ _ _ _ _ _ _ _ c.requires.class c.requires.all c.loop-n.invariant c.loop-n-test.true
    (block-sum c.args.class (c.loop-n.n - 1) _ _ c.region_start-start.ensures c.size_of_class-size.ensures.size) in
    omega arith

pub overflow_add-start : goal.overflow_add-start
overflow_add-start c =
    let b = partial-below _ _ _ _ _ _ _ _ _ _ c.requires.class c.requires.all c.loop-n.invariant c.loop-n-test.true
    (block-sum c.args.class (c.loop-n.n - 1) _ _ c.region_start-start.ensures c.size_of_class-size.ensures.size) in
    omega arith

pub link-requires-clause-block : goal.link-requires-clause-block
link-requires-clause-block c =
    partial-block _ _ _ _ _ _ _ _ _ _ c.requires.class c.requires.all c.loop-n.invariant c.loop-n-test.true
    (block-sum c.args.class (c.loop-n.n - 1) _ _ c.region_start-start.ensures c.size_of_class-size.ensures.size)

pub link-requires-clause-unlisted : goal.link-requires-clause-unlisted
link-requires-clause-unlisted c =
    partial-unlisted _ _ _ _ _ _ _ _ _ _ c.requires.class c.loop-n.invariant c.loop-n-test.true
    (block-sum c.args.class (c.loop-n.n - 1) _ _ c.region_start-start.ensures c.size_of_class-size.ensures.size) c.requires.new

pub link-requires-clause-room : goal.link-requires-clause-room
link-requires-clause-room c =
    partial-room _ _ _ _ _ _ _ _ _ _ c.requires.class c.requires.table c.loop-n.invariant c.loop-n-test.true (last-half _ _ _ _ _ c.max_count.ensures c.is_last-last.ensures)

pub loop-n-preserved : goal.loop-n-preserved
loop-n-preserved c =
    partial-step _ _ _ _ _ _ _ _ _ _ _ _ _ c.requires.class c.requires.all c.loop-n.invariant c.loop-n-test.true
    (block-sum c.args.class (c.loop-n.n - 1) _ _ c.region_start-start.ensures c.size_of_class-size.ensures.size) (last-half _ _ _ _ _ c.max_count.ensures c.is_last-last.ensures) c.link.ensures

pub returns : goal.returns
returns c = partial-end _ _ _ _ _ _ _ _ _ c.loop-n.invariant c.loop-n-test.false
