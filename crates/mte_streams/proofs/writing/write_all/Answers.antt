use Rattle.std.proofs.Common.{arith, rules, ◌≤◌, ◌-◌, length, length-take, length-drop}
use Rattle.mte_streams.proofs.WriteLemmas.{part_after, none_after, more_after, left_after}
use Rattle.mte_streams.proofs.writing.write_all.Goals as goal

pub returns-in-Err : goal.returns-in-Err
returns-in-Err g c = part_after _ _ _ c.args.text.now c.loop-done.done _ c.loop-done.invariant.wrote c.in-Err.ensures.log

pub returns-in-Ok-eq0 : goal.returns-in-Ok-eq0
returns-in-Ok-eq0 g c =
    none_after _ _ _ c.args.text.now c.loop-done.done c.in-Ok-eq0.field-0 (search rules) c.loop-done-test.true c.loop-done.invariant.wrote c.in-Ok-eq0.ensures.log

pub loop-done-preserved : goal.loop-done-preserved
loop-done-preserved g c =
    let long : length (left_after c.args.text.now c.loop-done.done) ≤ length c.args.text.now - c.loop-done.done = simp (length-take, length-drop) (omega arith) in
    let count : c.in-Ok.count ≤ length c.args.text.now - c.loop-done.done = omega (arith, c.in-Ok.ensures.count) in
    record {
      within = omega arith;
      wrote = more_after _ _ _ c.args.text.now c.loop-done.done c.in-Ok.count c.in-Ok.count-test.1 count c.loop-done.invariant.wrote c.in-Ok.ensures.log;
    }
