use Rattle.std.proofs.Common.{◌<◌, ◌≤◌, ◌∙◌, length, sym, arith}
use Rattle.tombolopan_c.proofs.HeapReplays.{bad_here, bad_next, bad_none}
use Rattle.tombolopan_c.proofs.lent_step.find_bad.Goals as goal

pub returns-then-not-is_good : goal.returns-then-not-is_good
returns-then-not-is_good c =
    let at : c.loop-i.i < length c.args.steps.now = omega (arith, c.loop-i-test.true) in
    sym (bad_here c.args.steps.now c.loop-i.i _ at (sym c.is_good.ensures ∙ c.if-not-is_good.true)) ∙ c.loop-i.invariant

pub loop-i-preserved : goal.loop-i-preserved
loop-i-preserved c =
    let at : c.loop-i.i < length c.args.steps.now = omega (arith, c.loop-i-test.true) in
    sym (bad_next c.args.steps.now c.loop-i.i _ at (sym c.is_good.ensures ∙ c.if-not-is_good.false)) ∙ c.loop-i.invariant

pub returns : goal.returns
returns c =
    let all : length c.args.steps.now ≤ c.loop-i.i = omega (arith, c.loop-i-test.false) in
    sym (bad_none c.args.steps.now c.loop-i.i all) ∙ c.loop-i.invariant
