use Rattle.std.proofs.Common.{◌<◌, ◌≤◌, ◌-◌, length, get_or, arith}
use Rattle.mte_script.proofs.ScriptLemmas.{value_step, digits_step, below_step, decimal_end}
use Rattle.mte_script.proofs.text.decimal.Goals as goal

pub loop-byte-preserved : goal.loop-byte-preserved
loop-byte-preserved c =
    let is = c.from-code.ensures in
    let least : 48 ≤ get_or c.args.word.now c.loop-byte.byte-index 0 = omega (arith, is, c.if-code-lt48.false) in
    let most : get_or c.args.word.now c.loop-byte.byte-index 0 ≤ 57 = omega (arith, is, c.if-code-gt57.false) in
    let small : c.from-code.result - 48 ≤ 9 = omega (arith, c.if-code-gt57.false) in
    record {
      rest = rw is (value_step c.args.word.now c.loop-byte.byte-index 0 c.loop-byte.value c.loop-byte-test.true c.loop-byte.invariant.rest);
      digits = digits_step c.args.word.now c.loop-byte.byte-index 0 _ c.loop-byte-test.true least most c.loop-byte.invariant.digits;
      below = below_step c.loop-byte.value c.loop-byte.byte-index (c.from-code.result - 48) c.loop-byte.invariant.below small;
    }

pub returns : goal.returns
returns c =
    let some : 0 < length c.args.word.now = grind arith in
    decimal_end c.args.word.now c.loop-byte.byte-index c.loop-byte.value some c.if-word-gt10.false c.loop-byte-test.false c.loop-byte.invariant.rest c.loop-byte.invariant.digits
