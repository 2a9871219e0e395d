use Rattle.std.proofs.Common.{◌-◌, arith}
use Rattle.debug_lines.proofs.NumberLemmas.{bits_below-step, bits_below-none, bits_below-all}
use Rattle.debug_lines.proofs.leb128.joined.Goals as goal

pub loop-i-init : goal.loop-i-init
loop-i-init c = bits_below-none c.args.number.now c.args.above (omega arith)

pub loop-i-preserved : goal.loop-i-preserved
loop-i-preserved c = bits_below-step c.args.number.now c.loop-i.i (c.loop-i.i - 1) c.args.above c.loop-i.value c.from.result (omega arith) (omega arith) c.loop-i.invariant c.from.ensures

pub returns : goal.returns
returns c = bits_below-all c.args.number.now c.loop-i.i c.args.above c.loop-i.value (omega arith) c.loop-i.invariant
