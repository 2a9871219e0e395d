use Rattle.std.proofs.Common.{arith}
use Rattle.mte_frames.proofs.Counts.{all_used}
use Rattle.mte_frames.proofs.pool.unused_number.Goals as goal

pub returns-clause-none : goal.returns-clause-none
returns-clause-none c = λ e. all_used c.args.reserved.now (λ k l. c.loop-i.invariant k (omega (arith, l, c.loop-i-test.false)))
