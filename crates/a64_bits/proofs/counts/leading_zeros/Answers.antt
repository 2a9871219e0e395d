use Rattle.a64_bits.proofs.CountLemmas.{count_leading_zeros-64}
use Rattle.a64_bits.proofs.counts.leading_zeros.Goals as goal

pub overflow_sub-result-2 : goal.overflow_sub-result-2
overflow_sub-result-2 c = (count_leading_zeros-64 c.args.size c.args.x c.requires.size c.requires.x).0

pub returns : goal.returns
returns c = (count_leading_zeros-64 c.args.size c.args.x c.requires.size c.requires.x).1
