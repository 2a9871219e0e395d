use Rattle.std.proofs.Common.{arith}
use Rattle.mte_tags.proofs.RandomBits.{four_bits, four_later}
use Rattle.mte_tags.proofs.generator.random_tag.Goals as goal

pub returns-clause-offset : goal.returns-clause-offset
returns-clause-offset c = omega (arith, four_bits c.args.seed.now)

pub returns-clause-seed : goal.returns-clause-seed
returns-clause-seed c = omega (arith, four_later c.args.seed.now (omega arith))
