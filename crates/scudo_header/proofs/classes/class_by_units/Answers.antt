use Rattle.std.proofs.Common.{arith}
use Rattle.scudo_header.proofs.ClassLemmas.{least_by_units}
use Rattle.scudo_header.proofs.classes.class_by_units.Goals as goal

pub returns : goal.returns
returns c = let m = c.max.ensures in let r = c.requires in least_by_units c.args.need _ (omega arith) (omega arith) (omega arith) (λ p. omega arith)
