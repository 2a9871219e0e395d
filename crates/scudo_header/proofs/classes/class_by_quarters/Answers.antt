use Rattle.std.proofs.Common.{arith}
use Rattle.scudo_header.proofs.ClassLemmas.{quarters_class}
use Rattle.scudo_header.proofs.classes.class_by_quarters.Goals as goal

pub overflow_cast-result : goal.overflow_cast-result
overflow_cast-result c =
    let l = quarters_class c.args.need c.ilog2-log.result c.from.result c.requires.above c.requires.most c.ilog2-log.ensures.power_le c.ilog2-log.ensures.next_power_gt c.from.ensures in
    omega (arith, l.high)

pub returns : goal.returns
returns c = quarters_class c.args.need c.ilog2-log.result c.from.result c.requires.above c.requires.most c.ilog2-log.ensures.power_le c.ilog2-log.ensures.next_power_gt c.from.ensures
