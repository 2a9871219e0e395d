use Rattle.std.proofs.Common.{arith}
use Rattle.a64_bits.proofs.OrderLemmas.{by_two, by_four, by_eight}
use Rattle.a64_bits.proofs.bit_orders.reverse_bytes.Goals as goal

pub returns-in-2 : goal.returns-in-2
returns-in-2 c =
    by_two c.args.group c.args.size c.args.x _ _ c.requires.size c.in-2.is c.requires.x c.swap_twice.ensures.same c.swap_twice-in-2.ensures.same c.swap_twice-in-2.ensures.below

pub returns-in-4 : goal.returns-in-4
returns-in-4 c =
    by_four c.args.group c.args.size c.args.x _ _ c.requires.size c.in-4.is c.requires.x c.swap_four.ensures.same c.swap_four-in-4.ensures.same c.swap_four-in-4.ensures.below

pub returns-in_default : goal.returns-in_default
returns-in_default c =
    by_eight c.args.group c.args.size c.args.x _ _ c.requires.size (omega arith) c.requires.fits c.requires.x c.swap_four-in_default.ensures.same c.swap_four-in_default-2.ensures.same c.swap_four-in_default.ensures.below
