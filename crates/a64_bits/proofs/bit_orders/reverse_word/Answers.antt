use Rattle.a64_bits.proofs.OrderLemmas.{reversed_four}
use Rattle.a64_bits.proofs.bit_orders.reverse_word.Goals as goal

pub returns-clause-same : goal.returns-clause-same
returns-clause-same c =
    reversed_four c.args.x _ _ _ _ c.reverse_byte.ensures.below c.reverse_byte-2.ensures.below c.reverse_byte-3.ensures.below c.reverse_byte-4.ensures.below c.reverse_byte.ensures.same c.reverse_byte-2.ensures.same c.reverse_byte-3.ensures.same c.reverse_byte-4.ensures.same
