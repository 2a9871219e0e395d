use Rattle.a64_bits.proofs.OrderLemmas.{reversed_word, reversed_doubleword, doubleword_size}
use Rattle.a64_bits.proofs.bit_orders.reverse_bits.Goals as goal

pub returns-then-size-eq32 : goal.returns-then-size-eq32
returns-then-size-eq32 c = reversed_word c.args.size c.args.x _ c.if-size-eq32.true c.reverse_word.ensures.same

pub returns-else-size-eq32 : goal.returns-else-size-eq32
returns-else-size-eq32 c =
    reversed_doubleword c.args.size c.args.x _ _ (doubleword_size c.args.size c.requires.size c.if-size-eq32.false) c.reverse_word-else-size-eq32.ensures.same c.reverse_word-else-size-eq32-2.ensures.same c.reverse_word-else-size-eq32.ensures.below
