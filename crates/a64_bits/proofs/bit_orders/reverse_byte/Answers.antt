use Rattle.std.proofs.Common.{◌∙◌}
use Rattle.a64_bits.proofs.OrderLemmas.{reversed_byte}
use Rattle.a64_bits.proofs.bit_orders.reverse_byte.Goals as goal

pub returns-clause-same : goal.returns-clause-same
returns-clause-same c = c.from.ensures ∙ reversed_byte c.args.x
