use Rattle.std.proofs.lemmas.Nat.{and_mask}
use Rattle.a64_bits.proofs.powers.low_bits.Goals as goal

pub returns : goal.returns
returns c = rw c.ones.ensures (and_mask c.args.value c.args.width)
