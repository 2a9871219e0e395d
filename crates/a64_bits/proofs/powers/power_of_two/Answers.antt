use Rattle.std.proofs.lemmas.Nat.{one_shl}
use Rattle.a64_bits.proofs.powers.power_of_two.Goals as goal

pub returns : goal.returns
returns c = one_shl c.args.exponent 64 c.requires
