use Rattle.a64_bits.proofs.FieldLemmas.{masked}
use Rattle.std.proofs.Common.{arith}
use Rattle.a64_bits.proofs.fields.field.Goals as goal

pub returns : goal.returns
returns c = masked _ c.args.width (omega arith)
