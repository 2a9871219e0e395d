use Rattle.std.proofs.Common.{rules}
use Rattle.a64_asm.proofs.rows.pair_post.Goals as goal

pub returns : goal.returns
returns c = search rules depth 16
