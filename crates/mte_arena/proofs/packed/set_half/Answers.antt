use Rattle.std.proofs.Common.{arith}
use Rattle.mte_arena.proofs.Tags.{tag_set}
use Rattle.mte_arena.proofs.packed.set_half.Goals as goal

pub returns-clause-tags : goal.returns-clause-tags
returns-clause-tags c = tag_set c.args.packed.now c.args.g _ c.with_half.result c.args.tag (omega (arith, c.requires.within)) c.with_half.ensures.own c.with_half.ensures.other
