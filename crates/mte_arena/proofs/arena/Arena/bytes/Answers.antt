use Rattle.std.proofs.Common.{sym, ap, arith, length-take}
use Rattle.mte_arena.specs.Frames.{Frame}
use Rattle.mte_arena.proofs.Frames.{present, frame_at-is}
use Rattle.mte_arena.proofs.arena.Arena.bytes.Goals as goal

pub block-block-requires : goal.block-block-requires
block-block-requires c = (sym c.self.invariant.start, present c.self.inside.region.blocks c.args.f (rw c.self.view_is c.requires))

pub slice_bounds-result-end : goal.slice_bounds-result-end
slice_bounds-result-end c = omega (arith, length-take 4096 c.block-block.result.now, c.block-block.ensures.len)

pub returns-clause-value : goal.returns-clause-value
returns-clause-value c = rw (← c.self.view_is) (sym (ap (λ (p : Frame). p.bytes) (frame_at-is c.self.inside.region.blocks c.args.f c.block-block.result.now c.block-block.ensures.value)))

pub returns-clause-len : goal.returns-clause-len
returns-clause-len c = omega (arith, length-take 4096 c.block-block.result.now, c.block-block.ensures.len)
