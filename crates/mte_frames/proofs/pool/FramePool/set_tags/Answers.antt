use Rattle.mte_frames.proofs.Moves.{written_pool}
use Rattle.mte_frames.proofs.pool.FramePool.set_tags.Goals as goal

pub invariant_of-self : goal.invariant_of-self
invariant_of-self c =
    rw c.set_tags.ensures (written_pool c.self.inside c.args.f _ c.self.invariant)
