use Rattle.mte_frames.proofs.pool.FramePool.frames.Goals as goal

pub returns-clause-sized : goal.returns-clause-sized
returns-clause-sized c = rw (← c.self.view_is) c.frames.ensures.sized
