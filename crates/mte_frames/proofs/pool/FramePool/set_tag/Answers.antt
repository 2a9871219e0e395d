use Rattle.std.proofs.Common.{slice_set}
use Rattle.mte_arena.specs.Frames.{make_frame, frame_at}
use Rattle.mte_frames.proofs.Moves.{written_pool}
use Rattle.mte_frames.proofs.pool.FramePool.set_tag.Goals as goal

pub invariant_of-self : goal.invariant_of-self
invariant_of-self c = let fs = c.self.inside.arena in let f = c.args.f in
    rw c.set_tag.ensures (written_pool c.self.inside f (make_frame (frame_at fs f).bytes (slice_set (frame_at fs f).tags c.args.g c.args.tag)) c.self.invariant)
