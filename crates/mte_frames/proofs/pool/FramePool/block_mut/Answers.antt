use Rattle.std.proofs.Common.{refl, Some, drop}
use Rattle.std.specs.List.{refill}
use Rattle.mte_arena.specs.Blocks.{tags_of_bytes}
use Rattle.mte_arena.specs.Frames.{make_frame, frame_at}
use Rattle.mte_frames.specs.Whole.{pool_of}
use Rattle.mte_frames.proofs.Keeps.{keeps_written}
use Rattle.mte_frames.proofs.Moves.{written_pool}
use Rattle.mte_frames.proofs.pool.FramePool.block_mut.Goals as goal

pub invariant_of-self-lent : goal.invariant_of-self-lent
invariant_of-self-lent c = λ w. let fs = c.self.inside.arena in let f = c.args.f in
    written_pool c.self.inside f (make_frame (refill 4096 (frame_at fs f).bytes w) (refill 256 (frame_at fs f).tags (tags_of_bytes (drop 4096 w)))) c.self.invariant

pub returns : goal.returns
returns c = let p = pool_of c.self.inside in let f = c.args.f in let was = frame_at p.frames f in
    rw (← c.self.view_is) (
      (refl, λ w. refl),
      record {
        writes_back = tt;
        others = λ q ws out. keeps_written q f (Some (make_frame (refill 4096 was.bytes ws) (refill 256 was.tags (tags_of_bytes (drop 4096 ws))))) p out;
        value = c.block_mut.ensures.value;
        len = c.block_mut.ensures.len;
      },
    )
