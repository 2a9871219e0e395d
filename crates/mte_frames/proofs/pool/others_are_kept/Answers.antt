use Rattle.std.specs.List.{refill}
use Rattle.std.proofs.Common.{Some, drop}
use Rattle.mte_arena.specs.Blocks.{tags_of_bytes}
use Rattle.mte_arena.specs.Frames.{make_frame, frame_at}
use Rattle.mte_frames.proofs.Keeps.{keeps_self, keeps_on, keeps_written}
use Rattle.mte_frames.proofs.pool.others_are_kept.Goals as goal

pub returns-clause-still : goal.returns-clause-still
returns-clause-still c = keeps_self

pub returns-clause-on : goal.returns-clause-on
returns-clause-on c = keeps_on

pub returns-clause-lent : goal.returns-clause-lent
returns-clause-lent c = λ q f ws p out. let was = frame_at p.frames f in (
  keeps_written q f (Some (make_frame (refill 4096 was.bytes ws) was.tags)) p out,
  keeps_written q f (Some (make_frame (refill 4096 was.bytes ws) (refill 256 was.tags (tags_of_bytes (drop 4096 ws))))) p out,
)
