use Rattle.std.proofs.Common.{refl, sym, arith}
use Rattle.std.specs.List.{refill}
use Rattle.mte_arena.specs.Blocks.{block_at, frame_of, with_part}
use Rattle.mte_arena.specs.Frames.{make_frame}
use Rattle.mte_arena.proofs.Frames.{present}
use Rattle.mte_arena.proofs.Written.{block_long, frame_at-block, still_arena, frame_with_data, frames_written}
use Rattle.mte_arena.proofs.arena.Arena.data_mut.Goals as goal

pub part_mut-requires : goal.part_mut-requires
part_mut-requires c = (sym c.self.invariant.start, present c.self.inside.region.blocks c.args.f (rw c.self.view_is c.requires), omega arith)

pub invariant_of-self-lent : goal.invariant_of-self-lent
invariant_of-self-lent c = λ w. still_arena c.self.inside c.args.f 0 4096 w c.self.invariant (present c.self.inside.region.blocks c.args.f (rw c.self.view_is c.requires)) (omega arith)

pub returns : goal.returns
returns c =
    let cs = c.self.inside.region.blocks in let f = c.args.f in let there = present cs f (rw c.self.view_is c.requires) in
    let xs = block_at cs f in let long = block_long cs f c.self.invariant.sized there in
    rw (← c.self.view_is, frame_at-block cs f there) (
      (refl, λ w. frames_written cs f (with_part xs 0 4096 w) (make_frame (refill 4096 (frame_of xs).bytes w) (frame_of xs).tags) (frame_with_data xs w long)),
      record { writes_back = tt; value = c.part_mut.ensures.value; len = c.part_mut.ensures.len },
    )
