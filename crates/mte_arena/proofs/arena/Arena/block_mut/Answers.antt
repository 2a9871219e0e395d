use Rattle.std.proofs.Common.{refl, sym, ap, ◌∙◌, arith, drop}
use Rattle.std.specs.List.{refill}
use Rattle.mte_arena.specs.Blocks.{tags_of_bytes, block_at, frame_of, with_part}
use Rattle.mte_arena.specs.Frames.{make_frame}
use Rattle.mte_arena.proofs.Frames.{present}
use Rattle.mte_arena.proofs.Written.{block_long, frame_at-block, still_arena, taken_whole, frame_with_block, frames_written}
use Rattle.mte_arena.proofs.arena.Arena.block_mut.Goals as goal

pub part_mut-requires : goal.part_mut-requires
part_mut-requires c = (sym c.self.invariant.start, present c.self.inside.region.blocks c.args.f (rw c.self.view_is c.requires), omega arith)

pub invariant_of-self-lent : goal.invariant_of-self-lent
invariant_of-self-lent c = λ w. still_arena c.self.inside c.args.f 0 4224 w c.self.invariant (present c.self.inside.region.blocks c.args.f (rw c.self.view_is c.requires)) (omega arith)

pub returns : goal.returns
returns c =
    let cs = c.self.inside.region.blocks in let f = c.args.f in let there = present cs f (rw c.self.view_is c.requires) in
    let xs = block_at cs f in let long = block_long cs f c.self.invariant.sized there in
    rw (← c.self.view_is, frame_at-block cs f there) (
      (refl, λ w. frames_written cs f (with_part xs 0 4224 w) (make_frame (refill 4096 (frame_of xs).bytes w) (refill 256 (frame_of xs).tags (tags_of_bytes (drop 4096 w)))) (frame_with_block xs w long)),
      record { writes_back = tt; value = ap frame_of (c.part_mut.ensures.value ∙ taken_whole 4224 xs long); len = c.part_mut.ensures.len },
    )
