use Rattle.std.proofs.Common.{sym, ap, ◌∙◌, arith, slice_set}
use Rattle.mte_arena.specs.Blocks.{tags_of_bytes, block_at, frame_of, with_part}
use Rattle.mte_arena.specs.Frames.{make_frame}
use Rattle.mte_arena.proofs.Frames.{present}
use Rattle.mte_arena.proofs.Written.{block_long, frame_at-block, still_arena, frame_with_tags, frames_written, tag_bytes}
use Rattle.mte_arena.proofs.arena.Arena.set_tag.Goals as goal

pub part_mut-packed-requires : goal.part_mut-packed-requires
part_mut-packed-requires c = (sym c.self.invariant.start, present c.self.inside.region.blocks c.args.f (rw c.self.view_is c.requires.live), omega arith)

pub invariant_of-self : goal.invariant_of-self
invariant_of-self c = still_arena c.self.inside c.args.f 4096 128 c.set_half.new.packed c.self.invariant (present c.self.inside.region.blocks c.args.f (rw c.self.view_is c.requires.live)) (omega arith)

pub returns : goal.returns
returns c =
    let cs = c.self.inside.region.blocks in let f = c.args.f in let there = present cs f (rw c.self.view_is c.requires.live) in
    let xs = block_at cs f in let long = block_long cs f c.self.invariant.sized there in let new = c.set_half.new.packed in
    let was = ap tags_of_bytes (c.part_mut-packed.ensures.value ∙ tag_bytes xs long) in
    let tags = c.set_half.ensures.tags ∙ ap (λ l. slice_set l c.args.g c.args.tag) was in
    rw (← c.self.view_is, frame_at-block cs f there)
    (frames_written cs f (with_part xs 4096 128 new) (make_frame (frame_of xs).bytes (slice_set (frame_of xs).tags c.args.g c.args.tag))
    (frame_with_tags xs new long (c.set_half.ensures.len ∙ c.part_mut-packed.ensures.len) ∙ ap (make_frame (frame_of xs).bytes) tags))
