use Rattle.std.proofs.Common.{◌/◌, sym, ap, ◌∙◌, arith, get_or, get_or-drop, drop, length-drop}
use Rattle.mte_arena.specs.Blocks.{half}
use Rattle.mte_arena.specs.Frames.{Frame}
use Rattle.mte_arena.proofs.Frames.{present, frame_at-is}
use Rattle.mte_arena.proofs.Tags.{tag_of_byte}
use Rattle.mte_arena.proofs.arena.Arena.tag.Goals as goal

pub block-block-requires : goal.block-block-requires
block-block-requires c = (sym c.self.invariant.start, present c.self.inside.region.blocks c.args.f (rw c.self.view_is c.requires.live))

pub returns-clause-tag : goal.returns-clause-tag
returns-clause-tag c =
    let xs = c.block-block.result.now in let g = c.args.g in
    let frame = ap (λ (p : Frame). get_or p.tags g 0) (frame_at-is c.self.inside.region.blocks c.args.f xs c.block-block.ensures.value) in
    rw (← c.self.view_is) (c.half_of.ensures ∙ ap (λ b. half b g) (sym (get_or-drop 4096 xs (g / 2) 0)) ∙ sym (frame ∙ tag_of_byte (drop 4096 xs) g 0 (omega (arith, c.requires.granule, c.block-block.ensures.len, length-drop 4096 xs))))
