use Rattle.std.proofs.Common.{ap, ◌∙◌, length, arith, slice_index_or}
use Rattle.std.proofs.lemmas.List.{length-map}
use Rattle.mte_arena.specs.Blocks.{frame_cases, is_there}
use Rattle.mte_arena.proofs.Frames.{live-iff}
use Rattle.mte_arena.proofs.arena.Arena.is_live.Goals as goal

pub index-requires : goal.index-requires
index-requires c = let cs = c.self.inside.region.blocks in
    omega (arith, c.requires, c.self.inside.live.ok.0, ap length c.self.invariant.live, length-map cs is_there, length-map cs frame_cases, ap length c.self.view_is)

pub returns : goal.returns
returns c = let cs = c.self.inside.region.blocks in
    rw (← c.self.view_is) (live-iff cs c.args.f c.index.result.now c.index.result.now (omega (arith, c.requires, length-map cs frame_cases, ap length c.self.view_is)) (c.index.ensures ∙ ap (λ l. slice_index_or l c.args.f c.index.result.now) c.self.invariant.live))
