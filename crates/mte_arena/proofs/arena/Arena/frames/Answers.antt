use Rattle.std.proofs.Common.{ap, ◌∙◌, sym, arith, length}
use Rattle.std.proofs.lemmas.List.{length-map}
use Rattle.mte_arena.specs.Blocks.{frame_cases, is_there}
use Rattle.mte_arena.proofs.Frames.{are_frames}
use Rattle.mte_arena.proofs.arena.Arena.frames.Goals as goal

pub returns-clause-count : goal.returns-clause-count
returns-clause-count c = let cs = c.self.inside.region.blocks in
    c.len.ensures ∙ c.self.inside.live.ok.0 ∙ ap length c.self.invariant.live ∙ length-map cs is_there ∙ sym (length-map cs frame_cases) ∙ ap length c.self.view_is

pub returns-clause-sized : goal.returns-clause-sized
returns-clause-sized c = rw (← c.self.view_is) (are_frames c.self.inside.region.blocks c.self.invariant.sized)

pub returns-clause-few : goal.returns-clause-few
returns-clause-few c = let cs = c.self.inside.region.blocks in omega (arith, c.self.invariant.few, length-map cs frame_cases, ap length c.self.view_is)
