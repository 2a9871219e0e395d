use Rattle.std.proofs.Common.{sym, ap, ◌∙◌, length}
use Rattle.std.proofs.lemmas.List.{length-map}
use Rattle.mte_arena.specs.Blocks.{is_there}
use Rattle.mte_arena.proofs.arena.Arena.drop.Goals as goal

pub deallocate-requires : goal.deallocate-requires
deallocate-requires c = let i = c.self.invariant in let cs = c.self.inside.region.blocks in
    let long = sym (length-map cs is_there) ∙ sym (ap length i.live) ∙ sym c.self.inside.live.ok.0 ∙ sym c.len.ensures in
    (i.start, long, i.right_start, i.right_count ∙ long, i.right_alloc)
