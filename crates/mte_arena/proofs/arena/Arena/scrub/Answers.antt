use Rattle.std.proofs.Common.{ℕ, sym, ap, ◌∙◌, length, arith, Some, true, slice_set}
use Rattle.std.proofs.lemmas.List.{length-map, length-set, length-replicate, map-set}
use Rattle.mte_arena.specs.Blocks.{frame_cases, frames_of, is_there, presence, zero_block}
use Rattle.mte_arena.proofs.Frames.{written_sized, frame_of-zero}
use Rattle.mte_arena.proofs.arena.Arena.scrub.Goals as goal

pub scrub-requires : goal.scrub-requires
scrub-requires c = (sym c.self.invariant.start, omega (arith, c.requires, length-map c.self.inside.region.blocks frame_cases, ap length c.self.view_is))

pub index_mut-requires : goal.index_mut-requires
index_mut-requires c = let cs = c.self.inside.region.blocks in
    omega (arith, c.requires, c.self.inside.live.ok.0, ap length c.self.invariant.live, length-map cs is_there, length-map cs frame_cases, ap length c.self.view_is)

pub invariant_of-self : goal.invariant_of-self
unfolding zero_block
invariant_of-self c = let i = c.self.invariant in let cs = c.self.inside.region.blocks in let e = c.scrub.ensures in let f = c.args.f in
    let long = ap length e.1 ∙ length-set cs f (Some zero_block) in
    record {
      start = e.0 ∙ i.start;
      right_start = i.right_start;
      right_count = i.right_count ∙ sym long;
      right_alloc = i.right_alloc;
      live = ap (λ l. slice_set l f true) i.live ∙ sym (ap presence e.1 ∙ map-set is_there cs f (Some zero_block));
      sized = rw e.1 (written_sized cs f zero_block i.sized (length-replicate {A = ℕ} 4224 0));
      few = omega (arith, i.few, long);
    }

pub returns : goal.returns
returns c = let cs = c.self.inside.region.blocks in let f = c.args.f in
    ap frames_of c.scrub.ensures.1 ∙ map-set frame_cases cs f (Some zero_block) ∙ (λ i. slice_set (c.self.view_is i) f (Some (frame_of-zero i)))
