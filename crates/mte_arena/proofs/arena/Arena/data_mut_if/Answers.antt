use Rattle.std.proofs.Common.{List, ℕ, Some, sym, ap, subst, inl, slice_set, ◌∙◌, arith}
use Rattle.std.specs.Prelude.{IfSome}
use Rattle.std.specs.List.{refill}
use Rattle.mte_arena.specs.Blocks.{block_at, frame_of, frames_of, with_part}
use Rattle.mte_arena.specs.Frames.{Frame, IsLive, make_frame}
use Rattle.mte_arena.proofs.Frames.{present}
use Rattle.mte_arena.proofs.Written.{block_long, frame_at-block, still_arena, frame_with_data, frames_written}
use Rattle.mte_arena.proofs.arena.Arena.data_mut_if.Goals as goal

pub data_mut-requires : goal.data_mut-requires
data_mut-requires c =
    let live = subst (λ o. IfSome o (λ g. IsLive c.args.self.now g)) c.in-Some.is c.requires in
    (sym c.self.invariant.start, present c.self.inside.region.blocks c.in-Some.f (rw c.self.view_is live))

pub invariant_of-self-lent : goal.invariant_of-self-lent
invariant_of-self-lent c = λ w.
    let live = subst (λ o. IfSome o (λ g. IsLive c.args.self.now g)) c.in-Some.is c.requires in
    still_arena c.self.inside c.in-Some.f 0 4096 w c.self.invariant (present c.self.inside.region.blocks c.in-Some.f (rw c.self.view_is live)) (omega arith)

pub returns-in-Some : goal.returns-in-Some
returns-in-Some c =
    let live = subst (λ o. IfSome o (λ g. IsLive c.args.self.now g)) c.in-Some.is c.requires in
    let cs = c.self.inside.region.blocks in let f = c.in-Some.f in let there = present cs f (rw c.self.view_is live) in
    let xs = block_at cs f in let long = block_long cs f c.self.invariant.sized there in
    let put = λ (w : List ℕ) (x : Frame). slice_set (frames_of cs) f (Some (make_frame (refill 4096 x.bytes w) x.tags)) in
    let written = λ (w : List ℕ). frames_written cs f (with_part xs 0 4096 w) (make_frame (refill 4096 (frame_of xs).bytes w) (frame_of xs).tags) (frame_with_data xs w long) ∙ sym (ap (put w) (frame_at-block cs f there)) in
    rw (c.in-Some.is, ← c.self.view_is, frame_at-block cs f there) (
      λ i. inl (c.data_mut.result.ghost_name, λ w. written w i),
      record { writes_back = tt; value = ap Some c.data_mut.ensures.value },
    )
