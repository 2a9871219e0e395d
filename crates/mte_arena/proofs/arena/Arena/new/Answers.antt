use Rattle.std.proofs.Common.{sym, ap, ◌∙◌, arith, length, None}
use Rattle.std.proofs.lemmas.List.{length-replicate}
use Rattle.mte_arena.specs.Blocks.{frame_cases, frames_of, is_there, presence}
use Rattle.mte_arena.proofs.Frames.{map-replicate, none_sized}
use Rattle.mte_arena.proofs.arena.Arena.new.Goals as goal

pub invariant_of-result : goal.invariant_of-result
invariant_of-result c = let e = c.in-Ok-allocate.ensures in let n = c.args.frames in let long = ap length e.1 ∙ length-replicate n None in
    record {
      start = e.0;
      right_start = e.2;
      right_count = e.3 ∙ sym long;
      right_alloc = e.4;
      live = c.in-Ok.ensures.items_if_clones_equal (λ y e. e) ∙ sym (ap presence e.1 ∙ map-replicate is_there n None);
      sized = rw e.1 (none_sized n);
      few = omega (arith, long, c.if-frames-gt-MAX_FRAMES.false);
    }

pub returns-in-Ok-allocate-clause-ok : goal.returns-in-Ok-allocate-clause-ok
returns-in-Ok-allocate-clause-ok c = ap frames_of c.in-Ok-allocate.ensures.1 ∙ map-replicate frame_cases c.args.frames None
