use Rattle.std.proofs.Common.{Some, get_or, ap, sym, ◌∙◌, arith}
use Rattle.std.specs.Prelude.{sum}
use Rattle.mte_frames.specs.Whole.{vacant}
use Rattle.mte_frames.proofs.Counts.{vacant_at, sum-zeros}
use Rattle.mte_frames.proofs.Moves.{fresh_sound}
use Rattle.mte_frames.proofs.pool.FramePool.new.Goals as goal

pub invariant_of-result : goal.invariant_of-result
invariant_of-result c =
    let e = c.in-Ok.ensures in let n = c.frames-frames.result in let len = c.frames-frames.ensures.count in
    record {
      sound = rw (e.others.0, e.others.1, e.others.2, len) (fresh_sound _ c.args.arena c.frames-frames.ensures.few);
      free_are = λ f. e.free f ∙ vacant_at n f ∙ ap (λ l. vacant (get_or l f (Some 0))) (sym e.others.0);
      free_count = omega (arith, e.count.0, len, ap sum e.others.2, sum-zeros n);
      unreserved_count = omega (arith, len, ap sum e.others.1, sum-zeros n);
      room = omega (arith, e.count.1, len);
    }
