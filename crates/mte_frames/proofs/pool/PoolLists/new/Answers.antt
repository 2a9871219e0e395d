use Rattle.std.proofs.Common.{[], ◌∷◌, ◌∙◌, ap, length, arith, length-append}
use Rattle.mte_frames.specs.Whole.{times}
use Rattle.mte_frames.proofs.Counts.{times-push, below_more}
use Rattle.mte_frames.proofs.pool.PoolLists.new.Goals as goal

pub loop-f-preserved : goal.loop-f-preserved
loop-f-preserved c =
    let free = c.loop-f.free.items in let f = c.loop-f.f in let push = c.push_reserved.ensures in let i = c.loop-f.invariant in (
      λ g. ap (times g) push.items ∙ times-push g f free ∙ omega (arith, i.0 g, below_more g f),
      omega (arith, ap length push.items, length-append free (f ∷ []), i.1),
      omega (arith, i.2, push.capacity),
    )
