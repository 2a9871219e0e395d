use Rattle.std.proofs.Common.{refl}
use Rattle.mte_frames.specs.Whole.{pool_of}
use Rattle.mte_frames.proofs.Keeps.{keeps_written_if}
use Rattle.mte_frames.proofs.Moves.{written_pool_if}
use Rattle.mte_frames.proofs.pool.FramePool.data_mut_if.Goals as goal

pub invariant_of-self-lent : goal.invariant_of-self-lent
invariant_of-self-lent c = λ r. (λ w. written_pool_if c.self.inside c.args.f w c.self.invariant, c.self.invariant)

pub returns : goal.returns
returns c = rw (← c.self.view_is) (
  refl,
  record {
    writes_back = tt;
    others = λ q ws out. keeps_written_if q c.args.f ws (pool_of c.self.inside) out;
    value = c.data_mut_if.ensures.value;
  },
)
