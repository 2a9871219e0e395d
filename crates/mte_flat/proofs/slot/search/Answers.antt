use Rattle.std.proofs.Common.{arith}
use Rattle.mte_flat.proofs.Places.{page_at-slots_none}
use Rattle.mte_flat.proofs.slot.search.Goals as goal

pub returns-clause-none : goal.returns-clause-none
returns-clause-none c = λ _ n. page_at-slots_none n c.args.slots.now c.args.page (λ i d l. c.loop-s.invariant i d (omega arith))
