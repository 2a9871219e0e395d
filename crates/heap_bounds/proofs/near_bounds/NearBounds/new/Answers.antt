use Rattle.heap_bounds.proofs.NearLemmas.{none-near}
use Rattle.heap_bounds.proofs.near_bounds.NearBounds.new.Goals as goal

pub invariant_of-result : goal.invariant_of-result
invariant_of-result c = (none-near _ _ c.nothing.ensures, tt)
