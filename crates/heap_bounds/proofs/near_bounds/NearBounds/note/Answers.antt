use Rattle.heap_bounds.proofs.NearLemmas.{none-near}
use Rattle.heap_bounds.proofs.near_bounds.NearBounds.note.Goals as goal

pub invariant_of-self-inside : goal.invariant_of-self-inside
invariant_of-self-inside c = (none-near _ _ c.nothing-self-inside.ensures, tt)
