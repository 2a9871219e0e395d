use Rattle.heap_bounds.proofs.NearLemmas.{set-near}
use Rattle.heap_bounds.proofs.near_bounds.NearBounds.remember.Goals as goal

pub invariant_of-self-inside : goal.invariant_of-self-inside
invariant_of-self-inside c = (set-near _ _ c.self.inside.near c.args.at c.args.live c.self.view_is c.self.inside.live c.requires.live, tt)
