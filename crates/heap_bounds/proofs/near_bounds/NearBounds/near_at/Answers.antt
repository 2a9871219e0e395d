use Rattle.heap_bounds.proofs.NearLemmas.{at-near}
use Rattle.heap_bounds.proofs.near_bounds.NearBounds.near_at.Goals as goal

pub returns : goal.returns
returns c = at-near _ _ c.self.inside.near c.args.at c.index-self-at.result c.self.view_is c.self.inside.live c.requires.place
