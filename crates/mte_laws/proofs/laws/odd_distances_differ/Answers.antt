use Rattle.mte_laws.proofs.Distances.{odd-distances, neighbours-odd}
use Rattle.mte_laws.proofs.laws.odd_distances_differ.Goals as goal

pub returns-clause-tags : goal.returns-clause-tags
returns-clause-tags c = odd-distances

pub returns-clause-neighbours : goal.returns-clause-neighbours
returns-clause-neighbours c = neighbours-odd
