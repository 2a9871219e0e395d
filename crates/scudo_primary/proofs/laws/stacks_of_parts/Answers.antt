use Rattle.scudo_primary.proofs.CacheLaws.{above-new, above-with_pages}
use Rattle.scudo_primary.proofs.StackLemmas.{stacks-new, stacks-with_pages}
use Rattle.scudo_primary.proofs.laws.stacks_of_parts.Goals as goal

pub returns-clause-new : goal.returns-clause-new
returns-clause-new c = stacks-new

pub returns-clause-above_new : goal.returns-clause-above_new
returns-clause-above_new c = above-new

pub returns-clause-carve : goal.returns-clause-carve
returns-clause-carve c = stacks-with_pages

pub returns-clause-above_carve : goal.returns-clause-above_carve
returns-clause-above_carve c = above-with_pages
