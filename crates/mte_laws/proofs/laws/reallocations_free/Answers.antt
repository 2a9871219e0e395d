use Rattle.mte_laws.proofs.Reallocs.{realloc-frees, realloc-unmaps}
use Rattle.mte_laws.proofs.laws.reallocations_free.Goals as goal

pub returns-clause-blocks : goal.returns-clause-blocks
returns-clause-blocks c = realloc-frees

pub returns-clause-pages : goal.returns-clause-pages
returns-clause-pages c = realloc-unmaps
