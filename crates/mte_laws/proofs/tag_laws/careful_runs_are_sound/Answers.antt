use Rattle.mte_laws.proofs.Disciplines.{starts, stays}
use Rattle.mte_laws.proofs.tag_laws.careful_runs_are_sound.Goals as goal

pub returns-clause-start : goal.returns-clause-start
returns-clause-start c = starts

pub returns-clause-run : goal.returns-clause-run
returns-clause-run c = stays
