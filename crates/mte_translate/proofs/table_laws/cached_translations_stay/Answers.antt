use Rattle.mte_translate.proofs.KeptTables.{cached-mapped, cached-unmapped, cached-with-translation, cached-beside, cached-forgotten, cached-forgotten_all, cached-none, cached-found}
use Rattle.mte_translate.proofs.table_laws.cached_translations_stay.Goals as goal

pub returns-clause-mapped : goal.returns-clause-mapped
returns-clause-mapped c = cached-mapped

pub returns-clause-unmapped : goal.returns-clause-unmapped
returns-clause-unmapped c = cached-unmapped

pub returns-clause-filled : goal.returns-clause-filled
returns-clause-filled c = cached-with-translation

pub returns-clause-beside : goal.returns-clause-beside
returns-clause-beside c = cached-beside

pub returns-clause-forgotten : goal.returns-clause-forgotten
returns-clause-forgotten c = cached-forgotten

pub returns-clause-forgotten_all : goal.returns-clause-forgotten_all
returns-clause-forgotten_all c = cached-forgotten_all

pub returns-clause-none : goal.returns-clause-none
returns-clause-none c = cached-none

pub returns-clause-found : goal.returns-clause-found
returns-clause-found c = cached-found
