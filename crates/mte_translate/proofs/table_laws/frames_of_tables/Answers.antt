use Rattle.mte_translate.proofs.KeptTables.{page-frame}
use Rattle.mte_translate.proofs.table_laws.frames_of_tables.Goals as goal

pub returns-clause-root : goal.returns-clause-root
returns-clause-root c = λ p k t h. h.tree.root_out

pub returns-clause-pages : goal.returns-clause-pages
returns-clause-pages c = page-frame
