use Rattle.mte_translate.proofs.KeptTables.{kept-others, kept-after-write-of, kept-taken, kept-given}
use Rattle.mte_translate.proofs.table_laws.tables_stay.Goals as goal

pub returns-clause-others : goal.returns-clause-others
returns-clause-others c = kept-others

pub returns-clause-written : goal.returns-clause-written
returns-clause-written c = kept-after-write-of

pub returns-clause-taken : goal.returns-clause-taken
returns-clause-taken c = kept-taken

pub returns-clause-given : goal.returns-clause-given
returns-clause-given c = kept-given
