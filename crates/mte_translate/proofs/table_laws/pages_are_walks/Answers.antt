use Rattle.mte_translate.proofs.PageLemmas.{get-page, get-page_past}
use Rattle.mte_translate.proofs.table_laws.pages_are_walks.Goals as goal

pub returns-clause-below : goal.returns-clause-below
returns-clause-below c = get-page

pub returns-clause-past : goal.returns-clause-past
returns-clause-past c = get-page_past
