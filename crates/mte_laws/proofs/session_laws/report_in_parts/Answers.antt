use Rattle.mte_laws.proofs.PartLemmas.{report_in_parts, script_in_parts, texts_in_parts}
use Rattle.mte_laws.proofs.session_laws.report_in_parts.Goals as goal

pub returns-clause-sessions : goal.returns-clause-sessions
returns-clause-sessions c = report_in_parts

pub returns-clause-scripts : goal.returns-clause-scripts
returns-clause-scripts c = script_in_parts

pub returns-clause-texts : goal.returns-clause-texts
returns-clause-texts c = texts_in_parts c.lines_may_be_left_out.ensures
