use Rattle.mte_laws.proofs.Answers.{answers-are-pointers, asked-usable}
use Rattle.mte_laws.proofs.laws.answers_are_pointers.Goals as goal

pub returns-clause-chunks : goal.returns-clause-chunks
returns-clause-chunks c = answers-are-pointers

pub returns-clause-asked : goal.returns-clause-asked
returns-clause-asked c = asked-usable
