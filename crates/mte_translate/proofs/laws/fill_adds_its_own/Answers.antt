use Rattle.mte_translate.proofs.StandingLaws.{fill-stands, fill-found}
use Rattle.mte_translate.proofs.laws.fill_adds_its_own.Goals as goal

pub returns-clause-stands : goal.returns-clause-stands
returns-clause-stands c = fill-stands

pub returns-clause-found : goal.returns-clause-found
returns-clause-found c = fill-found
