use Rattle.mte_translate.proofs.StandingLaws.{forget-page, forget-asid}
use Rattle.mte_translate.proofs.laws.forget_drops_its_own.Goals as goal

pub returns-clause-page : goal.returns-clause-page
returns-clause-page c = forget-page

pub returns-clause-asid : goal.returns-clause-asid
returns-clause-asid c = forget-asid
