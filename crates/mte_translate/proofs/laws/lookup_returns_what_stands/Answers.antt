use Rattle.mte_translate.proofs.StandingLaws.{lookup-stands}
use Rattle.mte_translate.proofs.laws.lookup_returns_what_stands.Goals as goal

pub returns : goal.returns
returns c = lookup-stands
