use Rattle.mte_laws.proofs.Turns.{tenants-turn, turns-stay}
use Rattle.mte_laws.proofs.laws.tenants_take_turns.Goals as goal

pub returns-clause-turns : goal.returns-clause-turns
returns-clause-turns c = tenants-turn

pub returns-clause-sound : goal.returns-clause-sound
returns-clause-sound c = turns-stay
