use Rattle.mte_space.proofs.OtherSpaces.{other_memory, other_space, other_cached}
use Rattle.mte_space.proofs.laws.other_tenants_stay.Goals as goal

pub returns-clause-memory : goal.returns-clause-memory
returns-clause-memory c = other_memory

pub returns-clause-space : goal.returns-clause-space
returns-clause-space c = other_space

pub returns-clause-cached : goal.returns-clause-cached
returns-clause-cached c = other_cached
