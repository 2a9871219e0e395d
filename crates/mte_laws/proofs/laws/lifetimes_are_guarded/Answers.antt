use Rattle.mte_laws.proofs.Lifetimes.{lifetimes, freed-at-once}
use Rattle.mte_laws.proofs.laws.lifetimes_are_guarded.Goals as goal

pub returns-clause-lives : goal.returns-clause-lives
returns-clause-lives c = lifetimes

pub returns-clause-freed : goal.returns-clause-freed
returns-clause-freed c = freed-at-once
