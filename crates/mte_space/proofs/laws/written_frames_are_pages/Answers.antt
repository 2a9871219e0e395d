use Rattle.mte_space.proofs.SpaceSteps.{space_framed, cached_framed, memory_framed}
use Rattle.mte_space.proofs.laws.written_frames_are_pages.Goals as goal

pub returns-clause-memory : goal.returns-clause-memory
returns-clause-memory c = λ p k q f l a x t s h sound e. memory_framed p k t l q f a x h e s sound

pub returns-clause-space : goal.returns-clause-space
returns-clause-space c = λ p k q f l a x t h e. space_framed p k t l q f a x h e

pub returns-clause-cached : goal.returns-clause-cached
returns-clause-cached c = λ p k q f asid l a x t ts h e. cached_framed p k t l q f a x h e asid ts
