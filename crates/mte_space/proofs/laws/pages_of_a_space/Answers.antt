use Rattle.mte_space.proofs.Memories.{page_at-space, pages_left-space}
use Rattle.mte_space.proofs.OtherSpaces.{no_pages_there}
use Rattle.mte_space.proofs.laws.pages_of_a_space.Goals as goal

pub returns-clause-page : goal.returns-clause-page
returns-clause-page c = λ p q l t s. page_at-space p t l s q

pub returns-clause-left : goal.returns-clause-left
returns-clause-left c = λ p k l t s h. pages_left-space p t l s h.len_is

pub returns-clause-none : goal.returns-clause-none
returns-clause-none c = no_pages_there
