use Rattle.std.proofs.Common.{refl}
use Rattle.mte_flat.specs.Inner.Slots.{slots_memory}
use Rattle.mte_flat.proofs.pages.PagesPageStore.tag_state.Goals as goal

pub returns-clause-answer : goal.returns-clause-answer
unfolding slots_memory
returns-clause-answer c = refl
