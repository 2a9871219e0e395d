use Rattle.std.proofs.Common.{refl}
use Rattle.mte_space.specs.Spaces.{space_memory}
use Rattle.mte_space.proofs.space.SpacePageStore.tag_state.Goals as goal

pub returns-clause-answer : goal.returns-clause-answer
unfolding space_memory
returns-clause-answer c = refl
