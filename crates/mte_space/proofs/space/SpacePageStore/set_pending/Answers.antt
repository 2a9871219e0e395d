use Rattle.std.proofs.Common.{refl}
use Rattle.mte_space.specs.Spaces.{space_memory}
use Rattle.mte_tags.specs.Memory.{with_pending}
use Rattle.mte_space.proofs.space.SpacePageStore.set_pending.Goals as goal

pub returns-clause-memory : goal.returns-clause-memory
unfolding space_memory with_pending
returns-clause-memory c = refl
