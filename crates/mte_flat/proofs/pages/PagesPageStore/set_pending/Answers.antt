use Rattle.std.proofs.Common.{refl}
use Rattle.mte_tags.specs.Memory.{with_pending}
use Rattle.mte_flat.specs.Inner.Slots.{slots_memory}
use Rattle.mte_flat.proofs.pages.PagesPageStore.set_pending.Goals as goal

pub returns-clause-memory : goal.returns-clause-memory
unfolding slots_memory with_pending
returns-clause-memory c = refl
