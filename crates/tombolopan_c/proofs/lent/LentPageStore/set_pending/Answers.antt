use Rattle.std.proofs.Common.{refl}
use Rattle.mte_tags.specs.Memory.{with_pending}
use Rattle.tombolopan_c.specs.LentPages.{lent_memory}
use Rattle.tombolopan_c.proofs.lent.LentPageStore.set_pending.Goals as goal

pub returns-clause-memory : goal.returns-clause-memory
unfolding lent_memory with_pending
returns-clause-memory c = refl
