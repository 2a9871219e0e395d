use Rattle.mte_tags.specs.Memory.{page_at}
use Rattle.mte_flat.specs.Inner.Slots.{slots_memory}
use Rattle.mte_flat.proofs.pages.PagesPaged.unmap_pages.Goals as goal

pub unmap_slots-requires-clause-mapped : goal.unmap_slots-requires-clause-mapped
unfolding slots_memory page_at
unmap_slots-requires-clause-mapped c = λ m. c.requires
