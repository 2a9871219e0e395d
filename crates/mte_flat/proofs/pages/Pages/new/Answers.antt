use Rattle.std.proofs.Common.{rules}
use Rattle.mte_tags.specs.Memory.{no_pages}
use Rattle.mte_flat.specs.Inner.Slots.{slots_memory}
use Rattle.mte_flat.proofs.pages.Pages.new.Goals as goal

pub returns : goal.returns
unfolding no_pages slots_memory
returns c = search rules
