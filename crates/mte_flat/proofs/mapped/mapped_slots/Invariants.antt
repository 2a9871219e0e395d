use Rattle.std.proofs.Common.{◌≡◌, map, take}
use Rattle.mte_flat.specs.Inner.MappedSlots.{mapped_in}
use Rattle.mte_flat.proofs.mapped.mapped_slots.Given as goal

abbrev pub invariant-loop-slot : goal.invariant-loop-slot
invariant-loop-slot l = l.pages.items ≡ map mapped_in (take l.slot-index l.slots)
