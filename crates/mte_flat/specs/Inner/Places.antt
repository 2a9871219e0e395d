-- For the code's own clauses, views and invariants.
-- The places of the plain memory: its slots.
use Rattle.std.specs.Prelude.{ℕ, ◌<◌, [], get_or, length, true}
use Rattle.std.specs.FinMap as map
use Rattle.mte_tags.specs.Memory.{Memory, Page}
use Rattle.mte_flat.specs.Inner.Slots.{page_of, slots_memory}
use Rattle.mte_flat.specs.declared.pages.Pages.{Pages}
use Rattle.mte_flat.specs.declared.slot.Slot.{Slot}

-- The memory without its pages.
abbrev pub beside_pages : Pages → Memory
beside_pages p = record { limit = p.limit; pages = map.empty; state = p.state }

-- The tagged memory of slots.
abbrev pub memory_of : Pages → Memory
memory_of p = slots_memory (beside_pages p) p.slots.items

-- for where no place is
abbrev pub no_slot : Slot
no_slot = record { page = 0; bytes = []; tags = []; attrs = record { 0 = 0 }; written = true }

-- The slot with an index.
abbrev pub slot_in : Pages → ℕ → Slot
slot_in p i = get_or p.slots.items i no_slot

-- There is a slot with the index.
abbrev pub IsPlace : Pages → ℕ → Type 0
IsPlace p i = i < length p.slots.items

-- The number of the page in a slot.
abbrev pub number_in : Pages → ℕ → ℕ
number_in p i = (slot_in p i).page

-- The page in the slot with an index.
abbrev pub page_in : Pages → ℕ → Page
page_in p i = page_of (slot_in p i)
