-- For the code's own clauses, views and invariants.
-- The slots of the plain memory, one for each mapped page, and what they say of the tagged memory.
use Rattle.std.specs.Prelude.{◌≡◌, ℕ, ◌<◌, ◌^◌, List, map, length, slice_index_or}
use Rattle.std.specs.List.{All}
use Rattle.std.specs.FinMap as finite
use Rattle.mte_tags.specs.Memory.{Memory, Page}
use Rattle.mte_flat.specs.declared.slot.Slot.{Slot}

-- The page in a slot.
abbrev pub page_of : Slot → Page
page_of s = record { attrs = s.attrs.0; bytes = s.bytes; tags = s.tags }

-- The number and the page of a slot.
abbrev pub entry_of : Slot → ℕ × Page
entry_of s = (s.page, page_of s)

-- m with the pages that the slots hold, instead of its own
unfoldable pub slots_memory : Memory → List Slot → Memory
slots_memory m slots = record m { pages = finite.from_entries (map entry_of slots) }

-- no two slots are one page, pages lie below the address 2 ^ 30, and tags are below 16
pub record AreSlots (slots : List Slot) : Type 0 where
  pub apart :
      (i j : ℕ) (d : Slot) → i < length slots → j < length slots
      → (slice_index_or slots i d).page ≡ (slice_index_or slots j d).page → i ≡ j
  pub low : (i : ℕ) (d : Slot) → i < length slots → (slice_index_or slots i d).page < 2 ^ 18
  pub small :
      (i : ℕ) (d : Slot) → i < length slots → All (λ t. t < 16) (slice_index_or slots i d).tags
