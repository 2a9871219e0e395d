-- For the code's own clauses, views and invariants.
use Rattle.mte_flat.specs.declared.mapped.MappedPage.{MappedPage}
use Rattle.mte_flat.specs.declared.slot.Slot.{Slot}

-- The number and the attributes of the page in a slot.
abbrev pub mapped_in : Slot → MappedPage
mapped_in s = record { number = s.page; attrs = s.attrs }
