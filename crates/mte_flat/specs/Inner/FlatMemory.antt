-- For the code's own clauses, views and invariants.
-- The contents of the plain memory.
use Rattle.mte_tags.specs.Memory.{Memory}
use Rattle.mte_flat.specs.Inner.Places.{memory_of}
use Rattle.mte_flat.specs.declared.flat.Flat.TheInside.{Inside}

-- The tagged memory that the code keeps.
abbrev pub flat_memory : Inside → Memory
flat_memory f = memory_of f.pages
