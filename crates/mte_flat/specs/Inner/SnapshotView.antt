-- For the code's own clauses, views and invariants.
-- The contents of a memory with a snapshot.
use Rattle.mte_flat.specs.Inner.Places.{memory_of}
use Rattle.mte_flat.specs.Inner.Since.{IsSince}
use Rattle.mte_flat.specs.Snapshots.{SnapshotState}
use Rattle.mte_flat.specs.declared.snapshot.SnapshotMemory.TheInside.{Inside}

-- The memory that the code keeps, and its snapshot.
abbrev pub snapshot_state : Inside → SnapshotState
snapshot_state f = record { now = memory_of f.pages; saved = memory_of f.saved }

-- A slot that was not written is that of the snapshot.
abbrev pub IsSnapshot : Inside → Type 0
IsSnapshot f = IsSince f.saved f.pages
