-- The effect of an access to a byte of the heap on a chunk.
use Rattle.std.specs.Prelude.{ℕ, ◌*◌, ◌/◌, ◌<◌, ◌≤◌}
use Rattle.heap_bounds.specs.declared.bounds.ChunkBytes.{ChunkBytes}

-- The byte is among the chunk's.
abbrev pub IsByteOf : ChunkBytes → ℕ → Type 0
IsByteOf e addr = (e.start ≤ addr) × (addr < e.end)

-- The byte is in a granule of sixteen that the chunk's bytes are in: no granule begins between the
-- chunk's end and it.
pub record IsGranuleOf (e : ChunkBytes) (addr : ℕ) : Type 0 where
  pub first : e.start ≤ addr
  pub last : 16 * (addr / 16) < e.end
