-- The bytes that live chunks have.
use Rattle.std.specs.Prelude.{ℕ, ◌+◌, ◌<◌, ◌≤◌, ◌⊎◌, true, List, map, ◌++◌, Contains}
use Rattle.common.specs.declared.ranges.TheConstants.{REGIONS_START, SECONDARY_END}
use Rattle.heap_bounds.specs.declared.bounds.ChunkBytes.{ChunkBytes}
use Rattle.heap_bounds.specs.KeptChunks.{KeptChunks}

-- All chunks that are kept.
abbrev pub all_chunks : KeptChunks → List ChunkBytes
all_chunks k = map (λ b. b.1) k.blocks ++ k.large

-- The bytes from `start` on and before `end` are those of a live chunk.
abbrev pub HasLive : KeptChunks → ℕ → ℕ → Type 0
HasLive k start end = Contains (all_chunks k) (record { start = start; end = end; live = true })

-- All bytes of an access from a plain address on are those of one live chunk.
pub record AreLive (k : KeptChunks) (first bytes : ℕ) : Type 0 where
  pub start : ℕ
  pub end : ℕ
  pub chunk : HasLive k start end
  pub from : start ≤ first
  pub to : first + bytes ≤ end

-- A plain address is below the heap or above it.
abbrev pub IsOutside : ℕ → Type 0
IsOutside first = (first < REGIONS_START) ⊎ (SECONDARY_END ≤ first)
