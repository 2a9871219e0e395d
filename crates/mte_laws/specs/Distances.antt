-- Live chunks of a size class that lie an odd number of blocks apart.
use Rattle.std.specs.Prelude.{◌≡◌, ◌≢◌, ℕ, ◌+◌, ◌*◌, ◌<◌, ◌≤◌}
use Rattle.std.specs.Prelude.{◌⊎◌, Some}
use Rattle.scudo_header.specs.Classes.{size_of}
use Rattle.scudo_heap.specs.declared.chunk.Place.{Place}
use Rattle.scudo_heap.specs.Chunks.{end_of}
use Rattle.mte_laws.specs.LiveChunks.{BlockChunk, chunk_at}
use Rattle.mte_laws.specs.CarefulRuns.{State}
use Rattle.mte_laws.specs.Laws.{IsRefused, AreNeighbours}
use Rattle.mte_laws.specs.SoundHeaps.{Sound}

-- An odd number of blocks of a class from one block to another.
abbrev pub IsOddDistance : ℕ → ℕ → ℕ → Type 0
IsOddDistance class from to = (n : ℕ) × (from + (2 * n + 1) * size_of class ≡ to)

-- Two blocks of a class lie an odd number of blocks apart.
abbrev pub AreOddBlocksApart : Place → Place → Type 0
AreOddBlocksApart p q =
    (p.class ≡ q.class)
    × (IsOddDistance p.class p.block q.block ⊎ IsOddDistance p.class q.block p.block)

-- Two live chunks in such blocks have different tags, so each checked access through the pointer to
-- one of them that touches a granule of the other faults.
abbrev pub OddDistancesDiffer : Type 0
OddDistancesDiffer =
    (s : State) (u v : ℕ) (x y : BlockChunk) → Sound s
    → chunk_at s.live.blocks u ≡ Some x → chunk_at s.live.blocks v ≡ Some y
    → AreOddBlocksApart x.place y.place
    → (x.tag ≢ y.tag)
    × ((addr : ℕ) → y.place.user ≤ addr → addr < end_of y.place
    → IsRefused s.world.memory x.tag addr)

-- Neighbours are one block apart.
abbrev pub NeighboursAreOddBlocksApart : Type 0
NeighboursAreOddBlocksApart = (p q : Place) → AreNeighbours p q → AreOddBlocksApart p q
