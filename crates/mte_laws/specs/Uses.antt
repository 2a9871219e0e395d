-- A live chunk may be used.
use Rattle.std.specs.Prelude.{◌≡◌, ℕ, ◌+◌, ◌≤◌, Bool, Some, None}
use Rattle.a64_bits.specs.Addresses.{plain, address_tag}
use Rattle.mte_tags.specs.Memory.{Memory}
use Rattle.mte_tags.specs.Accesses.{read_fault, write_fault}
use Rattle.scudo_secondary.specs.Mappings as secondary
use Rattle.scudo_heap.specs.Chunks.{end_of}
use Rattle.mte_laws.specs.LiveChunks.{BlockChunk, chunk_at}
use Rattle.mte_laws.specs.LivePages.{PageChunk, large_at}
use Rattle.mte_laws.specs.CarefulRuns.{State}
use Rattle.mte_laws.specs.SoundHeaps.{Sound}

-- No read and no write through a pointer with a tag faults, checked or not, whose bytes are between
-- two addresses.
abbrev pub IsUsable : Memory → ℕ → ℕ → ℕ → Type 0
IsUsable m tag from to =
    (pointer n : ℕ) (check : Bool) → address_tag pointer ≡ tag
    → from ≤ plain pointer → plain pointer + n ≤ to
    → (read_fault m pointer n check ≡ None) × (write_fault m pointer n check ≡ None)

-- No access through the pointer to a live chunk faults whose bytes are in its granules or, where it
-- has pages of its own, in these.
pub record ChunksMayBeUsed : Type 0 where
  pub blocks :
      (s : State) (u : ℕ) (x : BlockChunk) → Sound s → chunk_at s.live.blocks u ≡ Some x
      → IsUsable s.world.memory x.tag x.place.user (end_of x.place)
  pub pages :
      (s : State) (u : ℕ) (x : PageChunk) → Sound s → large_at s.live.pages u ≡ Some x
      → IsUsable s.world.memory 0 x.mapping.start (secondary.end_of x.mapping)
