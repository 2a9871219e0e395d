-- Accesses that fault, and blocks next to each other.
use Rattle.std.specs.Prelude.{◌≡◌, ℕ, ◌+◌, ◌%◌, ◌^◌, ◌<◌, ◌≤◌, ◌⊎◌, true, IsSome}
use Rattle.a64_bits.specs.Addresses.{plain, address_tag}
use Rattle.mte_tags.specs.Memory.{Memory}
use Rattle.mte_tags.specs.Accesses.{read_fault, write_fault}
use Rattle.scudo_header.specs.Classes.{size_of}
use Rattle.scudo_heap.specs.declared.chunk.Place.{Place}
use Rattle.scudo_heap.specs.Chunks.{end_of}
use Rattle.mte_laws.specs.LiveChunks.{BlockChunk}

-- Each checked access that touches an address through a pointer with a tag faults.
abbrev pub IsRefused : Memory → ℕ → ℕ → Type 0
IsRefused m tag a =
    (pointer n i : ℕ) → address_tag pointer ≡ tag → i < n → (plain pointer + i) % 2 ^ 56 ≡ a
    → IsSome (read_fault m pointer n true) × IsSome (write_fault m pointer n true)

-- Each checked access through the pointer to a chunk that touches one of its granules faults.
abbrev pub IsOutOfReach : Memory → BlockChunk → Type 0
IsOutOfReach m x =
    (addr : ℕ) → x.place.user ≤ addr → addr < end_of x.place → IsRefused m x.tag addr

-- One of two blocks of a class begins where the other ends.
abbrev pub AreNeighbours : Place → Place → Type 0
AreNeighbours p q = (p.class ≡ q.class)
    × ((p.block + size_of p.class ≡ q.block) ⊎ (q.block + size_of q.class ≡ p.block))
