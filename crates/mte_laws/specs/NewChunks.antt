-- The chunk that a call makes: it is live, its bytes are zero, and it is where it was asked for.
use Rattle.std.specs.Prelude.{◌≡◌, ℕ, ◌%◌, ◌<◌, ◌≤◌, Some, Ok}
use Rattle.a64_bits.specs.Addresses.{plain}
use Rattle.mte_tags.specs.Memory.{Memory, byte_at}
use Rattle.scudo_header.specs.declared.headers.Header.{Header}
use Rattle.scudo_header.specs.declared.headers.Origin.{Origin}
use Rattle.scudo_header.specs.declared.headers.Origin.TheVariants as origin
use Rattle.scudo_secondary.specs.Mappings as secondary
use Rattle.scudo_heap.specs.declared.call.HeapCall.TheVariants.{Malloc, Calloc, Memalign}
use Rattle.scudo_heap.specs.declared.chunk.Chunk.{Chunk}
use Rattle.scudo_heap.specs.declared.chunk.Chunk.TheVariants.{Small, Large}
use Rattle.scudo_heap.specs.Chunks.{end_of}
use Rattle.scudo_heap.specs.Allocation.{after_malloc, after_calloc, after_memalign}
use Rattle.scudo_heap.specs.Freeing.{usable_size_of}
use Rattle.scudo_heap.specs.Realloc.{user_of_chunk}
use Rattle.mte_laws.specs.LiveChunks.{BlockChunk, chunk_at, new_chunk}
use Rattle.mte_laws.specs.LivePages.{PageChunk, large_at, new_large}
use Rattle.mte_laws.specs.CarefulRuns.{State, state_after_call, IsLiveBlock, IsLiveLarge}
use Rattle.mte_laws.specs.SoundHeaps.{Sound}

-- A chunk is live at its user address, with the header of a new one.
abbrev pub HasNewChunk : State → Origin → Chunk → Type 0
HasNewChunk s o (Small p tag) = IsLiveBlock s p.user (new_chunk o p tag)
HasNewChunk s o (Large m size) = IsLiveLarge s m.user (new_large o m size)

-- A chunk is live at its user address, with its size, its tag and a header that the heap wrote.
abbrev pub HasChunk : State → Chunk → Type 0
HasChunk s (Small p tag) =
    (header : Header) × IsLiveBlock s p.user (record { place = p; tag = tag; header = header })
HasChunk s (Large m size) =
    (header : Header)
    × IsLiveLarge s m.user (record { mapping = m; size = size; header = header })

-- The chunk that a call makes is live, with the header that the heap wrote.
pub record NewChunksAreLive : Type 0 where
  pub malloc :
      (s : State) (size : ℕ) (x : Chunk) → Sound s
      → (after_malloc s.world size).chunk ≡ Some x
      → HasNewChunk (state_after_call (Malloc size) s) origin.Malloc x
  pub calloc :
      (s : State) (count size : ℕ) (x : Chunk) → Sound s
      → (after_calloc s.world count size).chunk ≡ Some x
      → HasNewChunk (state_after_call (Calloc count size) s) origin.Malloc x
  pub memalign :
      (s : State) (align size : ℕ) (x : Chunk) → Sound s
      → (after_memalign s.world align size).chunk ≡ Some x
      → HasNewChunk (state_after_call (Memalign align size) s) origin.Memalign x

-- The bytes of a chunk are zero to the end of its last granule, or of its last page.
abbrev pub IsZero : Memory → Chunk → Type 0
IsZero m (Small p tag) =
    (addr : ℕ) → p.user ≤ addr → addr < end_of p → byte_at m addr ≡ 0
IsZero m (Large n size) =
    (addr : ℕ) → n.user ≤ addr → addr < secondary.end_of n → byte_at m addr ≡ 0

-- The bytes of the chunk that a call makes are zero, whatever its block held.
pub record NewChunksAreZero : Type 0 where
  pub malloc :
      (s : State) (size : ℕ) (x : Chunk) → Sound s
      → (after_malloc s.world size).chunk ≡ Some x
      → IsZero (state_after_call (Malloc size) s).world.memory x
  pub calloc :
      (s : State) (count size : ℕ) (x : Chunk) → Sound s
      → (after_calloc s.world count size).chunk ≡ Some x
      → IsZero (state_after_call (Calloc count size) s).world.memory x
  pub memalign :
      (s : State) (align size : ℕ) (x : Chunk) → Sound s
      → (after_memalign s.world align size).chunk ≡ Some x
      → IsZero (state_after_call (Memalign align size) s).world.memory x

-- The address of a live chunk is a multiple of 16, that of a memalign of its alignment; usable_size
-- answers the size of a live chunk.
pub record SizesAndAlignments : Type 0 where
  pub blocks :
      (s : State) (u : ℕ) (x : BlockChunk) → Sound s → chunk_at s.live.blocks u ≡ Some x
      → u % 16 ≡ 0
  pub pages :
      (s : State) (u : ℕ) (x : PageChunk) → Sound s → large_at s.live.pages u ≡ Some x
      → u % 16 ≡ 0
  pub memalign :
      (s : State) (align size : ℕ) (x : Chunk) → Sound s
      → (after_memalign s.world align size).chunk ≡ Some x → user_of_chunk x % align ≡ 0
  pub block_size :
      (s : State) (pointer : ℕ) (x : BlockChunk) → Sound s → IsLiveBlock s (plain pointer) x
      → usable_size_of s.world.memory s.world.heap pointer ≡ Ok x.place.size
  pub pages_size :
      (s : State) (pointer : ℕ) (x : PageChunk) → Sound s → IsLiveLarge s (plain pointer) x
      → usable_size_of s.world.memory s.world.heap pointer ≡ Ok x.size
