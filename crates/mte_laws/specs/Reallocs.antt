-- The effect of a reallocation on the chunk that it names.
use Rattle.std.specs.Prelude.{◌≡◌, ◌≢◌, ℕ, ◌+◌, ◌<◌, ◌≤◌}
use Rattle.std.specs.Prelude.{Some, Ok, false}
use Rattle.std.specs.List.{list_any}
use Rattle.a64_bits.specs.Addresses.{plain}
use Rattle.mte_tags.specs.Memory.{byte_at}
use Rattle.scudo_secondary.specs.Mappings as secondary
use Rattle.scudo_heap.specs.declared.call.HeapCall.TheVariants.{Realloc}
use Rattle.scudo_heap.specs.declared.chunk.Chunk.{Chunk}
use Rattle.scudo_heap.specs.Served.{is_inside}
use Rattle.scudo_heap.specs.Realloc.{after_realloc, user_of_chunk}
use Rattle.mte_laws.specs.LiveChunks.{BlockChunk}
use Rattle.mte_laws.specs.LivePages.{PageChunk}
use Rattle.mte_laws.specs.CarefulRuns.{State, state_after_call, IsLiveBlock, IsLiveLarge}
use Rattle.mte_laws.specs.CarefulRuns.{HasFreeBlock, IsCareful}
use Rattle.mte_laws.specs.SoundHeaps.{Sound}
use Rattle.mte_laws.specs.NewChunks.{HasChunk}

-- A reallocation of a live chunk keeps the bytes that both sizes have.
pub record ReallocKeepsBytes : Type 0 where
  pub blocks :
      (s : State) (pointer size i : ℕ) (x : BlockChunk) (c : Chunk)
      → Sound s → IsLiveBlock s (plain pointer) x
      → (after_realloc s.world pointer size).result ≡ Ok (Some c)
      → i < x.place.size → i < size
      → byte_at (state_after_call (Realloc pointer size) s).world.memory (user_of_chunk c + i)
      ≡ byte_at s.world.memory (x.place.user + i)
  pub pages :
      (s : State) (pointer size i : ℕ) (x : PageChunk) (c : Chunk)
      → Sound s → IsLiveLarge s (plain pointer) x
      → (after_realloc s.world pointer size).result ≡ Ok (Some c)
      → i < x.size → i < size
      → byte_at (state_after_call (Realloc pointer size) s).world.memory (user_of_chunk c + i)
      ≡ byte_at s.world.memory (x.mapping.user + i)

-- nothing: a reallocation to size 0 leaves the chunk's block free
-- moved: so does one that answers another address
pub record ReallocFreesBlocks : Type 0 where
  pub nothing :
      (s : State) (pointer : ℕ) (x : BlockChunk) → Sound s → IsLiveBlock s (plain pointer) x
      → HasFreeBlock x (state_after_call (Realloc pointer 0) s)
  pub moved :
      (s : State) (pointer size : ℕ) (x : BlockChunk) (c : Chunk)
      → Sound s → IsLiveBlock s (plain pointer) x
      → (after_realloc s.world pointer size).result ≡ Ok (Some c)
      → user_of_chunk c ≢ x.place.user
      → HasFreeBlock x (state_after_call (Realloc pointer size) s)

-- nothing: a reallocation to size 0 leaves no mapping of a chunk with pages of its own
-- moved: nor does one that answers a chunk
pub record ReallocUnmapsPages : Type 0 where
  pub nothing :
      (s : State) (pointer addr : ℕ) (x : PageChunk)
      → Sound s → IsLiveLarge s (plain pointer) x
      → x.mapping.start ≤ addr → addr < secondary.end_of x.mapping
      → list_any (is_inside addr)
      (state_after_call (Realloc pointer 0) s).world.heap.maps.mappings ≡ false
  pub moved :
      (s : State) (pointer size addr : ℕ) (x : PageChunk) (c : Chunk)
      → Sound s → IsLiveLarge s (plain pointer) x
      → (after_realloc s.world pointer size).result ≡ Ok (Some c)
      → x.mapping.start ≤ addr → addr < secondary.end_of x.mapping
      → list_any (is_inside addr)
      (state_after_call (Realloc pointer size) s).world.heap.maps.mappings ≡ false

-- The chunk that a careful reallocation answers is live, with a header that the heap wrote.
abbrev pub ReallocatedChunksAreLive : Type 0
ReallocatedChunksAreLive =
    (s : State) (pointer size : ℕ) (c : Chunk) → Sound s → IsCareful s (Realloc pointer size)
    → (after_realloc s.world pointer size).result ≡ Ok (Some c)
    → HasChunk (state_after_call (Realloc pointer size) s) c
