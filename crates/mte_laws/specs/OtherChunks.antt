-- A call leaves the chunks alone that it does not name.
use Rattle.std.specs.Prelude.{◌≡◌, ◌≢◌, ℕ, ◌-◌, ◌<◌, ◌≤◌, Some}
use Rattle.a64_bits.specs.Addresses.{plain}
use Rattle.mte_tags.specs.Memory.{Memory, byte_at}
use Rattle.scudo_secondary.specs.Mappings as secondary
use Rattle.scudo_heap.specs.declared.call.HeapCall.{HeapCall}
use Rattle.scudo_heap.specs.Chunks.{end_of}
use Rattle.mte_laws.specs.LiveChunks.{BlockChunk, chunk_at}
use Rattle.mte_laws.specs.LivePages.{PageChunk, large_at}
use Rattle.mte_laws.specs.CarefulRuns.{State, state_after_call, IsCareful}
use Rattle.mte_laws.specs.CarefulRuns.{IsLiveBlock, IsLiveLarge}
use Rattle.mte_laws.specs.SoundHeaps.{Sound}
use Rattle.mte_laws.specs.Discipline.{MayFree}

-- A call neither frees nor reallocates what is at a user address.
abbrev pub IsOfOthers : HeapCall → ℕ → Type 0
IsOfOthers c user = (pointer : ℕ) → MayFree pointer c → plain pointer ≢ user

-- The bytes from an address up to another are the same in two memories.
abbrev pub AreSame : Memory → Memory → ℕ → ℕ → Type 0
AreSame m n from to =
    (addr : ℕ) → from ≤ addr → addr < to → byte_at n addr ≡ byte_at m addr

-- A careful call leaves every other live chunk live, with its bytes and its header: to the end of
-- its last granule, or on all its pages.
pub record OtherChunksStay : Type 0 where
  pub blocks :
      (s : State) (c : HeapCall) (u : ℕ) (x : BlockChunk) → Sound s → IsCareful s c
      → IsOfOthers c u → chunk_at s.live.blocks u ≡ Some x
      → (chunk_at (state_after_call c s).live.blocks u ≡ Some x)
      × AreSame s.world.memory (state_after_call c s).world.memory (u - 16) (end_of x.place)
  pub pages :
      (s : State) (c : HeapCall) (u : ℕ) (x : PageChunk) → Sound s → IsCareful s c
      → IsOfOthers c u → large_at s.live.pages u ≡ Some x
      → (large_at (state_after_call c s).live.pages u ≡ Some x)
      × AreSame s.world.memory (state_after_call c s).world.memory x.mapping.start
      (secondary.end_of x.mapping)

-- So a chunk whose header is as the heap wrote it stays one.
pub record OtherHeadersStay : Type 0 where
  pub blocks :
      (s : State) (c : HeapCall) (u : ℕ) (x : BlockChunk) → Sound s → IsCareful s c
      → IsOfOthers c u → IsLiveBlock s u x → IsLiveBlock (state_after_call c s) u x
  pub pages :
      (s : State) (c : HeapCall) (u : ℕ) (x : PageChunk) → Sound s → IsCareful s c
      → IsOfOthers c u → IsLiveLarge s u x → IsLiveLarge (state_after_call c s) u x
