-- The effect of free, realloc and usable_size by a stale pointer: they go by its address alone.
use Rattle.std.specs.Prelude.{◌≡◌, ◌≢◌, ℕ, None, Ok}
use Rattle.a64_bits.specs.Addresses.{plain}
use Rattle.scudo_heap.specs.declared.call.HeapCall.TheVariants.{Free, Realloc, UsableSize}
use Rattle.scudo_heap.specs.Placing.{World}
use Rattle.scudo_heap.specs.Calls.{after_call}
use Rattle.mte_laws.specs.LiveChunks.{BlockChunk, chunk_at}
use Rattle.mte_laws.specs.Laws.{IsOutOfReach}
use Rattle.mte_laws.specs.CarefulRuns.{State, state_after_call, IsLiveBlock, HasFreeBlock}
use Rattle.mte_laws.specs.SoundHeaps.{Sound}
use Rattle.mte_laws.specs.Frees.{IsAborted}

-- Two pointers are one to the calls that name what is there.
pub record AreOneTo (w : World) (pointer owner : ℕ) : Type 0 where
  pub free : after_call w (Free pointer) ≡ after_call w (Free owner)
  pub realloc :
      (size : ℕ) → after_call w (Realloc pointer size) ≡ after_call w (Realloc owner size)
  pub usable_size : after_call w (UsableSize pointer) ≡ after_call w (UsableSize owner)

-- The chunk that is live at the address of a pointer was freed by it, whoever's it is.
-- lost: each checked access through its owner's pointer to its granules faults then
-- aborted: and each call by the owner aborts
pub record IsFreedBy (s : State) (pointer : ℕ) (x : BlockChunk) : Type 0 where
  pub answer : (after_call s.world (Free pointer)).answer ≡ Ok 0
  pub gone : chunk_at (state_after_call (Free pointer) s).live.blocks (plain pointer) ≡ None
  pub free : HasFreeBlock x (state_after_call (Free pointer) s)
  pub lost : IsOutOfReach (state_after_call (Free pointer) s).world.memory x
  pub aborted :
      (owner : ℕ) → plain owner ≡ plain pointer
      → IsAborted (state_after_call (Free pointer) s).world owner

-- one: a pointer with another tag, as one to a chunk that was there before, does what its owner's
-- does
-- freed: so a free by it frees the chunk, with no fault and no abort
pub record StaleCallsAreServed : Type 0 where
  pub one :
      (w : World) (pointer owner : ℕ) → pointer ≢ 0 → owner ≢ 0 → plain pointer ≡ plain owner
      → AreOneTo w pointer owner
  pub freed :
      (s : State) (pointer : ℕ) (x : BlockChunk) → Sound s → IsLiveBlock s (plain pointer) x
      → IsFreedBy s pointer x
