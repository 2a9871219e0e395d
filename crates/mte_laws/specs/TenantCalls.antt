-- The memory that a tenant may use, and its heap calls.
use Rattle.std.specs.Prelude.{◌≡◌, ℕ, Some, ◌≢◌, true}
use Rattle.scudo_secondary.specs.Mappings as secondary
use Rattle.scudo_heap.specs.Chunks.{end_of}
use Rattle.mte_tenant.specs.Machines.{Machine, runs, after_attempt}
use Rattle.mte_sched.specs.Lives.{Session, Life}
use Rattle.mte_laws.specs.LiveChunks.{BlockChunk, chunk_at}
use Rattle.mte_laws.specs.LivePages.{PageChunk, large_at}
use Rattle.mte_laws.specs.CarefulRuns.{Live, IsCareful, state_after_call}
use Rattle.mte_laws.specs.CarefulSessions.{IsCarefulIn, state_in}
use Rattle.mte_laws.specs.SoundHeaps.{Sound}
use Rattle.scudo_heap.specs.declared.call.HeapCall.{HeapCall}
use Rattle.mte_svc.specs.Results.{x_of}
use Rattle.mte_laws.specs.CarefulTenants.{state_of, next_call, IsCarefulNext, live_after}
use Rattle.mte_laws.specs.Uses.{IsUsable}
use Rattle.mte_laws.specs.Answers.{HasUsableBytes, asked_bytes}

-- No access through the pointer to a live chunk of a tenant of a session whose slices were careful
-- faults, if its bytes are in the chunk's granules or in pages of its own.
pub record ChunksOfTenantsMayBeUsed : Type 0 where
  pub blocks :
      (s : Session) (life : Life) (m : Machine) (u : ℕ) (x : BlockChunk)
      → IsCarefulIn s life m → chunk_at (state_in life m).live.blocks u ≡ Some x
      → IsUsable m.memory x.tag x.place.user (end_of x.place)
  pub pages :
      (s : Session) (life : Life) (m : Machine) (u : ℕ) (x : PageChunk)
      → IsCarefulIn s life m → large_at (state_in life m).live.pages u ≡ Some x
      → IsUsable m.memory 0 x.mapping.start (secondary.end_of x.mapping)

-- The bytes that a careful service asks for may be used through x0, where this is not the null
-- pointer, whatever slice it is in.
abbrev pub AskedBytesOfTenantsMayBeUsed : Type 0
AskedBytesOfTenantsMayBeUsed =
    (left : ℕ) (m : Machine) (l : Live) (c : HeapCall) → Sound (state_of m l) → IsCarefulNext m l
    → next_call m ≡ Some c → runs (after_attempt left m).machine ≡ true
    → x_of (after_attempt left m).machine.parts 0 ≢ 0
    → HasUsableBytes (after_attempt left m).machine.memory
    (x_of (after_attempt left m).machine.parts 0) (asked_bytes c)

-- The next heap call of a careful tenant is a careful call of its state, and leaves the state that
-- the call leaves. So what a law says of a careful call it says of a careful tenant's.
abbrev pub ServicesAreCalls : Type 0
ServicesAreCalls =
    (left : ℕ) (m : Machine) (l : Live) (c : HeapCall) → Sound (state_of m l) → IsCarefulNext m l
    → next_call m ≡ Some c
    → IsCareful (state_of m l) c
    × (state_of (after_attempt left m).machine (live_after m l) ≡ state_after_call c (state_of m l))
