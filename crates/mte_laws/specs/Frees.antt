-- A chunk that was freed is not freed again.
use Rattle.std.specs.Prelude.{◌≡◌, ℕ, ◌-◌, Err}
use Rattle.a64_bits.specs.Addresses.{plain}
use Rattle.scudo_header.specs.declared.headers.Header.{Header}
use Rattle.scudo_header.specs.declared.headers.State.TheVariants.{Available}
use Rattle.scudo_heap.specs.declared.abort.HeapAbort.{HeapAbort}
use Rattle.scudo_heap.specs.declared.abort.HeapAbort.TheVariants.{InvalidState}
use Rattle.scudo_heap.specs.declared.call.HeapCall.{HeapCall}
use Rattle.scudo_heap.specs.declared.call.HeapCall.TheVariants.{Free, Realloc, UsableSize}
use Rattle.scudo_heap.specs.Placing.{World}
use Rattle.scudo_heap.specs.Calls.{CallResult, after_call}
use Rattle.mte_laws.specs.LiveChunks.{BlockChunk}
use Rattle.mte_laws.specs.CarefulRuns.{State, state_after_call, HasHeader, IsCareful}
use Rattle.mte_laws.specs.CarefulRuns.{Step, quiet, call, Run, stop, next, HasFreeBlock}
use Rattle.mte_laws.specs.SoundHeaps.{Sound}
use Rattle.mte_laws.specs.Discipline.{Deallocation, KeepsFree}
use Rattle.mte_laws.specs.OtherChunks.{AreSame}

-- The header of a chunk of a size class after its free.
abbrev pub freed_header : BlockChunk → Header
freed_header x = record (x.header) { state = Available }

-- The chunk's header is the one that its free wrote.
abbrev pub HasFreedHeader : World → BlockChunk → Type 0
HasFreedHeader w x = HasHeader w x.place.user (freed_header x)

-- A call that aborts and changes nothing.
abbrev pub aborted : HeapAbort → World → CallResult
aborted e w = record { world = w; answer = Err e }

-- Each call that names what is at a pointer aborts.
pub record AbortsBy (e : HeapAbort) (w : World) (pointer : ℕ) : Type 0 where
  pub free : after_call w (Free pointer) ≡ aborted e w
  pub realloc : (size : ℕ) → after_call w (Realloc pointer size) ≡ aborted e w
  pub usable_size : after_call w (UsableSize pointer) ≡ aborted e w

-- It aborts at the state that the header gives.
abbrev pub IsAborted : World → ℕ → Type 0
IsAborted = AbortsBy InvalidState

-- ---- steps that leave a header alone

-- A step that is no heap call leaves the eight bytes of the header of a user address.
abbrev pub KeepsHeader : {a b : State} → ℕ → Step a b → Type 0
KeepsHeader {a} {b} user (quiet q) = AreSame a.world.memory b.world.memory (user - 16) (user - 8)
KeepsHeader user (call c careful e) = Unit {0}

-- All steps of a run do.
unfoldable pub LeavesHeader : {P : State → Type 0} {a b : State} → ℕ → Run P a b → Type 0
LeavesHeader user stop = Unit {0}
LeavesHeader user (next step p run) = KeepsHeader user step × LeavesHeader user run

-- header: the call that frees a chunk of a size class writes its header
-- direct: directly after it each call that names the chunk, by whatever tag, aborts
-- later: so it does later in a careful run, until an allocation takes the chunk's block, while the
-- header is the one that the free wrote
-- left: so it does where the steps between that are no heap calls leave the header
pub record DoubleFreesAbort : Type 0 where
  pub header :
      (a : State) (d : Deallocation a) → Sound a
      → HasFreedHeader (state_after_call d.call a).world d.chunk
  pub direct :
      (a : State) (d : Deallocation a) (pointer : ℕ) → Sound a
      → plain pointer ≡ plain d.pointer → IsAborted (state_after_call d.call a).world pointer
  pub later :
      (a b : State) (d : Deallocation a) (pointer : ℕ) → Sound a → KeepsFree d b
      → HasFreedHeader b.world d.chunk → plain pointer ≡ plain d.pointer
      → IsAborted b.world pointer
  pub left :
      (a b : State) (d : Deallocation a) (pointer : ℕ) → Sound a → (run : KeepsFree d b)
      → LeavesHeader d.chunk.place.user run → plain pointer ≡ plain d.pointer
      → IsAborted b.world pointer

-- A careful call leaves the header of a freed chunk whose block it does not take.
abbrev pub FreedHeadersStay : Type 0
FreedHeadersStay =
    (a b : State) (d : Deallocation a) (c : HeapCall) → Sound a → KeepsFree d b → IsCareful b c
    → HasFreeBlock d.chunk (state_after_call c b) → HasFreedHeader b.world d.chunk
    → HasFreedHeader (state_after_call c b).world d.chunk
