-- The life of a chunk of a size class in a tenant of a session: malloc makes it, it is used and
-- freed, and malloc gives out its address again.
use Rattle.std.specs.Prelude.{◌≡◌, ◌≢◌, ℕ, ◌+◌, ◌<◌, ◌≤◌, Some}
use Rattle.a64_bits.specs.Addresses.{plain}
use Rattle.mte_tags.specs.declared.state.TagMode.TheVariants.{Sync}
use Rattle.scudo_header.specs.declared.headers.Origin.TheVariants as origin
use Rattle.scudo_heap.specs.declared.call.HeapCall.TheVariants.{Malloc, Free}
use Rattle.scudo_heap.specs.declared.chunk.Place.{Place}
use Rattle.scudo_heap.specs.declared.chunk.Chunk.TheVariants.{Small}
use Rattle.scudo_heap.specs.Chunks.{end_of}
use Rattle.scudo_heap.specs.Allocation.{after_malloc}
use Rattle.mte_tenant.specs.Machines.{Machine, after_attempt}
use Rattle.mte_sched.specs.Lives.{Session, Life, lives, life_among}
use Rattle.mte_laws.specs.LiveChunks.{BlockChunk, chunk_at, new_chunk}
use Rattle.mte_laws.specs.Laws.{IsRefused, IsOutOfReach}
use Rattle.mte_laws.specs.CarefulRuns.{State, Live, no_chunks, state_after_call}
use Rattle.mte_laws.specs.CarefulRuns.{IsLiveBlock}
use Rattle.mte_laws.specs.CarefulTenants.{state_of, before_service, next_call, live_after}
use Rattle.mte_laws.specs.CarefulTenants.{IsCarefulNext}
use Rattle.mte_laws.specs.CarefulSessions.{first_machine}
use Rattle.mte_laws.specs.SoundHeaps.{Sound}
use Rattle.mte_laws.specs.Discipline.{given_tag}
use Rattle.mte_laws.specs.TenantLaws.{NextDeallocation}
use Rattle.mte_laws.specs.NewChunks.{IsZero}
use Rattle.mte_laws.specs.Uses.{IsUsable}
use Rattle.mte_laws.specs.Distances.{AreOddBlocksApart}
use Rattle.mte_laws.specs.Frees.{HasFreedHeader, IsAborted}
use Rattle.mte_laws.specs.Turns.{Turns, AnyTurns, KeepsFreeThrough, LeavesHeader}

-- The next instruction is careful, and a malloc that makes a chunk in a block.
pub record NextMalloc (m : Machine) (l : Live) : Type 0 where
  pub careful : IsCarefulNext m l
  pub size : ℕ
  pub call : next_call m ≡ Some (Malloc size)
  pub place : Place
  pub tag : ℕ
  pub made :
      (after_malloc (state_of (before_service m) l).world size).chunk ≡ Some (Small place tag)

-- The chunk that it makes.
abbrev pub chunk_made : {m : Machine} {l : Live} → NextMalloc m l → BlockChunk
chunk_made n = new_chunk origin.Malloc n.place n.tag

-- From a tenant's first machine on, by careful turns: malloc makes a chunk, which stays live with
-- its header until it is freed, and its block stays free until malloc gives out its address.
-- maker, user, taker: the machines before the malloc, the free and the second malloc
pub record Lifetime (first : Machine) : Type 0 where
  pub maker : Machine
  pub live_then : Live
  pub before : AnyTurns first no_chunks maker live_then
  pub made : NextMalloc maker live_then
  pub left : ℕ
  pub user : Machine
  pub live_now : Live
  pub usage :
      Turns (λ s. IsLiveBlock s made.place.user (chunk_made made))
      (after_attempt left maker).machine (live_after maker live_then) user live_now
  pub freed : NextDeallocation user live_now
  pub same : freed.freed.chunk ≡ chunk_made made
  pub taker : Machine
  pub live_later : Live
  pub free : KeepsFreeThrough freed taker live_later
  pub taken : NextMalloc taker live_later
  pub again : taken.place.user ≡ made.place.user

-- The state after the malloc that made the chunk.
abbrev pub new_state : {first : Machine} → Lifetime first → State
new_state h = state_of (after_attempt h.left h.maker).machine (live_after h.maker h.live_then)

-- live, zero: the chunk is live when it was made, and its bytes are zero
-- used: until it is freed no access through its pointer within its granules faults
-- before, after: each checked access through it to the granule before or after them does
-- apart: so does each to another live chunk an odd number of blocks apart
-- refused: once it is freed, each checked access through the pointer that touches its granules does
-- aborted: and each call that names it, by whatever tag, aborts, while its header is as the free
-- wrote it
-- left: so it does where the instructions that are no heap calls leave the header
-- reused: malloc gives the address out with another tag than the free gave
-- old: where that is not the chunk's tag either, each checked access through the old pointer to the
-- new chunk faults
pub record IsGuarded {first : Machine} (h : Lifetime first) : Type 0 where
  pub live : IsLiveBlock (new_state h) h.made.place.user (chunk_made h.made)
  pub zero : IsZero (new_state h).world.memory (Small h.made.place h.made.tag)
  pub used : IsUsable h.user.memory h.made.tag h.made.place.user (end_of h.made.place)
  pub before :
      (addr : ℕ) → h.made.place.user ≤ addr + 16 → addr < h.made.place.user
      → IsRefused h.user.memory h.made.tag addr
  pub after :
      (addr : ℕ) → end_of h.made.place ≤ addr → addr < end_of h.made.place + 16
      → IsRefused h.user.memory h.made.tag addr
  pub apart :
      (u addr : ℕ) (y : BlockChunk) → chunk_at h.live_now.blocks u ≡ Some y
      → AreOddBlocksApart h.made.place y.place → y.place.user ≤ addr → addr < end_of y.place
      → IsRefused h.user.memory h.made.tag addr
  pub refused : IsOutOfReach h.taker.memory (chunk_made h.made)
  pub aborted :
      (pointer : ℕ) → plain pointer ≡ plain h.freed.freed.pointer
      → HasFreedHeader (state_of h.taker h.live_later).world (chunk_made h.made)
      → IsAborted (state_of h.taker h.live_later).world pointer
  pub left :
      (pointer : ℕ) → plain pointer ≡ plain h.freed.freed.pointer
      → LeavesHeader h.made.place.user h.free.1
      → IsAborted (state_of h.taker h.live_later).world pointer
  pub reused : h.taken.tag ≢ given_tag h.freed.freed
  pub old :
      (left addr : ℕ) → h.taken.tag ≢ h.made.tag
      → h.taken.place.user ≤ addr → addr < end_of h.taken.place
      → IsRefused (after_attempt left h.taker).machine.memory h.made.tag addr

-- So it is of each tenant that a session admits in the synchronous mode, whatever the other tenants
-- do.
abbrev pub LifetimesAreGuarded : Type 0
LifetimesAreGuarded =
    (s : Session) (life : Life) → life_among life.id (lives s) ≡ Some life
    → life.start.terms.mode ≡ Sync → (h : Lifetime (first_machine life)) → IsGuarded h

-- Wherever malloc makes a chunk in a block, the chunk is out of reach once it is freed, and each
-- call that names it then aborts: the premises of the laws of freed chunks are met.
abbrev pub ChunksFreedAtOnce : Type 0
ChunksFreedAtOnce =
    (s : State) (size : ℕ) (p : Place) (tag : ℕ) → Sound s
    → (after_malloc s.world size).chunk ≡ Some (Small p tag)
    → IsOutOfReach (state_after_call (Free p.user) (state_after_call (Malloc size) s)).world.memory
    (new_chunk origin.Malloc p tag)
    × IsAborted (state_after_call (Free p.user) (state_after_call (Malloc size) s)).world p.user
