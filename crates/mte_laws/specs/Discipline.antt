-- The tag discipline of careful runs, in the synchronous mode: of a state, and of a run from one.
use Rattle.std.specs.Prelude.{◌≡◌, ◌≢◌, ℕ, ◌+◌, ◌/◌, ◌%◌, ◌^◌, ◌<◌, ◌≤◌, ◌⊎◌, Bool}
use Rattle.std.specs.Prelude.{Some, None, IsSome, false}
use Rattle.std.specs.List.{list_any}
use Rattle.mte_tags.specs.Accesses.{byte_fault}
use Rattle.mte_tags.specs.declared.access.Access.{Access}
use Rattle.common.specs.declared.ranges.TheConstants.{SECONDARY_START, SECONDARY_END}
use Rattle.a64_bits.specs.Addresses.{plain}
use Rattle.mte_tags.specs.Memory.{Memory, attrs_at, tag_at}
use Rattle.mte_tags.specs.Accesses.{read_fault, write_fault}
use Rattle.mte_tags.specs.declared.generator.Rgsr.{Rgsr}
use Rattle.mte_tags.specs.declared.state.TagMode.TheVariants.{Sync}
use Rattle.mte_tags.specs.Whole.{IsWhole}
use Rattle.common.specs.declared.limits.TheConstants.{MAX_PAGES}
use Rattle.scudo_secondary.specs.Mappings as secondary
use Rattle.scudo_heap.specs.declared.call.HeapCall.{HeapCall}
use Rattle.scudo_heap.specs.declared.call.HeapCall.TheVariants.{Realloc, Free}
use Rattle.scudo_heap.specs.declared.chunk.Place.{Place}
use Rattle.scudo_heap.specs.declared.chunk.Chunk.TheVariants.{Small}
use Rattle.scudo_heap.specs.declared.chunk.Found.{Found}
use Rattle.scudo_heap.specs.Realloc.{after_move}
use Rattle.scudo_heap.specs.Heaps.{empty_heap}
use Rattle.scudo_heap.specs.Chunks.{end_of}
use Rattle.scudo_heap.specs.Placing.{world_of}
use Rattle.scudo_heap.specs.Allocation.{AllocationResult, after_malloc, after_calloc}
use Rattle.scudo_heap.specs.Allocation.{after_memalign}
use Rattle.scudo_heap.specs.Served.{IsUntouched, is_inside}
use Rattle.mte_laws.specs.LiveChunks.{BlockChunk, chunk_at}
use Rattle.mte_laws.specs.LivePages.{PageChunk, large_at}
use Rattle.mte_laws.specs.Laws.{IsRefused, IsOutOfReach, AreNeighbours}
use Rattle.mte_laws.specs.CarefulRuns.{State, no_chunks, state_after_call}
use Rattle.mte_laws.specs.CarefulRuns.{IsLiveBlock, IsLiveLarge, Run, HasFreeBlock}
use Rattle.mte_laws.specs.SoundHeaps.{Sound}

-- ---- what holds from the start on

-- A new heap and a memory that it may be used with.
pub record IsNew (m : Memory) (pages : ℕ) : Type 0 where
  pub whole : IsWhole m
  pub sync : m.state.mode ≡ Sync
  pub limit : m.limit ≤ pages
  pub most : pages ≤ MAX_PAGES
  pub untouched : IsUntouched m

-- A new heap with a memory for it is sound.
abbrev pub StartsSound : Type 0
StartsSound =
    (m : Memory) (cookie pages : ℕ) (r : Rgsr) → IsNew m pages
    → Sound (record { world = world_of m (empty_heap cookie pages) r; live = no_chunks })

-- A careful run keeps what the other laws rest on.
abbrev pub StaysSound : Type 0
StaysSound = (a b : State) → Run (λ s. Unit {0}) a b → Sound a → Sound b

-- ---- a freed chunk

-- The call is one that may free the chunk that a pointer names.
abbrev pub MayFree : ℕ → HeapCall → Type 0
MayFree pointer c = (c ≡ Free pointer) ⊎ ((size : ℕ) × (c ≡ Realloc pointer size))

-- A heap call that frees the live chunk of a size class that its pointer names.
pub record Deallocation (a : State) : Type 0 where
  pub pointer : ℕ
  pub call : HeapCall
  pub chunk : BlockChunk
  pub live : IsLiveBlock a (plain pointer) chunk
  pub may : MayFree pointer call
  pub free : HasFreeBlock chunk (state_after_call call a)

-- From the call on, up to the state b, no allocation has taken the chunk's block.
abbrev pub KeepsFree : {a : State} → Deallocation a → State → Type 0
KeepsFree {a} d b = Run (HasFreeBlock d.chunk) (state_after_call d.call a) b

-- From the call that freed a chunk of a size class until an allocation takes its block, each
-- checked access through the pointer to it that touches one of its granules faults.
abbrev pub FreedBlocksAreRefused : Type 0
FreedBlocksAreRefused =
    (a b : State) (d : Deallocation a)
    → Sound a → KeepsFree d b → IsOutOfReach b.world.memory d.chunk

-- After the free of a live chunk of a size class its block is free.
abbrev pub FreedBlocksAreFree : Type 0
FreedBlocksAreFree =
    (s : State) (pointer : ℕ) (x : BlockChunk) → Sound s → IsLiveBlock s (plain pointer) x
    → HasFreeBlock x (state_after_call (Free pointer) s)

-- Each access that touches an address faults, checked or not.
abbrev pub IsUnmapped : Memory → ℕ → Type 0
IsUnmapped m a =
    (pointer n i : ℕ) (check : Bool) → i < n → (plain pointer + i) % 2 ^ 56 ≡ a
    → IsSome (read_fault m pointer n check) × IsSome (write_fault m pointer n check)

-- A free of a chunk with pages of its own leaves no mapping there, nor does a reallocation after
-- which it is live no more; as long as a page is not mapped, each access to it faults.
pub record FreedPagesAreUnmapped : Type 0 where
  pub freed :
      (a : State) (pointer addr : ℕ) (x : PageChunk) → Sound a → IsLiveLarge a (plain pointer) x
      → x.mapping.start ≤ addr → addr < secondary.end_of x.mapping
      → list_any (is_inside addr) (state_after_call (Free pointer) a).world.heap.maps.mappings
      ≡ false
  pub gone :
      (a : State) (pointer addr : ℕ) (c : HeapCall) (x : PageChunk)
      → Sound a → IsLiveLarge a (plain pointer) x → MayFree pointer c
      → large_at (state_after_call c a).live.pages (plain pointer) ≡ None
      → x.mapping.start ≤ addr → addr < secondary.end_of x.mapping
      → list_any (is_inside addr) (state_after_call c a).world.heap.maps.mappings ≡ false
  pub refused :
      (m : Memory) (addr : ℕ)
      → m.state.mode ≡ Sync → attrs_at m (addr / 4096) ≡ None → IsUnmapped m addr

-- Where no mapping of the heap holds an address of the range of chunks with pages of their own, as
-- after the free or the move of such a chunk until its pages are mapped again, each access to it
-- faults.
abbrev pub FreedPagesAreRefused : Type 0
FreedPagesAreRefused =
    (s : State) (addr : ℕ) → Sound s → SECONDARY_START ≤ addr → addr < SECONDARY_END
    → list_any (is_inside addr) s.world.heap.maps.mappings ≡ false
    → IsUnmapped s.world.memory addr
    × ((x : Access) → IsSome (byte_fault s.world.memory x addr))

-- ---- a new chunk

-- A new chunk of a size class has a tag other than 0 and other than the one that was there.
pub record IsFreshIn (s : State) (r : AllocationResult) : Type 0 where
  pub some : (p : Place) (t : ℕ) → r.chunk ≡ Some (Small p t) → t ≢ 0
  pub other :
      (p : Place) (t : ℕ) → r.chunk ≡ Some (Small p t) → t ≢ tag_at s.world.memory p.user

-- Each call that makes a chunk gives it a fresh tag.
pub record NewTagsDiffer : Type 0 where
  pub malloc : (s : State) (size : ℕ) → Sound s → IsFreshIn s (after_malloc s.world size)
  pub calloc :
      (s : State) (count size : ℕ) → Sound s → IsFreshIn s (after_calloc s.world count size)
  pub memalign :
      (s : State) (align size : ℕ) → Sound s → IsFreshIn s (after_memalign s.world align size)
  pub realloc :
      (s : State) (f : Found) (size : ℕ) → Sound s → IsFreshIn s (after_move s.world f size)

-- A call that makes a new chunk.
pub data IsNewIn (s : State) (r : AllocationResult) : Type 0 where
  malloc : (size : ℕ) → r ≡ after_malloc s.world size → IsNewIn s r
  calloc : (count size : ℕ) → r ≡ after_calloc s.world count size → IsNewIn s r
  memalign : (align size : ℕ) → r ≡ after_memalign s.world align size → IsNewIn s r
  realloc : (f : Found) (size : ℕ) → r ≡ after_move s.world f size → IsNewIn s r

-- A call that makes a new chunk at an address gives it another tag.
abbrev pub AreOtherTags : State → ℕ → ℕ → Type 0
AreOtherTags s user tag =
    (r : AllocationResult) (p : Place) (t : ℕ)
    → IsNewIn s r → r.chunk ≡ Some (Small p t) → p.user ≡ user → t ≢ tag

-- The tag that the granules of a freed chunk have after the call.
abbrev pub given_tag : {a : State} → Deallocation a → ℕ
given_tag {a} d = tag_at (state_after_call d.call a).world.memory d.chunk.place.user

-- The first allocation that takes the block of a freed chunk, where it gives out the same address:
-- its tag is not the one that the free gave.
abbrev pub ReusedTagsDiffer : Type 0
ReusedTagsDiffer =
    (a b : State) (d : Deallocation a)
    → Sound a → KeepsFree d b → AreOtherTags b d.chunk.place.user (given_tag d)

-- ---- live chunks

-- The granules of a live chunk have the tag of the pointer to it: 0 where it has pages of its own.
pub record ChunksAreTagged : Type 0 where
  pub blocks :
      (s : State) (u addr : ℕ) (x : BlockChunk) → Sound s → chunk_at s.live.blocks u ≡ Some x
      → x.place.user ≤ addr → addr < end_of x.place → tag_at s.world.memory addr ≡ x.tag
  pub pages :
      (s : State) (u addr : ℕ) (x : PageChunk) → Sound s → large_at s.live.pages u ≡ Some x
      → x.mapping.start ≤ addr → addr < secondary.end_of x.mapping
      → tag_at s.world.memory addr ≡ 0

-- Two live chunks in neighbouring blocks of a class have different tags, so each checked access
-- through the pointer to one of them that touches a granule of the other faults.
abbrev pub NeighboursDiffer : Type 0
NeighboursDiffer =
    (s : State) (u v : ℕ) (x y : BlockChunk) → Sound s
    → chunk_at s.live.blocks u ≡ Some x → chunk_at s.live.blocks v ≡ Some y
    → AreNeighbours x.place y.place
    → (x.tag ≢ y.tag)
    × ((addr : ℕ) → y.place.user ≤ addr → addr < end_of y.place
    → IsRefused s.world.memory x.tag addr)

-- No two live chunks overlap, each with the granule of its header.
pub record ChunksAreApart : Type 0 where
  pub blocks :
      (s : State) (u v : ℕ) (x y : BlockChunk) → Sound s
      → chunk_at s.live.blocks u ≡ Some x → chunk_at s.live.blocks v ≡ Some y → u ≢ v
      → (end_of x.place + 16 ≤ y.place.user) ⊎ (end_of y.place + 16 ≤ x.place.user)
  pub pages :
      (s : State) (u v : ℕ) (x y : PageChunk) → Sound s
      → large_at s.live.pages u ≡ Some x → large_at s.live.pages v ≡ Some y → u ≢ v
      → (u + x.size + 16 ≤ v) ⊎ (v + y.size + 16 ≤ u)
  pub both :
      (s : State) (u v : ℕ) (x : BlockChunk) (y : PageChunk) → Sound s
      → chunk_at s.live.blocks u ≡ Some x → large_at s.live.pages v ≡ Some y
      → end_of x.place + 16 ≤ v

-- Each checked access through the pointer to a live chunk of a size class that touches the granule
-- just before or just after its granules faults.
pub record ChunksAreGuarded : Type 0 where
  pub before :
      (s : State) (u addr : ℕ) (x : BlockChunk) → Sound s → chunk_at s.live.blocks u ≡ Some x
      → x.place.user ≤ addr + 16 → addr < x.place.user → IsRefused s.world.memory x.tag addr
  pub after :
      (s : State) (u addr : ℕ) (x : BlockChunk) → Sound s → chunk_at s.live.blocks u ≡ Some x
      → end_of x.place ≤ addr → addr < end_of x.place + 16
      → IsRefused s.world.memory x.tag addr
