-- A heap and its live chunks through the calls of a tenant that stores no tags and leaves the
-- headers of its chunks as the heap wrote them.
--     state_after_call c s   the state after a heap call: the call's world, and the live chunks
--     IsCareful s c          the pointer is one to a live chunk, whose header was not written
--     IsQuiet a b            a step that changes no tag, as every other one of such a tenant
--     Run P a b              steps from a to b, with P after each of them
use Rattle.std.specs.Prelude.{◌≡◌, ◌≢◌, ℕ, ◌-◌, ◌==◌, ◌⊎◌, nat_le, true}
use Rattle.std.specs.Prelude.{Option, Some, None, Result, Ok, Err, if◌then◌else◌}
use Rattle.std.specs.FinMap as finite
use Rattle.std.specs.Int.{to_le_bytes, w64}
use Rattle.a64_bits.specs.Addresses.{plain}
use Rattle.mte_tags.specs.Memory.{tag_at, attrs_at, pages_left}
use Rattle.mte_tags.specs.Accesses.{read_bytes}
use Rattle.mte_tags.specs.Whole.{IsWhole}
use Rattle.scudo_header.specs.Headers.{packed_header}
use Rattle.scudo_header.specs.declared.headers.Header.{Header}
use Rattle.scudo_header.specs.declared.headers.Origin.{Origin}
use Rattle.scudo_header.specs.declared.headers.Origin.TheVariants as origin
use Rattle.scudo_primary.specs.Pools.{is_member}
use Rattle.scudo_heap.specs.declared.abort.HeapAbort.{HeapAbort}
use Rattle.scudo_heap.specs.declared.call.HeapCall.{HeapCall}
use Rattle.scudo_heap.specs.declared.call.HeapCall.TheVariants.{Malloc, Free, Calloc, Realloc}
use Rattle.scudo_heap.specs.declared.call.HeapCall.TheVariants.{Memalign, UsableSize}
use Rattle.scudo_header.specs.declared.config.TheConstants.{MAX_REQUEST}
use Rattle.scudo_heap.specs.declared.chunk.Place.{Place}
use Rattle.scudo_heap.specs.declared.chunk.Chunk.{Chunk}
use Rattle.scudo_heap.specs.declared.chunk.Chunk.TheVariants.{Small, Large}
use Rattle.scudo_heap.specs.declared.chunk.Found.{Found}
use Rattle.scudo_heap.specs.declared.chunk.Found.TheVariants.{InBlock, InPages}
use Rattle.scudo_heap.specs.Stacks.{stack_of}
use Rattle.scudo_heap.specs.Chunks.{end_of, block_end, with_size}
use Rattle.scudo_heap.specs.Placing.{World}
use Rattle.scudo_heap.specs.Allocation.{after_malloc, after_calloc, after_memalign}
use Rattle.scudo_heap.specs.Checks.{check_pointer}
use Rattle.scudo_heap.specs.Calls.{after_call}
use Rattle.mte_laws.specs.LiveChunks.{BlockChunk, LiveBlocks, chunk_at, with_chunk}
use Rattle.mte_laws.specs.LiveChunks.{without_chunk, new_chunk}
use Rattle.mte_laws.specs.LivePages.{PageChunk, LivePages, large_at, with_large}
use Rattle.mte_laws.specs.LivePages.{without_large, new_large}

-- The live chunks: those in blocks, and those with pages of their own.
pub record Live : Type 0 where
  pub blocks : LiveBlocks
  pub pages : LivePages

-- No live chunks.
abbrev pub no_chunks : Live
no_chunks = record { blocks = finite.empty; pages = finite.empty }

-- A world, and the live chunks in it.
pub record State : Type 0 where
  pub world : World
  pub live : Live

-- ---- the live chunks after a call

-- The chunk that a call made is one more.
abbrev pub with_made_chunk : Origin → Live → Option Chunk → Live
with_made_chunk o l None = l
with_made_chunk o l (Some (Small p tag)) =
    record l { blocks = with_chunk l.blocks (new_chunk o p tag) }
with_made_chunk o l (Some (Large m size)) =
    record l { pages = with_large l.pages (new_large o m size) }

-- The chunk that a pointer named is one no more.
abbrev pub without_freed_chunk : Live → Found → Live
without_freed_chunk l (InBlock p header) = record l { blocks = without_chunk l.blocks p.user }
without_freed_chunk l (InPages m header) = record l { pages = without_large l.pages m.user }

abbrev pub live_free_cases : Live → Result Found HeapAbort → Live
live_free_cases l (Err e) = l
live_free_cases l (Ok f) = without_freed_chunk l f

-- A new chunk is in the place of the old one.
abbrev pub live_move_cases : Live → Found → Option Chunk → Live
live_move_cases l f None = l
live_move_cases l f (Some x) = without_freed_chunk (with_made_chunk origin.Malloc l (Some x)) f

-- The chunk in its block, with another size.
abbrev pub with_size_of : Header → ℕ → Header
with_size_of header size = record header { size_or_unused_bytes = size }

-- The chunk has another size in its block.
abbrev pub live_after_resize_in_block : World → Live → Place → Header → ℕ → Live
live_after_resize_in_block w l p header size = record l {
  blocks = with_chunk l.blocks (record {
    place = with_size p size;
    tag = tag_at w.memory p.user;
    header = with_size_of header size;
  });
}

-- A chunk is resized in its block, or moved.
abbrev pub live_after_resize : World → Live → Found → ℕ → Live
live_after_resize w l (InBlock p header) size =
    if nat_le (end_of (with_size p size)) (block_end p)
    then live_after_resize_in_block w l p header size
    else live_move_cases l (InBlock p header) (after_malloc w size).chunk
live_after_resize w l (InPages m header) size =
    live_move_cases l (InPages m header) (after_malloc w size).chunk

-- A chunk is reallocated: freed for size 0, resized, or left for a size that is refused.
abbrev pub live_after_realloc : World → Live → Found → ℕ → Live
live_after_realloc w l f size = if size == 0
    then without_freed_chunk l f
    else (if nat_le size MAX_REQUEST then live_after_resize w l f size else l)

abbrev pub live_realloc_cases : World → Live → ℕ → Result Found HeapAbort → Live
live_realloc_cases w l size (Err e) = l
live_realloc_cases w l size (Ok f) = live_after_realloc w l f size

-- ---- calls

-- The findings of a pointer's checks.
abbrev pub found_at : World → ℕ → Result Found HeapAbort
found_at w pointer = check_pointer w.memory w.heap (plain pointer)

-- The null pointer: as malloc.
abbrev pub live_realloc : State → ℕ → ℕ → Live
live_realloc s pointer size = if pointer == 0
    then with_made_chunk origin.Malloc s.live (after_malloc s.world size).chunk
    else live_realloc_cases s.world s.live size (found_at s.world pointer)

-- The live chunks after a free.
abbrev pub live_free : State → ℕ → Live
live_free s pointer =
    if pointer == 0 then s.live else live_free_cases s.live (found_at s.world pointer)

-- The live chunks after a heap call.
abbrev pub live_after_call : HeapCall → State → Live
live_after_call (Malloc size) s =
    with_made_chunk origin.Malloc s.live (after_malloc s.world size).chunk
live_after_call (Free pointer) s = live_free s pointer
live_after_call (Calloc count size) s =
    with_made_chunk origin.Malloc s.live (after_calloc s.world count size).chunk
live_after_call (Realloc pointer size) s = live_realloc s pointer size
live_after_call (Memalign align size) s =
    with_made_chunk origin.Memalign s.live (after_memalign s.world align size).chunk
live_after_call (UsableSize pointer) s = s.live

-- The world and the live chunks after a heap call.
unfoldable pub state_after_call : HeapCall → State → State
state_after_call c s =
    record { world = (after_call s.world c).world; live = live_after_call c s }

-- ---- careful calls

-- The header of the chunk at a user address is the one that the heap wrote.
abbrev pub HasHeader : World → ℕ → Header → Type 0
HasHeader w user header =
    read_bytes w.memory (user - 16) 8 ≡ to_le_bytes w64 (packed_header w.heap.cookie user header)

-- A live chunk of a size class, whose header is as the heap wrote it.
pub record IsLiveBlock (s : State) (user : ℕ) (x : BlockChunk) : Type 0 where
  pub live : chunk_at s.live.blocks user ≡ Some x
  pub header : HasHeader s.world user x.header

-- A live chunk with pages of its own, whose header is as the heap wrote it.
pub record IsLiveLarge (s : State) (user : ℕ) (x : PageChunk) : Type 0 where
  pub live : large_at s.live.pages user ≡ Some x
  pub header : HasHeader s.world user x.header

-- A live chunk at a user address.
abbrev pub IsLive : State → ℕ → Type 0
IsLive s user =
    ((x : BlockChunk) × IsLiveBlock s user x) ⊎ ((x : PageChunk) × IsLiveLarge s user x)

-- Where the checks of a pointer pass, it is one to a live chunk.
abbrev pub IsPointerTo : State → ℕ → Type 0
IsPointerTo s pointer =
    pointer ≢ 0 → (f : Found) → found_at s.world pointer ≡ Ok f → IsLive s (plain pointer)

-- A careful call: its pointer, where it passes the checks, is one to a live chunk.
abbrev pub IsCareful : State → HeapCall → Type 0
IsCareful s (Malloc size) = Unit {0}
IsCareful s (Free pointer) = IsPointerTo s pointer
IsCareful s (Calloc count size) = Unit {0}
IsCareful s (Realloc pointer size) = IsPointerTo s pointer
IsCareful s (Memalign align size) = Unit {0}
IsCareful s (UsableSize pointer) = Unit {0}

-- ---- runs

-- A step that changes no tag and no page: every instruction but those that store tags, and every
-- service but the heap's calls.
pub record IsQuiet (a b : State) : Type 0 where
  pub heap : b.world.heap ≡ a.world.heap
  pub live : b.live ≡ a.live
  pub limit : b.world.memory.limit ≡ a.world.memory.limit
  pub mode : b.world.memory.state.mode ≡ a.world.memory.state.mode
  pub attrs : (q : ℕ) → attrs_at b.world.memory q ≡ attrs_at a.world.memory q
  pub left : pages_left b.world.memory ≡ pages_left a.world.memory
  pub tags : (x : ℕ) → tag_at b.world.memory x ≡ tag_at a.world.memory x
  pub whole : IsWhole b.world.memory

-- A step of a careful run: a careful call, or something else that leaves tags, headers and heap
-- alone.
pub data Step (a b : State) : Type 0 where
  quiet : IsQuiet a b → Step a b
  call : (c : HeapCall) → IsCareful a c → b ≡ state_after_call c a → Step a b

-- Steps whose states after each all have P.
pub data Run (P : State → Type 0) : State → State → Type 0 where
  stop : {a : State} → Run P a a
  next : {a b c : State} → Step a b → P b → Run P b c → Run P a c

-- A block is free: no allocation has taken it.
abbrev pub HasFree : ℕ → ℕ → State → Type 0
HasFree class block s = is_member (stack_of s.world.heap.stacks class) block ≡ true

-- The block of a chunk is free.
abbrev pub HasFreeBlock : BlockChunk → State → Type 0
HasFreeBlock x = HasFree x.place.class x.place.block
