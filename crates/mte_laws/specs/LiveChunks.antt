-- The live chunks of the size classes along a run: by user address where each is, its tag, and
-- the header that the heap wrote for it; and what holds of them where a tenant stores no tags.
--     chunk_at l u         the chunk at a user address
--     IsPlace s p          a place is in a carved block, with a granule for the header before it
--     ArePlaced s l        each chunk has a block of its own, which is in no stack
--     AreTagged m s l      each chunk's granules have its tag, and those next to it tag 0
use Rattle.std.specs.Prelude.{◌≡◌, ◌≢◌, ℕ, ◌+◌, ◌-◌, ◌/◌, ◌%◌, ◌<◌, ◌≤◌, ◌⊎◌, Option, Some, true}
use Rattle.std.specs.Prelude.{false}
use Rattle.std.specs.Ordering.{nat_cmp}
use Rattle.std.specs.FinMap as finite
use Rattle.std.specs.FinMap.{FinMap}
use Rattle.mte_tags.specs.Memory.{Memory, tag_at}
use Rattle.mte_tags.specs.TagChoice.{is_allowed}
use Rattle.scudo_header.specs.Classes.{size_of}
use Rattle.scudo_header.specs.Regions.{region_of}
use Rattle.common.specs.declared.ranges.TheConstants.{SECONDARY_END}
use Rattle.scudo_header.specs.declared.headers.Header.{Header}
use Rattle.scudo_header.specs.declared.headers.Origin.{Origin}
use Rattle.scudo_header.specs.declared.headers.State.TheVariants.{Allocated}
use Rattle.scudo_primary.specs.Blocks.{IsBlock}
use Rattle.scudo_primary.specs.Pools.{is_member}
use Rattle.scudo_primary.specs.Blocks.{IsClass}
use Rattle.scudo_heap.specs.declared.chunk.Place.{Place}
use Rattle.scudo_heap.specs.Stacks.{StackState, pages_of, stack_of}
use Rattle.scudo_heap.specs.Chunks.{end_of, block_end, parity_mask}
use Rattle.scudo_heap.specs.Placing.{new_header}

-- A chunk of a size class: its place, its tag and its header.
pub record BlockChunk : Type 0 where
  pub place : Place
  pub tag : ℕ
  pub header : Header

-- The live chunks of size classes, by their user addresses.
abbrev pub LiveBlocks : Type 0
LiveBlocks = FinMap nat_cmp BlockChunk

-- The chunk at a user address, if one is live.
unfoldable pub chunk_at : LiveBlocks → ℕ → Option BlockChunk
chunk_at l user = finite.get l user

-- One more live chunk.
unfoldable pub with_chunk : LiveBlocks → BlockChunk → LiveBlocks
with_chunk l x = finite.insert l x.place.user x

-- One live chunk less.
unfoldable pub without_chunk : LiveBlocks → ℕ → LiveBlocks
without_chunk l user = finite.remove l user

-- A chunk that was made at a place.
abbrev pub new_chunk : Origin → Place → ℕ → BlockChunk
new_chunk origin p tag = record { place = p; tag = tag; header = new_header origin p }

-- ---- where they lie

-- A block that the heap has carved in a class.
pub record IsCarved (s : StackState) (c b : ℕ) : Type 0 where
  pub class : IsClass c
  pub block : IsBlock c (pages_of s c) b

-- A chunk is in a carved block, after its header.
pub record IsPlace (s : StackState) (p : Place) : Type 0 where
  pub carved : IsCarved s p.class p.block
  pub aligned : p.user % 16 ≡ 0
  pub above : p.block + 16 ≤ p.user
  pub within : end_of p ≤ block_end p
  pub some : 0 < p.size

-- The header gives the place's class, size and block.
pub record IsHeaderOf (header : Header) (p : Place) : Type 0 where
  pub class : header.class_id ≡ p.class
  pub state : header.state ≡ Allocated
  pub size : header.size_or_unused_bytes ≡ p.size
  pub offset : header.offset ≡ (p.user - p.block - 16) / 16

-- The live chunks are in carved blocks, no two in one.
pub record ArePlaced (s : StackState) (l : LiveBlocks) : Type 0 where
  pub place : (u : ℕ) (x : BlockChunk) → chunk_at l u ≡ Some x → IsPlace s x.place
  pub user : (u : ℕ) (x : BlockChunk) → chunk_at l u ≡ Some x → x.place.user ≡ u
  pub header : (u : ℕ) (x : BlockChunk) → chunk_at l u ≡ Some x → IsHeaderOf x.header x.place
  pub apart :
      (u v : ℕ) (x y : BlockChunk) → chunk_at l u ≡ Some x → chunk_at l v ≡ Some y
      → x.place.block ≡ y.place.block → u ≡ v
  pub unstacked :
      (u : ℕ) (x : BlockChunk) → chunk_at l u ≡ Some x
      → is_member (stack_of s x.place.class) x.place.block ≡ false

-- ---- their tags

-- A tag that the odd or even half of a block allows.
pub record IsHalfTag (class block tag : ℕ) : Type 0 where
  pub below : tag < 16
  pub allowed : is_allowed (parity_mask class block) tag ≡ true

-- A tag that is not 0 on the granules of a place, and 0 on the granule before and after it.
pub record IsTagged (m : Memory) (p : Place) (tag : ℕ) : Type 0 where
  pub some : tag ≢ 0
  pub inside : (a : ℕ) → p.user ≤ a → a < end_of p → tag_at m a ≡ tag
  pub before : (a : ℕ) → p.user ≤ a + 16 → a < p.user → tag_at m a ≡ 0
  pub after : (a : ℕ) → end_of p ≤ a → a < end_of p + 16 → tag_at m a ≡ 0

-- An address strictly inside no block: in a block's first granule, or outside the carved blocks.
abbrev pub IsOutside : StackState → ℕ → Type 0
IsOutside s a = (c b : ℕ) → IsCarved s c b → b + 16 ≤ a → a < b + size_of c → ⊥

-- chunks: each live chunk has its tag
-- halves: each granule of a carved block has tag 0 or one that its half allows
-- outside: a block's first granule, and each granule outside the carved blocks, has tag 0, those of
-- chunks with pages of their own included
pub record AreTagged (m : Memory) (s : StackState) (l : LiveBlocks) : Type 0 where
  pub chunks : (u : ℕ) (x : BlockChunk) → chunk_at l u ≡ Some x → IsTagged m x.place x.tag
  pub halves :
      (c b a : ℕ) → IsCarved s c b → b ≤ a → a < b + size_of c
      → (tag_at m a ≡ 0) ⊎ IsHalfTag c b (tag_at m a)
  pub outside :
      (a : ℕ) → region_of 1 ≤ a → a < SECONDARY_END → IsOutside s a → tag_at m a ≡ 0
