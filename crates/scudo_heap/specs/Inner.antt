-- For the code's own clauses, views and invariants.
-- The parts of the stacks of free blocks, the parts of the condition of the calls that the size
-- classes and the mappings need, and what a chunk is that the checks found.
use Rattle.std.specs.Prelude.{◌≡◌, ℕ, ◌+◌, ◌-◌, ◌%◌, ◌^◌, ◌<◌, ◌≤◌, ◌⊎◌, Some, false, List}
use Rattle.std.specs.Prelude.{◌++◌, ◌∷◌, []}
use Rattle.std.specs.Prelude.{◌/◌, nat_lt}
use Rattle.std.specs.List.{list_any}
use Rattle.mte_tags.specs.Memory.{Memory, attrs_at, pages_left, data_attrs}
use Rattle.scudo_header.specs.declared.config.TheConstants.{CLASSES, MAX_ALIGNMENT, MAX_REQUEST}
use Rattle.scudo_header.specs.Classes.{IsClass, size_of}
use Rattle.scudo_header.specs.Regions.{region_of}
use Rattle.scudo_header.specs.declared.headers.Header.{Header}
use Rattle.scudo_primary.specs.Blocks.{IsBlock}
use Rattle.scudo_primary.specs.Pools as primary
use Rattle.scudo_primary.specs.Pools.{is_member}
use Rattle.scudo_primary.specs.Caches.{one_stack, IsAbove, AreStacks}
use Rattle.scudo_secondary.specs.Mappings.{SecondaryState, mapping_of}
use Rattle.scudo_secondary.specs.Mappings as secondary
use Rattle.scudo_secondary.specs.declared.mappings.Mapping.{Mapping}
use Rattle.common.specs.declared.limits.TheConstants.{MAX_PAGES, PAGE_SIZE}
use Rattle.common.specs.declared.ranges.TheConstants.{REGION_SIZE}
use Rattle.common.specs.declared.ranges.TheConstants.{SECONDARY_START, SECONDARY_END}
use Rattle.scudo_heap.specs.declared.chunk.Place.{Place}
use Rattle.scudo_heap.specs.declared.request.Request.{Request}
use Rattle.scudo_heap.specs.Allocation.{need_of}
use Rattle.scudo_heap.specs.declared.chunk.Chunk.{Chunk}
use Rattle.scudo_heap.specs.declared.chunk.Chunk.TheVariants.{Small, Large}
use Rattle.scudo_heap.specs.declared.chunk.Found.{Found}
use Rattle.scudo_heap.specs.declared.chunk.Found.TheVariants.{InBlock, InPages}
use Rattle.scudo_heap.specs.Stacks.{ClassHeap, StackState, stacks_by, pages_of, stack_of}
use Rattle.scudo_heap.specs.Heaps.{HeapState}
use Rattle.scudo_heap.specs.Chunks.{end_of, block_end}
use Rattle.scudo_heap.specs.Served.{heap_page, is_inside}
use Rattle.scudo_heap.specs.Sound.{HasRoom, IsSound}
use Rattle.scudo_heap.specs.declared.stacks.Stacks.TheInside.{Inside}
pub mod Parts

-- The class that the code keeps.
abbrev pub class_in : Inside → ℕ → ClassHeap
class_in f class =
    record { pages = primary.pages_of f.pool class; stack = one_stack f.cache f.pool class }

-- For how many elements the lists of the code have memory.
abbrev pub capacities_in : Inside → List ℕ
capacities_in f = f.pool.capacities ++ f.cache.capacity ∷ []

-- The stacks that the code keeps.
abbrev pub stacks_in : Inside → StackState
stacks_in f = stacks_by f.pool.left (capacities_in f) (class_in f)

-- Pool and cache belong together.
pub record AreParts (f : Inside) : Type 0 where
  pub above : IsAbove f.cache f.pool
  pub stacks : AreStacks f.cache f.pool

-- what of the condition the size classes need
pub record AreRegions (m : Memory) (s : StackState) : Type 0 where
  pub room : pages_left m ≤ s.left
  pub few :
      (class : ℕ) → 0 < class → class ≤ CLASSES → pages_of s class ≤ REGION_SIZE / PAGE_SIZE
  pub regions :
      (class i : ℕ) → 0 < class → class ≤ CLASSES → i < REGION_SIZE / PAGE_SIZE
      → attrs_at m (region_of class / PAGE_SIZE + i) ≡ heap_page (nat_lt i (pages_of s class))

-- what of the condition the chunks with pages of their own need
pub record ArePlaces (m : Memory) (ms : SecondaryState) : Type 0 where
  pub room : pages_left m + secondary.pages_of ms.mappings ≤ ms.limit
  pub mappings :
      (a : ℕ) → SECONDARY_START ≤ a → a < SECONDARY_END
      → attrs_at m (a / PAGE_SIZE) ≡ heap_page (list_any (is_inside a) ms.mappings)

-- Each page from an address up to another has READ, WRITE and TAGGED.
pub record IsOpen (m : Memory) (from to : ℕ) : Type 0 where
  pub pages : (a : ℕ) → from ≤ a → a < to → attrs_at m (a / PAGE_SIZE) ≡ Some data_attrs.0
  pub below : to ≤ 2 ^ 30

-- where a chunk may be in a block of a size class
pub record IsPlaced (s : StackState) (p : Place) : Type 0 where
  pub low : 0 < p.class
  pub high : p.class ≤ CLASSES
  pub carved : IsBlock p.class (pages_of s p.class) p.block
  pub aligned : p.user % 16 ≡ 0
  pub above : p.block + 16 ≤ p.user
  pub some : 0 < p.size
  pub small : p.size < 2 ^ 20
  pub within : end_of p ≤ block_end p

-- The findings of the checks of a chunk of a size class.
pub record IsFoundBlock (s : StackState) (p : Place) (header : Header) : Type 0 where
  pub place : IsPlaced s p
  pub used : is_member (stack_of s p.class) p.block ≡ false
  pub size : header.size_or_unused_bytes ≡ p.size

-- a chunk that the checks found, as long as it is not freed
abbrev pub IsFound : HeapState → Found → Type 0
IsFound h (InBlock p header) = IsFoundBlock h.stacks p header
IsFound h (InPages m header) = Some m ≡ mapping_of h.maps.mappings m.user

-- its end is an address: of the mapping of a chunk with pages of its own
abbrev pub HasEnd : Found → Type 0
HasEnd (InBlock p header) = Unit {0}
HasEnd (InPages m header) =
    (secondary.end_of m ≤ 2 ^ 30)
    × (m.user ≤ secondary.end_of m)
    × (header.size_or_unused_bytes ≤ secondary.end_of m - m.user)

-- two places of n bytes have none in common
abbrev pub AreApart : ℕ → ℕ → ℕ → Type 0
AreApart a b n = (a + n ≤ b) ⊎ (b + n ≤ a)

-- an alignment as the calls take it: at least a granule, at most a page
pub record IsAlign (align : ℕ) : Type 0 where
  pub least : 16 ≤ align
  pub most : align ≤ MAX_ALIGNMENT
  pub multiple : align % 16 ≡ 0

-- a request that a block of a size class holds with its header
pub record FitsClass (c : ℕ) (r : Request) : Type 0 where
  pub class : IsClass c
  pub align : IsAlign r.align
  pub some : 0 < r.size
  pub small : r.size < 2 ^ 20
  pub fits : need_of r.align r.size ≤ size_of c

-- a chunk of some bytes is with its header in a block of a size class, whose end and whose own
-- address are multiples of a granule
pub record FitsIn (p : Place) : Type 0 where
  pub class : IsClass p.class
  pub aligned : p.user % 16 ≡ 0
  pub whole : block_end p % 16 ≡ 0
  pub above : p.block + 16 ≤ p.user
  pub some : 0 < p.size
  pub small : p.size < 2 ^ 20
  pub within : end_of p ≤ block_end p

-- a chunk that fits in its block, and a tag for it
pub record FitsTagged (p : Place) (tag : ℕ) : Type 0 where
  pub place : FitsIn p
  pub small : tag < 16

-- an address without its tag
abbrev pub IsPlainAddress : ℕ → Type 0
IsPlainAddress a = a < 2 ^ 56

-- an address with a granule in front of it, where the header is
abbrev pub IsBehindGranule : ℕ → Type 0
IsBehindGranule a = 16 ≤ a

-- an address that a header may stand in front of
pub record IsUser (user : ℕ) : Type 0 where
  pub aligned : user % 16 ≡ 0
  pub plain : user < 2 ^ 56

-- a place that a header gives, whatever it says: no sum of its addresses wraps
pub record IsGiven (p : Place) : Type 0 where
  pub class : 0 < p.class
  pub user : p.user < 2 ^ 56
  pub block : p.block < 2 ^ 56
  pub size : p.size < 2 ^ 20

-- the bytes of a chunk, of which there are some
pub record IsSize (size : ℕ) : Type 0 where
  pub some : 0 < size
  pub most : size ≤ MAX_REQUEST

-- a request of some bytes, as the calls make it
pub record IsRequest (r : Request) : Type 0 where
  pub align : IsAlign r.align
  pub size : IsSize r.size

-- a chunk of a size is with its header in a mapping, of which a page at most is left
pub record IsLarge (m : Mapping) (size : ℕ) : Type 0 where
  pub some : 0 < m.pages
  pub few : m.pages ≤ MAX_PAGES
  pub start : m.start < 2 ^ 32
  pub aligned : m.start % PAGE_SIZE ≡ 0
  pub above : m.start + 16 ≤ m.user
  pub within : m.user + size ≤ secondary.end_of m
  pub below : m.user < secondary.end_of m
  pub unused : secondary.end_of m - m.user - size < 2 ^ 20

-- a chunk of a call is below 2^32, as every chunk is
abbrev pub IsLow : Chunk → Type 0
IsLow (Small p tag) = (p.user < 2 ^ 32) × (tag < 16)
IsLow (Large m size) = m.user < 2 ^ 32

-- what holds of the parts of a heap
pub record AreHeapParts (h : HeapState) : Type 0 where
  pub room : HasRoom h.stacks
  pub sound : IsSound h
