-- malloc, calloc and memalign (Scudo, combined.h, Allocator::allocate). Each is one equation of the
-- world that it leaves and of the chunk that it makes. Where it makes none, the world is as it was:
-- for that the world before goes along.
--     after_allocate w origin align size  what the three calls do: the need, and the least class
--                                         whose blocks hold it
--     after_class_allocation w .. class   a class without free blocks gets pages; then the chunk is
--                                         made in the block on top of its stack
--     after_large_allocation w .. pages   where no class holds the need: in pages of its own
use Rattle.std.specs.Prelude.{ℕ, ◌+◌, ◌-◌, ◌*◌, ◌/◌, ◌^◌, ◌==◌, ◌&&◌, Bool, true, false}
use Rattle.std.specs.Prelude.{nat_le, max, List, [], ◌∷◌, Option, Some, None}
use Rattle.std.specs.Prelude.{if◌then◌else◌}
use Rattle.std.specs.List.{range_with_len, list_any}
use Rattle.mte_tags.specs.Memory.{pages_left}
use Rattle.scudo_header.specs.Classes.{class_for}
use Rattle.scudo_header.specs.declared.headers.Origin.{Origin}
use Rattle.scudo_header.specs.declared.headers.Origin.TheVariants.{Malloc, Memalign}
use Rattle.scudo_secondary.specs.Mappings.{place_of}
use Rattle.scudo_header.specs.declared.config.TheConstants.{MAX_REQUEST}
use Rattle.scudo_heap.specs.declared.chunk.Place.{Place}
use Rattle.scudo_heap.specs.declared.chunk.Chunk.{Chunk}
use Rattle.scudo_heap.specs.declared.chunk.Chunk.TheVariants.{Small, Large}
use Rattle.scudo_heap.specs.Stacks.{stack_of}
use Rattle.scudo_heap.specs.Chunks.{granules_of}
use Rattle.scudo_heap.specs.Placing.{World, more_pages, pages_for, after_grow, after_place}
use Rattle.scudo_heap.specs.Large.{mapping_for, large_placed}

-- The result of an allocation: the world, and the chunk that it made, if it made one.
pub record AllocationResult : Type 0 where
  pub world : World
  pub chunk : Option Chunk

-- An allocation of its parts.
abbrev pub allocation_of : World → Option Chunk → AllocationResult
allocation_of w chunk = record { world = w; chunk = chunk }

-- An allocation that makes nothing.
abbrev pub no_chunk : World → AllocationResult
no_chunk w = allocation_of w None

-- The pointer for the caller: the user address with the tag in its bits 59:56, or 0.
abbrev pub answer_of : Option Chunk → ℕ
answer_of None = 0
answer_of (Some (Small p tag)) = p.user + 2 ^ 56 * tag
answer_of (Some (Large m size)) = m.user

-- ---- a chunk of a size class

-- After the header, at the first multiple of the alignment.
abbrev pub place_in : ℕ → ℕ → ℕ → ℕ → Place
place_in class block align size = record {
  class = class;
  block = block;
  user = (block + 16 + (align - 1)) / align * align;
  size = size;
}

-- Whether a list is empty.
abbrev pub is_empty : List ℕ → Bool
is_empty [] = true
is_empty (b ∷ more) = false

-- A class without free blocks gets the pages of one block, if they are left.
unfoldable pub with_free_block : World → ℕ → World
with_free_block w class =
    if is_empty (stack_of w.heap.stacks class) && nat_le (more_pages class) (pages_left w.memory)
    then after_grow w class
    else w

-- The chunk is made in the block on top of the stack.
abbrev pub after_take : World → World → Origin → ℕ → ℕ → ℕ → List ℕ → AllocationResult
after_take before w origin align size class [] = no_chunk before
after_take before w origin align size class (block ∷ more) =
    let place = place_in class block align size in
    let made = after_place w origin place in
    allocation_of made (Some (Small place made.rgsr.tag))

-- A chunk of a size class, which gets pages where it has no free block.
unfoldable pub after_class_allocation : World → Origin → ℕ → ℕ → ℕ → AllocationResult
after_class_allocation w origin align size class =
    let ready = with_free_block w class in
    after_take w ready origin align size class (stack_of ready.heap.stacks class)

-- ---- a chunk with pages of its own

-- At the least place that fits, if one does and its pages are left.
abbrev pub map_chunk_cases : World → Origin → ℕ → ℕ → ℕ → Option ℕ → AllocationResult
map_chunk_cases w origin align size pages None = no_chunk w
map_chunk_cases w origin align size pages (Some start) =
    let mapping = mapping_for start pages align size in
    if nat_le pages (pages_left w.memory)
    then allocation_of (large_placed w origin mapping size) (Some (Large mapping size))
    else no_chunk w

-- A chunk with pages of its own, at the least place that fits.
unfoldable pub after_large_allocation : World → Origin → ℕ → ℕ → ℕ → AllocationResult
after_large_allocation w origin align size pages =
    map_chunk_cases w origin align size pages (place_of w.heap.maps.mappings pages)

-- ---- the calls

-- A request for no bytes is one for one byte.
abbrev pub nonzero_size : ℕ → ℕ
nonzero_size size = if size == 0 then 1 else size

-- The bytes that a block must have: the chunk's granules, and the alignment, in which the header
-- finds room.
abbrev pub need_of : ℕ → ℕ → ℕ
need_of align size = 16 * granules_of size + align

abbrev pub allocate_cases : World → Origin → ℕ → ℕ → Option ℕ → AllocationResult
allocate_cases w origin align size None =
    after_large_allocation w origin align size (pages_for (need_of align size))
allocate_cases w origin align size (Some class) = after_class_allocation w origin align size class

-- The least class whose blocks hold the need, else pages of its own. The alignment is 16 at least.
unfoldable pub after_allocate : World → Origin → ℕ → ℕ → AllocationResult
after_allocate w origin align size =
    let bytes = nonzero_size size in
    if nat_le size MAX_REQUEST
    then allocate_cases w origin align bytes (class_for (need_of align bytes))
    else no_chunk w

-- malloc
unfoldable pub after_malloc : World → ℕ → AllocationResult
after_malloc w size = after_allocate w Malloc 16 size

-- calloc: sizes are whole numbers, so that no product wraps.
unfoldable pub after_calloc : World → ℕ → ℕ → AllocationResult
after_calloc w count size = after_allocate w Malloc 16 (count * size)

-- A power of two up to the largest alignment, which is the twelfth.
abbrev pub is_alignment : ℕ → Bool
is_alignment n = list_any (λ k. n == 2 ^ k) (range_with_len 0 13)

-- memalign
unfoldable pub after_memalign : World → ℕ → ℕ → AllocationResult
after_memalign w align size =
    if is_alignment align then after_allocate w Memalign (max align 16) size else no_chunk w
