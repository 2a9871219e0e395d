-- The six checks of a pointer, in their order (Scudo, combined.h, Allocator::deallocate). The tag
-- of the pointer is not compared.
use Rattle.std.specs.Prelude.{ℕ, ◌+◌, ◌-◌, ◌*◌, ◌/◌, ◌%◌, ◌==◌, ◌&&◌, nat_lt, nat_le}
use Rattle.std.specs.Prelude.{Bool}
use Rattle.std.specs.Prelude.{true, false, List, Option, Some, None, Result, Ok, Err, if◌then◌else◌}
use Rattle.std.specs.Int.{from_le_bytes, w64}
use Rattle.mte_tags.specs.Memory.{Memory, page_has}
use Rattle.mte_tags.specs.Accesses.{read_bytes}
use Rattle.scudo_header.specs.Classes.{size_of}
use Rattle.scudo_header.specs.Regions.{region_of}
use Rattle.scudo_header.specs.Headers.{unpacked_header}
use Rattle.scudo_header.specs.declared.config.TheConstants.{CLASSES}
use Rattle.scudo_header.specs.declared.headers.Header.{Header}
use Rattle.scudo_header.specs.declared.headers.State.{State}
use Rattle.scudo_header.specs.declared.headers.State.TheVariants.{Available, Allocated}
use Rattle.scudo_header.specs.declared.headers.State.TheVariants.{Quarantined, Reserved}
use Rattle.scudo_primary.specs.Blocks.{number_of, carved_count}
use Rattle.scudo_primary.specs.Pools.{is_member}
use Rattle.scudo_secondary.specs.Mappings as secondary
use Rattle.scudo_secondary.specs.declared.mappings.Mapping.{Mapping}
use Rattle.common.specs.declared.limits.TheConstants.{PAGE_SIZE}
use Rattle.scudo_heap.specs.declared.abort.HeapAbort.{HeapAbort}
use Rattle.scudo_heap.specs.declared.abort.HeapAbort.TheVariants.{Misaligned, Unmapped}
use Rattle.scudo_heap.specs.declared.abort.HeapAbort.TheVariants.{HeaderCorrupt, InvalidState}
use Rattle.scudo_heap.specs.declared.abort.HeapAbort.TheVariants.{NotABlock, AlreadyFree}
use Rattle.scudo_heap.specs.declared.chunk.Place.{Place}
use Rattle.scudo_heap.specs.declared.chunk.Found.{Found}
use Rattle.scudo_heap.specs.declared.chunk.Found.TheVariants.{InBlock, InPages}
use Rattle.scudo_heap.specs.Stacks.{StackState, pages_of, stack_of}
use Rattle.scudo_heap.specs.Heaps.{HeapState}
use Rattle.scudo_heap.specs.Chunks.{end_of, block_end}

-- The bytes that its user may use.
abbrev pub size_found : Found → ℕ
size_found (InBlock p header) = p.size
size_found (InPages m header) = secondary.end_of m - m.user - header.size_or_unused_bytes

-- ---- 1, 2: the address; 3: the checksum; 4: the state

-- Whether the granule before a user address is in a mapped page with WRITE. A page with WRITE has
-- READ as well.
abbrev pub is_mapped : Memory → ℕ → Bool
is_mapped m user = nat_le 16 user && page_has m ((user - 16) / PAGE_SIZE) 3

-- The header before a user address, if its checksum is right.
unfoldable pub header_at : Memory → ℕ → ℕ → Option Header
header_at m cookie user =
    unpacked_header cookie user (from_le_bytes w64 (read_bytes m (user - 16) 8))

-- Whether a chunk with this state is handed out.
abbrev pub is_allocated : State → Bool
is_allocated Available = false
is_allocated Allocated = true
is_allocated Quarantined = false
is_allocated Reserved = false

-- ---- 5: a carved block of the class that the header gives, or a mapping; 6: a block in no stack

-- The place that a header gives.
abbrev pub place_of_header : ℕ → Header → Place
place_of_header user header = record {
  class = header.class_id;
  block = user - 16 - 16 * header.offset;
  user = user;
  size = header.size_or_unused_bytes;
}

-- Whether a block is carved.
abbrev pub is_block : StackState → ℕ → ℕ → Bool
is_block s class block =
    nat_le (region_of class) block && ((block - region_of class) % size_of class == 0)
    && nat_lt (number_of class block) (carved_count class (pages_of s class))

-- Whether a chunk of a size, some bytes at least, is in a carved block of a size class.
abbrev pub is_place : StackState → Place → Bool
is_place s p =
    nat_le p.class CLASSES && is_block s p.class p.block && nat_lt 0 p.size
    && nat_le (end_of p) (block_end p)

-- A chunk of a size class is a block that is not free.
abbrev pub check_block : StackState → Place → Header → Result Found HeapAbort
check_block s p header = if is_place s p
    then (if is_member (stack_of s p.class) p.block
    then Err AlreadyFree
    else Ok (InBlock p header))
    else Err NotABlock

-- A chunk with pages of its own has a mapping.
abbrev pub check_mapping : Header → Option Mapping → Result Found HeapAbort
check_mapping header None = Err NotABlock
check_mapping header (Some m) =
    if (header.offset == 0) && nat_le header.size_or_unused_bytes (secondary.end_of m - m.user)
    then Ok (InPages m header)
    else Err NotABlock

-- The chunk that a header describes.
unfoldable pub check_chunk : StackState → List Mapping → ℕ → Header → Result Found HeapAbort
check_chunk s ms user header = if header.class_id == 0
    then check_mapping header (secondary.mapping_of ms user)
    else (if nat_le (16 + 16 * header.offset) user
    then check_block s (place_of_header user header) header
    else Err NotABlock)

-- The checks of a header.
abbrev pub check_header : HeapState → ℕ → Option Header → Result Found HeapAbort
check_header h user None = Err HeaderCorrupt
check_header h user (Some header) = if is_allocated header.state
    then check_chunk h.stacks h.maps.mappings user header
    else Err InvalidState

-- ---- all six

-- The chunk that the checks of a plain address find, or the first check that fails.
unfoldable pub check_pointer : Memory → HeapState → ℕ → Result Found HeapAbort
check_pointer m h user = if user % 16 == 0
    then (if is_mapped m user then check_header h user (header_at m h.cookie user)
    else Err Unmapped)
    else Err Misaligned

abbrev pub usable_size_cases : Result Found HeapAbort → Result ℕ HeapAbort
usable_size_cases (Err e) = Err e
usable_size_cases (Ok f) = Ok (size_found f)
