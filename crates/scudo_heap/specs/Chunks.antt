-- Where a chunk of a size class is in its block, its tag, and the granules around it (Scudo,
-- memtag.h and combined.h).
use Rattle.std.specs.Prelude.{ℕ, ◌+◌, ◌-◌, ◌*◌, ◌/◌, ◌%◌, ◌^◌, nat_lt, true, false}
use Rattle.std.specs.Prelude.{if◌then◌else◌}
use Rattle.std.specs.Int.{to_le_bytes, w32, w64, trailing_zeros}
use Rattle.std.specs.Int.RustNames.{bit_or}
use Rattle.mte_tags.specs.Memory.{Memory, tag_at, with_granules}
use Rattle.mte_tags.specs.Accesses.{with_bytes_at}
use Rattle.scudo_header.specs.Classes.{size_of}
use Rattle.scudo_header.specs.Headers.{packed_header}
use Rattle.scudo_header.specs.declared.headers.Header.{Header}
use Rattle.scudo_heap.specs.declared.chunk.Place.{Place}

-- The granules of 16 bytes that hold `size` bytes.
abbrev pub granules_of : ℕ → ℕ
granules_of size = (size + 15) / 16

-- The address after a place's granules, and the one after its block.
abbrev pub end_of : Place → ℕ
end_of p = p.user + 16 * granules_of p.size

-- The end of the block of a chunk.
abbrev pub block_end : Place → ℕ
block_end p = p.block + size_of p.class

-- A place with another size.
abbrev pub with_size : Place → ℕ → Place
with_size p size = record p { size = size }

-- ---- the tag

-- 0 or 1, in turn from block to block of a class.
abbrev pub tag_parity : ℕ → ℕ → ℕ
tag_parity class block = block / 2 ^ trailing_zeros w32 (size_of class) % 2

-- The even tags for half 0, the odd ones for half 1.
abbrev pub parity_mask : ℕ → ℕ → ℕ
parity_mask class block = 0x5555 * 2 ^ tag_parity class block

-- The tags that a draw excludes: tag 0, the tags of one half, and the tag of the granule at the
-- user address.
unfoldable pub excluded_tags : Memory → Place → ℕ
excluded_tags m p = bit_or (bit_or 1 (parity_mask p.class p.block)) (2 ^ tag_at m p.user)

-- ---- the granules

-- A tag and zero bytes on the granules of the place.
unfoldable pub with_chunk_tag : Memory → Place → ℕ → Memory
with_chunk_tag m p tag = with_granules m p.user (granules_of p.size) tag true

-- Tag 0 on the granule after the place, where the block goes on.
unfoldable pub with_end_tag_0 : Memory → Place → Memory
with_end_tag_0 m p =
    if nat_lt (end_of p) (block_end p) then with_granules m (end_of p) 1 0 false else m

-- Tag 0 on the granule of the header.
unfoldable pub with_header_tag_0 : Memory → Place → Memory
with_header_tag_0 m p = with_granules m (p.user - 16) 1 0 false

-- The granules that come to the place get its tag and zero bytes, and the one after them tag 0
-- where the block goes on; those that it gives up get tag 0 and keep their bytes.
unfoldable pub after_retag_tail : Memory → Place → ℕ → Memory
after_retag_tail m p size = if nat_lt (granules_of p.size) (granules_of size)
    then with_end_tag_0
    (with_granules m (end_of p) (granules_of size - granules_of p.size) (tag_at m p.user) true)
    (with_size p size)
    else with_granules m (end_of (with_size p size)) (granules_of p.size - granules_of size) 0 false

-- The header's eight bytes, in the granule before the user address.
unfoldable pub with_header : Memory → ℕ → ℕ → Header → Memory
with_header m cookie user header =
    with_bytes_at m (user - 16) (to_le_bytes w64 (packed_header cookie user header))
