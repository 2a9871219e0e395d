-- The header of a chunk (Scudo, chunk.h, UnpackedHeader), and its checksum (Scudo, checksum.h,
-- computeBSDChecksum).
use Rattle.std.specs.Prelude.{ℕ, ◌+◌, ◌*◌, ◌/◌, ◌%◌, ◌^◌, ◌==◌, ◌<◌, ◌++◌, Option, Some, None}
use Rattle.std.specs.Prelude.{if◌then◌else◌}
use Rattle.std.specs.Int.{to_le_bytes, w64}
use Rattle.std.specs.List.{fold}
use Rattle.a64_bits.specs.Addresses.{plain}
use Rattle.a64_bits.specs.Fields.{field_of}
use Rattle.scudo_header.specs.declared.headers.Header.{Header}
use Rattle.scudo_header.specs.declared.headers.State.{State}
use Rattle.scudo_header.specs.declared.headers.State.TheVariants.{Available, Allocated, Quarantined}
use Rattle.scudo_header.specs.declared.headers.State.TheVariants.{Reserved}
use Rattle.scudo_header.specs.declared.headers.Origin.{Origin}
use Rattle.scudo_header.specs.declared.headers.Origin.TheVariants.{Malloc, New, NewArray, Memalign}

-- The two bits of a state (Scudo, chunk.h, Chunk::State).
abbrev pub state_number : State → ℕ
state_number Available = 0
state_number Allocated = 1
state_number Quarantined = 2
state_number Reserved = 3

-- The two bits of an origin (Scudo, chunk.h, Chunk::Origin).
abbrev pub origin_number : Origin → ℕ
origin_number Malloc = 0
origin_number New = 1
origin_number NewArray = 2
origin_number Memalign = 3

-- ---- packing

-- A word has 20 bits for the size of a header.
abbrev pub FitsInWord : Header → Type 0
FitsInWord h = h.size_or_unused_bytes < 2 ^ 20

-- The header with checksum 0: from bit 0 on a class of 8 bits, a state of 2, an origin of 2, a size
-- of 20 and an offset of 16.
abbrev pub header_word : Header → ℕ
header_word h =
    h.class_id + 2 ^ 8 * state_number h.state + 2 ^ 10 * origin_number h.origin
    + 2 ^ 12 * h.size_or_unused_bytes + 2 ^ 32 * h.offset

-- The sum is rotated right by one bit of its 16, and the byte is added.
abbrev pub with_byte : ℕ → ℕ → ℕ
with_byte sum byte = (sum / 2 + 2 ^ 15 * (sum % 2) + byte) % 2 ^ 16

-- The checksum of a header word: from the low 16 bits of the cookie, over the eight bytes of the
-- plain address and then the eight of the header with checksum 0, the lowest first.
unfoldable pub checksum_of : ℕ → ℕ → ℕ → ℕ
checksum_of cookie pointer word =
    fold with_byte (cookie % 2 ^ 16)
    (to_le_bytes w64 (plain pointer) ++ to_le_bytes w64 (word % 2 ^ 48))

-- The word of a header, with its checksum.
unfoldable pub packed_header : ℕ → ℕ → Header → ℕ
packed_header cookie pointer h = header_word h + 2 ^ 48 * checksum_of cookie pointer (header_word h)

-- ---- unpacking

-- The state with these two bits.
abbrev pub state_of : ℕ → State
state_of n =
    if n == 0
    then Available
    else (if n == 1 then Allocated else (if n == 2 then Quarantined else Reserved))

-- The origin with these two bits.
abbrev pub origin_of : ℕ → Origin
origin_of n =
    if n == 0 then Malloc else (if n == 1 then New else (if n == 2 then NewArray else Memalign))

-- The fields of a word.
abbrev pub header_of : ℕ → Header
header_of word = record {
  class_id = word % 2 ^ 8;
  state = state_of (field_of 8 2 word);
  origin = origin_of (field_of 10 2 word);
  size_or_unused_bytes = field_of 12 20 word;
  offset = field_of 32 16 word;
}

-- The header of a word whose checksum is right.
unfoldable pub unpacked_header : ℕ → ℕ → ℕ → Option Header
unpacked_header cookie pointer word =
    if field_of 48 16 word == checksum_of cookie pointer word then Some (header_of word) else None
