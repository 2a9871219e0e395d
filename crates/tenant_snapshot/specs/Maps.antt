-- The maps of counts that a fuzzer lends.
use Rattle.std.specs.Prelude.{ℕ, ◌+◌, ◌-◌, ◌*◌, ◌/◌, ◌%◌, ◌^◌, min, Bool, ◌&&◌, nat_le}
use Rattle.std.specs.Prelude.{List, length, slice_index_or, slice_set, bit_and, bit_xor}
use Rattle.std.specs.Prelude.{if◌then◌else◌}
use Rattle.std.specs.Int.{is_power_of_two, rotate_left, w64}

-- Whether a map may have so many counts: a power of two from 256 to 65,536.
abbrev pub is_map_length : ℕ → Bool
is_map_length n = is_power_of_two n && nat_le 256 n && nat_le n 65536

-- The lower 64 bits of a product with 2^64 divided by the golden ratio.
abbrev pub scattered : ℕ → ℕ
scattered word = (word * 0x9E37_79B9_7F4A_7C15) % 2 ^ 64

-- The hash of the edge from one address to another, a number of 16 bits.
abbrev pub edge_hash : ℕ → ℕ → ℕ
edge_hash from to = scattered (bit_xor (rotate_left w64 (scattered from) 29) to) / 2 ^ 48

-- A count after one more: 255 stays, or becomes 0.
abbrev pub count_after : Bool → ℕ → ℕ
count_after saturating n = if saturating then min (n + 1) 255 else (n + 1) % 256

-- The counts after an edge with a hash, whose lower bits are the place of its count.
abbrev pub counts_after : Bool → ℕ → List ℕ → List ℕ
counts_after saturating hash counts =
    let place = bit_and hash (length counts - 1) in
    slice_set counts place (count_after saturating (slice_index_or counts place 0))
