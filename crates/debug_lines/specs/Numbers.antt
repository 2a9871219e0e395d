-- LEB128 numbers (DWARF 5, 7.6).
use Rattle.std.specs.Prelude.{ℕ, ◌+◌, ◌-◌, ◌*◌, ◌%◌, ◌^◌, nat_lt, nat_le, Bool, List, [], ◌∷◌}
use Rattle.std.specs.Prelude.{length, take, position, slice_index, Option, option_map}
use Rattle.std.specs.Prelude.{if◌then◌else◌}
use Rattle.debug_lines.specs.Readings.{rest_cases}

-- where a number's last byte is
abbrev pub number_end : List ℕ → Option ℕ
number_end bytes = position (λ b. nat_lt b 128) bytes

-- the bytes of the first number
abbrev pub number_bytes : List ℕ → Option (List ℕ)
number_bytes bytes = option_map (λ last. take (last + 1) bytes) (number_end bytes)

-- what is after it, or all where there is none
abbrev pub after_number : List ℕ → List ℕ
after_number bytes = rest_cases bytes (number_end bytes)

-- seven bits in each byte, the lowest first
unfoldable pub bits_of : List ℕ → ℕ
bits_of [] = 0
bits_of (b ∷ more) = b % 128 + 128 * bits_of more

-- an unsigned number, modulo 2^64
unfoldable pub unsigned_of : List ℕ → ℕ
unsigned_of number = bits_of number % 2 ^ 64

-- the sign is the highest of its bits
abbrev pub is_negative : List ℕ → Bool
is_negative number = nat_le 64 (slice_index number (length number - 1) % 128)

-- a signed number modulo 2^64: a negative one is lower by 2 to the number of its bits, and to take
-- that away is to add it 2^64 - 1 times
unfoldable pub signed_of : List ℕ → ℕ
signed_of number =
    if is_negative number then (bits_of number + 128 ^ length number * (2 ^ 64 - 1)) % 2 ^ 64
    else bits_of number % 2 ^ 64
