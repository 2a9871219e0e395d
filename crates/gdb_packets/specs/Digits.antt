-- Numbers and bytes as hexadecimal digits.
use Rattle.std.specs.Prelude.{◌≡◌, ℕ, ◌%◌, ◌==◌, nat_lt, nat_le}
use Rattle.std.specs.Prelude.{◌&&◌, Bool, if◌then◌else◌}
use Rattle.std.specs.Prelude.{List, ◌++◌, drop, length, Option, Some, None, option_map}
use Rattle.std.specs.List.{list_all}
use Rattle.std.specs.Int.{from_le_bytes, w64}
use Rattle.std.specs.Result.{result_ok}
use Rattle.std.specs.Char.{is_digit}
use Rattle.std.specs.Str.Parse.{digits_value}
use Rattle.hex.specs.Hex.{decode_of, is_hex_digit}

-- The number of 1 to 16 digits of either case, the highest first.
unfoldable pub number_of : List ℕ → Option ℕ
number_of text =
    if nat_lt 0 (length text) && nat_le (length text) 16 && list_all (λ c. is_digit c 16) text
    then Some (digits_value 16 text) else None

-- The bytes of a text with two digits for each, if it is one.
abbrev pub hex_bytes : List ℕ → Option (List ℕ)
hex_bytes text = result_ok (decode_of text)

-- Bytes were put at the front of a buffer, before what was after that place; or there are none,
-- and the buffer stays as it was.
abbrev pub Puts : Option (List ℕ) → List ℕ → List ℕ → Option ℕ → Type 0
Puts (Some bytes) old new r =
    (r ≡ Some (length bytes)) × (new ≡ bytes ++ drop (length bytes) old)
Puts None old new r = (r ≡ None) × (new ≡ old)

-- The value of a register from the digits of its 1 to 8 bytes, the lowest byte first.
abbrev pub register_of : List ℕ → Option ℕ
register_of text =
    if nat_lt 0 (length text) && nat_le (length text) 16
    then option_map (from_le_bytes w64) (hex_bytes text) else None

-- Two digits for each byte.
abbrev pub is_hex_text : List ℕ → Bool
is_hex_text text = (length text % 2 == 0) && list_all is_hex_digit text

-- A text with two digits for each of one byte or more.
abbrev pub some_hex : List ℕ → Option (List ℕ)
some_hex text = if nat_lt 0 (length text) && is_hex_text text then Some text else None
