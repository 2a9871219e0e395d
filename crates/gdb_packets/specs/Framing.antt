-- The bytes that frame a payload (GDB's documentation, "Remote Protocol", "Overview").
use Rattle.std.specs.Prelude.{ℕ, ◌%◌, ◌==◌, ◌||◌, Bool, if◌then◌else◌, bit_xor}
use Rattle.std.specs.Prelude.{sum}
use Rattle.std.specs.Prelude.{List, [], ◌∷◌, ◌++◌, Option, Some, None, option_map}
use Rattle.std.specs.List.{flat_map}
use Rattle.hex.specs.Hex.{encode_lower}

-- `#`, `$`, `}` and `*` are in a reply's data only as escapes.
abbrev pub is_reserved : ℕ → Bool
is_reserved b = (b == 35) || (b == 36) || (b == 125) || (b == 42)

-- The escape of a byte is `}` and the byte XOR 0x20.
abbrev pub escape_of : ℕ → List ℕ
escape_of b = if is_reserved b then 125 ∷ bit_xor b 32 ∷ [] else b ∷ []

-- A payload with an escape for each byte that needs one.
abbrev pub with_escapes : List ℕ → List ℕ
with_escapes payload = flat_map escape_of payload

-- The checksum of data as they are sent: their sum modulo 256.
abbrev pub checksum_of : List ℕ → ℕ
checksum_of bytes = sum bytes % 256

-- Data as they are sent between `$` and `#`, with their checksum as two digits.
abbrev pub frame_of : List ℕ → List ℕ
frame_of bytes = 36 ∷ bytes ++ 35 ∷ encode_lower (checksum_of bytes ∷ [])

-- The frame of a payload.
abbrev pub frame_of_payload : List ℕ → List ℕ
frame_of_payload payload = frame_of (with_escapes payload)

-- Bytes with one put before them, if there are any.
abbrev pub with_first : ℕ → Option (List ℕ) → Option (List ℕ)
with_first b more = option_map (λ bytes. b ∷ bytes) more

-- The payload of some data: `}` means nothing, and the byte after it means itself XOR 0x20. Data
-- that end in an escape's `}` have none.
unfoldable pub payload_of : List ℕ → Option (List ℕ)
payload_of [] = Some []
payload_of (b ∷ []) = if b == 125 then None else Some (b ∷ [])
payload_of (b ∷ c ∷ more) =
    if b == 125 then with_first (bit_xor c 32) (payload_of more)
    else with_first b (payload_of (c ∷ more))
