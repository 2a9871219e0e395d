-- Two hexadecimal digits.
use Rattle.std.proofs.Common.{◌≡◌, ℕ, List, [], ◌∷◌, get_or, Option, Some, None, Result, Ok, Err, refl}
use Rattle.hex.specs.Hex.{decode_sized, decode_pairs, pair_value}
use Rattle.hex.specs.declared.FromHexError.{FromHexError}
use Rattle.gdb_packets.specs.Reading.{digits_byte}

abbrev pub first_of : Result (List ℕ) FromHexError → Option ℕ
first_of (Ok bytes) = Some (get_or bytes 0 0)
first_of (Err e) = None

first_by : (r : Result ℕ FromHexError) (high low : ℕ) → pair_value high low 0 ≡ r → digits_byte high low ≡ first_of (decode_sized (high ∷ low ∷ []) 1)
unfolding decode_pairs
first_by (Ok v) high low e = rw e refl
first_by (Err x) high low e = rw e refl

pub digits_byte-decode_sized : (high low : ℕ) → digits_byte high low ≡ first_of (decode_sized (high ∷ low ∷ []) 1)
digits_byte-decode_sized high low = first_by (pair_value high low 0) high low refl

pub ruleset byte_of_pair = (digits_byte-decode_sized)
