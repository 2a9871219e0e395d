-- Numbers and texts at the beginning of some bytes.
use Rattle.std.specs.Prelude.{ℕ, ◌+◌, ◌==◌, nat_le, List, length, take, drop, position}
use Rattle.std.specs.Prelude.{Option, Some, None, option_map, if◌then◌else◌}
use Rattle.byteorder.specs.Endian.{little_number}

-- the number of the first n bytes, the lowest first
abbrev pub number_in : ℕ → List ℕ → Option ℕ
number_in n bytes = if nat_le n (length bytes) then Some (little_number n bytes) else None

-- what is left of the bytes once n of them were read, or all where there are fewer
abbrev pub left_of : ℕ → List ℕ → List ℕ
left_of n bytes = if nat_le n (length bytes) then drop n bytes else bytes

-- where the first 0 is
abbrev pub text_end : List ℕ → Option ℕ
text_end bytes = position (λ b. b == 0) bytes

-- the text in front of the first 0
abbrev pub text_in : List ℕ → Option (List ℕ)
text_in bytes = option_map (λ end. take end bytes) (text_end bytes)

-- what is after it, or all where there is none
abbrev pub rest_cases : List ℕ → Option ℕ → List ℕ
rest_cases bytes None = bytes
rest_cases bytes (Some last) = drop (last + 1) bytes

-- The bytes after a text that a zero ends.
abbrev pub after_text : List ℕ → List ℕ
after_text bytes = rest_cases bytes (text_end bytes)
