-- A field of a word: `width` binary digits from the digit `position` up; and numbers in two's
-- complement.
use Rattle.std.specs.Prelude.{ℕ, ◌+◌, ◌-◌, ◌*◌, ◌/◌, ◌%◌, ◌^◌, ◌<◌, ℤ, pos, negsuc}
use Rattle.std.specs.Prelude.{if◌then◌else◌, nat_lt}

-- The field of a word.
abbrev pub field_of : ℕ → ℕ → ℕ → ℕ
field_of position width word = word / 2 ^ position % 2 ^ width

-- A word with the field replaced: the digits above it, the new value, the digits below it.
abbrev pub with_field : ℕ → ℕ → ℕ → ℕ → ℕ
with_field word position width value =
    word / 2 ^ (position + width) * 2 ^ (position + width)
    + value * 2 ^ position
    + word % 2 ^ position

-- The numbers that have `width` bits in two's complement; `negsuc n` is -(n + 1).
abbrev pub FitsSignedField : ℕ → ℤ → Type 0
FitsSignedField width (pos n) = n < 2 ^ (width - 1)
FitsSignedField width (negsuc n) = n < 2 ^ (width - 1)

-- The bits of a number: those of a negative number are those of the number plus 2 ^ width.
abbrev pub twos_complement : ℕ → ℤ → ℕ
twos_complement width (pos n) = n
twos_complement width (negsuc n) = 2 ^ width - (n + 1)

-- The number of which `n` gives the bits.
abbrev pub signed_of : ℕ → ℕ → ℤ
signed_of width n = if nat_lt n (2 ^ (width - 1)) then pos n else negsuc (2 ^ width - (n + 1))

-- SignExtend: the low `width` bits as a number in two's complement, in 64 bits.
abbrev pub sign_extended : ℕ → ℕ → ℕ
sign_extended width value = twos_complement 64 (signed_of width (value % 2 ^ width))
