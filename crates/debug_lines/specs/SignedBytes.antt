-- Signed bytes.
use Rattle.std.specs.Prelude.{ℕ, ◌-◌, ◌^◌, nat_lt, if◌then◌else◌}

-- a byte in two's complement, modulo 2^32
abbrev pub signed_byte : ℕ → ℕ
signed_byte b = if nat_lt b 128 then b else 2 ^ 32 - (256 - b)
