-- Bytes and counts that are known, or not (None).
use Rattle.std.specs.Prelude.{ℕ, ◌+◌, ◌==◌, nat_lt, ◌&&◌, Bool, List, ◌++◌, length, Option}
use Rattle.std.specs.Prelude.{option_map}

-- Known bytes, and more of them.
abbrev pub append_known : Option (List ℕ) → List ℕ → Option (List ℕ)
append_known known more = option_map (λ bytes. bytes ++ more) known

-- A known number, and more.
abbrev pub add_known : Option ℕ → ℕ → Option ℕ
add_known known more = option_map (λ n. n + more) known

-- None of some bytes passed: of a read the end, of a write a failure.
abbrev pub none_passed : ℕ → List ℕ → Bool
none_passed n bytes = (n == 0) && nat_lt 0 (length bytes)
