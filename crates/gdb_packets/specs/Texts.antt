-- Texts cut at separators.
use Rattle.std.specs.Prelude.{ℕ, ◌==◌, ◌||◌, nat_lt, Bool, if◌then◌else◌, List, []}
use Rattle.std.specs.Prelude.{◌∷◌, length, Option, Some, None}
use Rattle.std.specs.Prelude.{option_map}
use Rattle.std.specs.Borrow.{Bor}
use Rattle.std.specs.List.{position_or_len, before_first, after_first}

-- The text before the first byte that passes, and the text after it, if one passes.
abbrev pub cut_at : (ℕ → Bool) → List ℕ → Option (List ℕ × List ℕ)
cut_at p text =
    if nat_lt (position_or_len p text) (length text)
    then Some (before_first p text, after_first p text) else None

-- Two parts of a text without where they are in memory.
abbrev pub parts : Option (Bor (List ℕ) × Bor (List ℕ)) → Option (List ℕ × List ℕ)
parts o = option_map (λ p. (p.0.now, p.1.now)) o

-- The text after a first byte, if a text begins with it.
abbrev pub after : ℕ → List ℕ → Option (List ℕ)
after first [] = None
after first (b ∷ rest) = if b == first then Some rest else None

-- The text that a borrow refers to, if there is one.
abbrev pub rest_of : Option (Bor (List ℕ)) → Option (List ℕ)
rest_of o = option_map (λ r. r.now) o

-- A packet's name ends at one of these.
abbrev pub is_separator : ℕ → Bool
is_separator b = (b == 58) || (b == 59) || (b == 44)
