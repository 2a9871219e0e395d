-- Texts that are put into a buffer that the caller lends.
use Rattle.std.specs.Prelude.{◌≡◌, ℕ, ◌<◌, List, ◌++◌, drop, length, Option, Some}
use Rattle.std.specs.Prelude.{None}

-- A text is at the front of the buffer, before what was after that place; or it is longer than
-- the buffer, which stays as it was.
abbrev pub Writes : List ℕ → List ℕ → List ℕ → Option ℕ → Type 0
Writes text old new (Some n) = (n ≡ length text) × (new ≡ text ++ drop (length text) old)
Writes text old new None = (length old < length text) × (new ≡ old)
