-- A text with a zero byte after it in a buffer.
use Rattle.std.specs.Prelude.{◌≡◌, ℕ, ◌+◌, List, [], ◌∷◌, ◌++◌, length, drop}

-- A buffer begins with some text and a zero byte; what is after them is as it was.
pub record HasText (old new : List ℕ) : Type 0 where
  pub text : List ℕ
  pub written : new ≡ (text ++ 0 ∷ []) ++ drop (length text + 1) old
