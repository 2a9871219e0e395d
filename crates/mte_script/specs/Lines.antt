-- The first line of a text.
use Rattle.std.specs.Prelude.{ℕ, ◌==◌, List, [], ◌∷◌, if◌then◌else◌}

-- The bytes before a text's first LF, or all of it.
unfoldable pub line_of : List ℕ → List ℕ
line_of [] = []
line_of (b ∷ more) = if b == 10 then [] else b ∷ line_of more
