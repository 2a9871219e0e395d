-- Texts that may be printed.
use Rattle.std.specs.Prelude.{ℕ, Bool, List}
use Rattle.std.specs.List.{list_any}
use Rattle.std.specs.Str.{chars}
use Rattle.std.specs.Char.{is_control}

-- whether a text has a control character
abbrev pub has_control : List ℕ → Bool
has_control text = list_any is_control (chars text)
