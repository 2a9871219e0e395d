-- Texts that are written in parts.
use Rattle.std.specs.Prelude.{◌≡◌, ℕ, List, ◌++◌, map}
use Rattle.std.specs.List.{concat}
use Rattle.std.specs.Borrow.{Bor}
use Rattle.mte_streams.specs.Writing.{WriteLog, WroteAll}

-- Parts one after another.
abbrev pub parts_text : List (Bor (List ℕ)) → List ℕ
parts_text parts = concat (map (λ p. p.now) parts)

-- All of a text was written but its end.
pub record WroteBut (old new : WriteLog) (text end : List ℕ) : Type 0 where
  pub start : List ℕ
  pub whole : text ≡ start ++ end
  pub wrote : WroteAll old new start
