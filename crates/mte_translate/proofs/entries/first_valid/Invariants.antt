use Rattle.std.specs.Prelude.{◌≡◌, ℕ, ◌<◌, false}
use Rattle.mte_translate.specs.Tables.{entry_at, is_valid}
use Rattle.mte_translate.proofs.entries.first_valid.Given as goal

abbrev pub invariant-loop-index : goal.invariant-loop-index
invariant-loop-index l = (j : ℕ) → j < l.index → is_valid (entry_at l.pool l.frame j) ≡ false
