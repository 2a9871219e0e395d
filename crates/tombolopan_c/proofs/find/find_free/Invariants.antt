use Rattle.std.proofs.Common.{◌≢◌, ℕ, ◌<◌, slice_index_or}
use Rattle.tombolopan_c.specs.declared.lent_page.LentPage.{LentPage}
use Rattle.tombolopan_c.proofs.find.find_free.Given as goal

abbrev pub invariant-loop-i : goal.invariant-loop-i
invariant-loop-i l = (k : ℕ) (d : LentPage) → k < l.i → (slice_index_or l.pages k d).mapped ≢ 0
