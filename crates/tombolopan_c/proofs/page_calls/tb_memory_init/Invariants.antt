use Rattle.std.proofs.Common.{◌≡◌, ℕ, ◌<◌, get_or, length}
use Rattle.tombolopan_c.specs.declared.lent_page.LentPage.{LentPage}
use Rattle.tombolopan_c.proofs.page_calls.tb_memory_init.Given as goal

abbrev pub invariant-loop-page : goal.invariant-loop-page
invariant-loop-page l =
    (length l.pages ≡ length l.initial.pages)
    × ((k : ℕ) (d : LentPage) → k < l.page-index → (get_or l.pages k d).mapped ≡ 0)
