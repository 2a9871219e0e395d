use Rattle.std.proofs.Common.{◌≡◌, ◌≢◌, ℕ, length}
use Rattle.tombolopan_c.specs.LentPages.{NoneBefore}
use Rattle.tombolopan_c.proofs.Places.{place_in}
use Rattle.tombolopan_c.proofs.page_calls.tb_unmap.Given as goal

abbrev pub invariant-loop-page : goal.invariant-loop-page
invariant-loop-page l =
    (length l.pages ≡ length l.initial.pages) × NoneBefore l.pages l.page-index l.number
    × ((r : ℕ) → r ≢ l.number → place_in l.pages r ≡ place_in l.initial.pages r)
