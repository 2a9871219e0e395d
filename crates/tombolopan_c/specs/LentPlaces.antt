-- The places of a lent memory: each the first of a page.
use Rattle.std.specs.Prelude.{ℕ, [], get_or}
use Rattle.mte_tags.specs.Memory.{Page}
use Rattle.tombolopan_c.specs.LentPages.{page_of, IsFirst}
use Rattle.tombolopan_c.specs.declared.lent.Lent.{Lent}
use Rattle.tombolopan_c.specs.declared.lent_page.LentPage.{LentPage}

-- for where no place is
abbrev pub no_page : LentPage
no_page = record { number = 0; mapped = 0; attrs = 0; bytes = []; tags = [] }

-- The place with an index.
abbrev pub place_in : Lent → ℕ → LentPage
place_in l i = get_or l.pages.now i no_page

-- The number of the page in a place.
abbrev pub number_in : Lent → ℕ → ℕ
number_in l i = (place_in l i).number

-- A place is the first that holds its page.
abbrev pub IsPlace : Lent → ℕ → Type 0
IsPlace l i = IsFirst l.pages.now i (number_in l i)

-- The page in the place with an index.
abbrev pub page_in : Lent → ℕ → Page
page_in l i = page_of (place_in l i)
