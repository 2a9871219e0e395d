-- The places of a space: the pages that it remembers, each in the frame that was found for it.
use Rattle.std.specs.Prelude.{ℕ, ◌<◌, ◌/◌, ◌^◌, length}
use Rattle.mte_tags.specs.Memory.{Page}
use Rattle.mte_space.specs.Spaces.{page_of}
use Rattle.mte_space.specs.Remembered.{attrs_of, page_at_place}
use Rattle.mte_space.specs.declared.remembered.RememberedPage.{RememberedPage}
use Rattle.mte_space.specs.declared.space.Space.{Space}

-- The remembered page with an index.
abbrev pub remembered_in : Space → ℕ → RememberedPage
remembered_in s i = page_at_place s.remembered.now i

-- a place in which a page was found
abbrev pub IsPlace : Space → ℕ → Type 0
IsPlace s i = (i < length s.remembered.now.pages.value) × ((remembered_in s i).address < 2 ^ 56)

-- The number of a remembered page.
abbrev pub number_in : Space → ℕ → ℕ
number_in s i = (remembered_in s i).address / 4096

-- The bytes, tags and attributes of a remembered page.
abbrev pub page_in : Space → ℕ → Page
page_in s i = page_of s.pool.now ((remembered_in s i).frame, attrs_of (remembered_in s i))
