-- Which pages a list says to be mapped.
use Rattle.std.specs.Prelude.{◌≡◌, ℕ, ◌<◌, List, map, length, slice_index_or, Option}
use Rattle.std.specs.Ordering.{nat_cmp}
use Rattle.std.specs.FinMap as finite
use Rattle.mte_flat.specs.declared.mapped.MappedPage.{MappedPage}

-- The number of a mapped page, and its attributes.
abbrev pub entry_of : MappedPage → ℕ × ℕ
entry_of p = (p.number, p.attrs.0)

-- The attributes of the page with a number, if it is in the list.
abbrev pub attrs_in : List MappedPage → ℕ → Option ℕ
attrs_in pages q = finite.get (finite.from_entries {R = nat_cmp} (map entry_of pages)) q

-- No page is in the list twice.
abbrev pub AreApart : List MappedPage → Type 0
AreApart pages =
    (i j : ℕ) (d : MappedPage) → i < length pages → j < length pages
    → (slice_index_or pages i d).number ≡ (slice_index_or pages j d).number → i ≡ j
