-- The pages of a memory as a list for a caller in C.
use Rattle.std.specs.Prelude.{◌≡◌, ℕ, ◌<◌, List, map, length, slice_index_or, Option, option_map}
use Rattle.std.specs.Ordering.{nat_cmp}
use Rattle.std.specs.FinMap as finite
use Rattle.mte_tags.specs.Memory.{Memory, page_at}
use Rattle.mte_flat.specs.declared.mapped.MappedPage.{MappedPage}
use Rattle.tombolopan_c.specs.declared.pages.PageEntry.{PageEntry}

-- A page as it is entered.
abbrev pub page_told : MappedPage → PageEntry
page_told p = record { number = p.number; attrs = p.attrs.0; unused = 0 }

-- The number of an entered page, and its attributes.
abbrev pub number_and_attrs : PageEntry → ℕ × ℕ
number_and_attrs e = (e.number, e.attrs)

-- The attributes of the page with a number, if it is in the list.
abbrev pub attrs_told : List PageEntry → ℕ → Option ℕ
attrs_told entries q =
    finite.get (finite.from_entries {R = nat_cmp} (map number_and_attrs entries)) q

-- A list has each page of a memory with its attributes, none twice, and no other.
pub record IsPageMap (m : Memory) (entries : List PageEntry) : Type 0 where
  pub each : (q : ℕ) → attrs_told entries q ≡ option_map (λ p. p.attrs) (page_at m q)
  pub once :
      (i j : ℕ) (d : PageEntry) → i < length entries → j < length entries
      → (slice_index_or entries i d).number ≡ (slice_index_or entries j d).number → i ≡ j
