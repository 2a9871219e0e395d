-- The memory that lent places and a lent tag state say, whatever they hold.
--     lent_memory s pages     the memory of a tag state and of places
--     is_place_of p q         whether a place is in use for the page q
-- Of several places of one page the first counts. Of attributes and tags the low four bits count.
use Rattle.std.specs.Prelude.{◌≡◌, ℕ, ◌<◌, ◌%◌, ◌==◌, ◌&&◌, ◌||◌, Bool, true, false, not}
use Rattle.std.specs.Prelude.{List, [], ◌∷◌, map, length, slice_index_or, if◌then◌else◌}
use Rattle.std.specs.FinMap as finite
use Rattle.mte_tags.specs.Memory.{Memory, Page}
use Rattle.mte_tags.specs.declared.state.TagMode.{TagMode}
use Rattle.mte_tags.specs.declared.state.TagMode.TheVariants.{Sync, Async}
use Rattle.mte_tags.specs.declared.state.TagState.{TagState}
use Rattle.tombolopan_c.specs.declared.lent.LentTagState.{LentTagState}
use Rattle.tombolopan_c.specs.declared.lent_page.LentPage.{LentPage}

-- The page in a place; of attributes and tags the low four bits count.
abbrev pub page_of : LentPage → Page
page_of p =
    record { attrs = p.attrs % 16; bytes = p.bytes; tags = map (λ t. t % 16) p.tags }

-- Whether a place holds the page with a number.
abbrev pub is_place_of : LentPage → ℕ → Bool
is_place_of p q = not (p.mapped == 0) && p.number == q

-- the pages of the places in use, each with its number
abbrev pub entries_of : List LentPage → List (ℕ × Page)
entries_of [] = []
entries_of (p ∷ more) =
    if p.mapped == 0 then entries_of more else (p.number, page_of p) ∷ entries_of more

-- The memory in places: as many pages as places at most.
unfoldable pub lent_memory : TagState → List LentPage → Memory
lent_memory s pages =
    record { limit = length pages; pages = finite.from_entries (entries_of pages); state = s }

-- The tag mode of a flag.
abbrev pub mode_for : Bool → TagMode
mode_for asynchronous = if asynchronous then Async else Sync

-- The tag state in numbers; a number other than 0 is true.
abbrev pub state_of : LentTagState → TagState
state_of s =
    record { mode = mode_for (not (s.asynchronous == 0)); pending = not (s.pending == 0) }

-- whether a place is free
abbrev pub has_room : List LentPage → Bool
has_room [] = false
has_room (p ∷ more) = p.mapped == 0 || has_room more

-- no place before the place i is one of the page q
abbrev pub NoneBefore : List LentPage → ℕ → ℕ → Type 0
NoneBefore pages i q =
    (k : ℕ) (d : LentPage) → k < i → is_place_of (slice_index_or pages k d) q ≡ false

-- No place holds the page.
abbrev pub HasNone : List LentPage → ℕ → Type 0
HasNone pages q = NoneBefore pages (length pages) q

-- the place i is the first of the page q
pub record IsFirst (pages : List LentPage) (i q : ℕ) : Type 0 where
  pub within : i < length pages
  pub here : (d : LentPage) → is_place_of (slice_index_or pages i d) q ≡ true
  pub before : NoneBefore pages i q

-- the place i is free
pub record IsFree (pages : List LentPage) (i : ℕ) : Type 0 where
  pub within : i < length pages
  pub free : (d : LentPage) → (slice_index_or pages i d).mapped ≡ 0
