-- The chunks with pages of their own (Scudo, secondary.h): a list of mappings, and where the next
-- one may be.
use Rattle.std.specs.Prelude.{◌≡◌, ℕ, zero, suc, ◌+◌, ◌-◌, ◌*◌, ◌/◌, ◌%◌, ◌<◌, ◌≤◌, ◌==◌, Bool}
use Rattle.std.specs.Prelude.{◌&&◌, ◌||◌, nat_le, nat_lt, List, [], ◌∷◌, Option, if◌then◌else◌}
use Rattle.std.specs.Prelude.{refl}
use Rattle.std.specs.List.{find, list_all, sum_by}
use Rattle.std.specs.Coded.{Coded, code_by, coded×, coded_ℕ, coded_list}
use Rattle.common.specs.declared.limits.TheConstants.{PAGE_SIZE}
use Rattle.common.specs.declared.ranges.TheConstants.{SECONDARY_START, SECONDARY_END}
use Rattle.scudo_secondary.specs.declared.mappings.Mapping.{Mapping}

-- The pages that all mappings together may have, and the mappings in the order of their starts.
pub record SecondaryState : Type 0 where
  pub limit : ℕ
  pub mappings : List Mapping

-- The code of a mapping, by which proofs distinguish two.
abbrev pub coded_mapping : Coded Mapping
coded_mapping =
    code_by (ℕ × (ℕ × ℕ)) (coded× coded_ℕ (coded× coded_ℕ coded_ℕ))
    (λ m. (m.start, (m.pages, m.user)))
    (λ c. record { start = c.0; pages = c.1.0; user = c.1.1 })
    (λ _. refl)

-- The code of the mappings, by which proofs distinguish two.
abbrev pub coded_maps : Coded SecondaryState
coded_maps =
    code_by (ℕ × List Mapping) (coded× coded_ℕ (coded_list coded_mapping))
    (λ s. (s.limit, s.mappings))
    (λ c. record { limit = c.0; mappings = c.1 })
    (λ _. refl)

-- The address after a mapping's last page.
abbrev pub end_of : Mapping → ℕ
end_of m = m.start + PAGE_SIZE * m.pages

-- The pages that mappings have together.
abbrev pub pages_of : List Mapping → ℕ
pages_of ms = sum_by (λ m. m.pages) ms

-- There is space for a mapping of so many pages more.
abbrev pub HasRoom : SecondaryState → ℕ → Type 0
HasRoom s pages = pages_of s.mappings + pages ≤ s.limit

-- ---- places

-- Whether there is at least a page between a mapping and a number of pages from an address on.
abbrev pub is_apart : ℕ → ℕ → Mapping → Bool
is_apart pages start m =
    nat_le (end_of m + PAGE_SIZE) start || nat_le (start + PAGE_SIZE * pages + PAGE_SIZE) m.start

-- Whether pages may be mapped at an address: they and one page on each side are in the range, and
-- none of these is a mapping's.
unfoldable pub is_place : List Mapping → ℕ → ℕ → Bool
is_place ms pages start =
    (start % PAGE_SIZE == 0) && nat_le (SECONDARY_START + PAGE_SIZE) start
    && nat_le (start + PAGE_SIZE * pages + PAGE_SIZE) SECONDARY_END
    && list_all (is_apart pages start) ms

-- The first addresses of n pages.
unfoldable pub page_starts : ℕ → ℕ → List ℕ
page_starts from zero = []
page_starts from (suc n) = from ∷ page_starts (from + PAGE_SIZE) n

-- The least place of all in the range.
unfoldable pub place_of : List Mapping → ℕ → Option ℕ
place_of ms pages =
    find (is_place ms pages)
    (page_starts SECONDARY_START ((SECONDARY_END - SECONDARY_START) / PAGE_SIZE))

-- ---- the list

-- A mapping's pages hold its user address.
pub record HoldsUser (m : Mapping) : Type 0 where
  pub first : m.start ≤ m.user
  pub last : m.user < end_of m

-- Each mapping has pages, which hold its user address, and begins at the least address or above.
pub record IsMapping (least : ℕ) (m : Mapping) : Type 0 where
  pub above : least ≤ m.start
  pub aligned : m.start % PAGE_SIZE ≡ 0
  pub some : 0 < m.pages
  pub first : m.start ≤ m.user
  pub last : m.user < end_of m

-- The mappings from an address on: between two of them, and before the range's end, a page at least
-- is left.
abbrev pub AreFrom : ℕ → List Mapping → Type 0
AreFrom least [] = least ≤ SECONDARY_END
AreFrom least (m ∷ more) = IsMapping least m × AreFrom (end_of m + PAGE_SIZE) more

-- Mappings in the order of their starts, with a page between neighbours, in the range of chunks
-- with pages of their own.
unfoldable pub AreMappings : List Mapping → Type 0
AreMappings ms = AreFrom (SECONDARY_START + PAGE_SIZE) ms

-- The mapping with a user address.
abbrev pub mapping_of : List Mapping → ℕ → Option Mapping
mapping_of ms user = find (λ m. m.user == user) ms

-- A mapping more, before those that begin above it.
unfoldable pub with_mapping : List Mapping → Mapping → List Mapping
with_mapping [] n = n ∷ []
with_mapping (m ∷ more) n =
    if nat_lt m.start n.start then m ∷ with_mapping more n else n ∷ (m ∷ more)
