-- Remembered pages: where pages of a tenant were found.
--     attrs_of p           the attributes of p
--     IsKey p attr key     key is the address of p, and p has the attribute
--     IsUpToDate m p       the page of p, if it is one, is in the pages m as p says
--     IsRemembered m r     each page that r remembers is such
--     page_at_place r i    the page that r remembers in the place i
--     with_page_at r i p   r, with p in the place i
use Rattle.std.specs.Prelude.{◌≡◌, ◌<◌, ◌/◌, ◌%◌, ◌^◌, ℕ, true, Some, All, get_or, length, slice_set}
use Rattle.std.specs.FinMap.{get}
use Rattle.mte_tags.specs.Memory.{has}
use Rattle.mte_tags.specs.declared.attrs.Attrs.{Attrs}
use Rattle.mte_translate.specs.Tables.{Pages}
use Rattle.mte_space.specs.declared.remembered.TheConstants.{PLACES}
use Rattle.mte_space.specs.declared.remembered.RememberedPage.{RememberedPage}
use Rattle.mte_space.specs.declared.remembered.RememberedPages.{RememberedPages}

-- The attributes of a remembered page.
abbrev pub attrs_of : RememberedPage → Attrs
attrs_of p = record { 0 = p.attrs % 256 }

-- A key of a page for what an attribute permits: its address, if the page has the attribute. From
-- 2^56 on it is none.
abbrev pub IsKey : RememberedPage → ℕ → ℕ → Type 0
IsKey p attr key = key < 2 ^ 56 → (key ≡ p.address) × (has (attrs_of p).0 attr ≡ true)

-- A remembered page is what the table maps; an address from 2^56 on remembers nothing.
pub record IsUpToDate (m : Pages) (p : RememberedPage) : Type 0 where
  pub aligned : p.address < 2 ^ 56 → p.address % 4096 ≡ 0
  pub page : p.address < 2 ^ 56 → get m (p.address / 4096) ≡ Some (p.frame, attrs_of p)
  pub readable : IsKey p 1 p.readable
  pub writable : IsKey p 2 p.writable

-- All remembered pages are what the table maps.
pub record IsRemembered (m : Pages) (r : RememberedPages) : Type 0 where
  pub places : length r.pages.value ≡ PLACES
  pub pages : All (IsUpToDate m) r.pages.value

-- for where no place is
abbrev pub no_page : RememberedPage
no_page = record { address = 0; readable = 0; writable = 0; frame = 0; attrs = 0 }

-- The remembered page with an index.
abbrev pub page_at_place : RememberedPages → ℕ → RememberedPage
page_at_place r i = get_or r.pages.value i no_page

-- The same but for the page of one place.
abbrev pub with_page_at : RememberedPages → ℕ → RememberedPage → RememberedPages
with_page_at r i p =
    record {
      pages = record {
        ptr = r.pages.ptr;
        alloc = r.pages.alloc;
        value = slice_set r.pages.value i p;
      };
    }
