-- A tagged memory: how many pages it may have, the pages that it has, its tag mode and its flag.
--     page_at m q           the page q, if it is mapped
--     with_page m q p       m with p as its page q
--     without_page m q      m without its page q
--     pages_left m          how many more pages may be mapped
--     byte_at m a           the byte at a plain address
--     tag_at m a            the allocation tag of the granule at a plain address
--     page_has m q need     whether the page q is mapped with the attributes need
--     with_pending m        m with its flag set
-- A page has 4096 bytes and 256 granules of 16 bytes. The page of a plain address a is a / 4096.
use Rattle.std.specs.Prelude.{◌≡◌, ℕ, zero, suc, ◌+◌, ◌-◌, ◌*◌, ◌<◌, ◌/◌, ◌%◌, ◌^◌, ◌==◌, Bool}
use Rattle.std.specs.Prelude.{true, false}
use Rattle.std.specs.Prelude.{List, ◌++◌, take, drop, replicate, slice_index, slice_set}
use Rattle.std.specs.Prelude.{if◌then◌else◌, Option, Some, None, IsSome, refl}
use Rattle.std.specs.Int.RustNames.{bit_and}
use Rattle.std.specs.Ordering.{nat_cmp}
use Rattle.std.specs.FinMap as map
use Rattle.std.specs.FinMap.{FinMap}
use Rattle.std.specs.Coded.{Coded, code_by, coded×, coded_ℕ, coded_bool, coded_list}
use Rattle.mte_tags.specs.declared.attrs.Attrs.{Attrs}
use Rattle.mte_tags.specs.declared.state.TagMode.{TagMode}
use Rattle.mte_tags.specs.declared.state.TagMode.TheVariants.{Sync, Async}
use Rattle.mte_tags.specs.declared.state.TagState.{TagState}

-- The attributes of data: READ, WRITE and TAGGED.
abbrev pub data_attrs : Attrs
data_attrs = record { 0 = 11 }

-- attrs is the sum of READ 1, WRITE 2, EXEC 4 and TAGGED 8; a tag for each granule
pub record Page : Type 0 where
  pub attrs : ℕ
  pub bytes : List ℕ
  pub tags : List ℕ

-- A tagged memory: the most pages that it may have, a finite map of its pages, the tag mode and the
-- flag.
pub record Memory : Type 0 where
  pub limit : ℕ
  pub pages : FinMap nat_cmp Page
  pub state : TagState

-- Whether the mode is the asynchronous one.
abbrev pub is_async : TagMode → Bool
is_async Sync = false
is_async Async = true

-- The mode with that answer.
abbrev pub mode_of : Bool → TagMode
mode_of false = Sync
mode_of true = Async

pub mode_of-is_async : (mode : TagMode) → mode_of (is_async mode) ≡ mode
mode_of-is_async Sync = refl
mode_of-is_async Async = refl

-- The code of a tag state, by which proofs distinguish two.
abbrev pub coded_state : Coded TagState
coded_state =
    code_by (Bool × Bool) (coded× coded_bool coded_bool)
    (λ s. (is_async s.mode, s.pending))
    (λ c. record { mode = mode_of c.0; pending = c.1 })
    (λ s. λ i. record { mode = mode_of-is_async s.mode i; pending = s.pending })

-- The code of a page, by which proofs distinguish two.
abbrev pub coded_page : Coded Page
coded_page =
    code_by (ℕ × (List ℕ × List ℕ))
    (coded× coded_ℕ (coded× (coded_list coded_ℕ) (coded_list coded_ℕ)))
    (λ p. (p.attrs, (p.bytes, p.tags)))
    (λ c. record { attrs = c.0; bytes = c.1.0; tags = c.1.1 })
    (λ _. refl)

-- The code of a memory, by which proofs distinguish two.
abbrev pub coded_memory : Coded Memory
coded_memory =
    code_by (ℕ × (FinMap nat_cmp Page × TagState))
    (coded× coded_ℕ (coded× (map.code coded_ℕ coded_page) coded_state))
    (λ m. (m.limit, (m.pages, m.state)))
    (λ c. record { limit = c.0; pages = c.1.0; state = c.1.1 })
    (λ _. refl)

-- The page with a number, if it is mapped.
unfoldable pub page_at : Memory → ℕ → Option Page
page_at m q = map.get m.pages q

-- The memory with a page put in or replaced.
unfoldable pub with_page : Memory → ℕ → Page → Memory
with_page m q p = record m { pages = map.insert m.pages q p }

-- The memory without the page with a number.
unfoldable pub without_page : Memory → ℕ → Memory
without_page m q = record m { pages = map.remove m.pages q }

-- How many pages may still be mapped.
unfoldable pub pages_left : Memory → ℕ
pages_left m = m.limit - map.len m.pages

-- a memory of a mode, without pages, its flag clear
unfoldable pub no_pages : ℕ → TagMode → Memory
no_pages limit mode =
    record { limit = limit; pages = map.empty; state = record { mode = mode; pending = false } }

-- The memory with its flag set (TFSRE0_EL1.TF0).
unfoldable pub with_pending : Memory → Memory
with_pending m = record m { state = record m.state { pending = true } }

-- a page of zero bytes and tag 0
unfoldable pub new_page : ℕ → Page
new_page attrs = record { attrs = attrs; bytes = replicate 4096 0; tags = replicate 256 0 }

-- m with n new pages from q on
unfoldable pub with_new_pages : Memory → ℕ → ℕ → Attrs → Memory
with_new_pages m q zero attrs = m
with_new_pages m q (suc n) attrs = with_new_pages (with_page m q (new_page attrs.0)) (q + 1) n attrs

-- m without the n pages from q on
unfoldable pub without_pages : Memory → ℕ → ℕ → Memory
without_pages m q zero = m
without_pages m q (suc n) = without_pages (without_page m q) (q + 1) n

-- none of the n pages from q on is mapped
abbrev pub IsFree : Memory → ℕ → ℕ → Type 0
IsFree m q n = (i : ℕ) → i < n → page_at m (q + i) ≡ None

-- each of the n pages from q on is mapped
abbrev pub ArePages : Memory → ℕ → ℕ → Type 0
ArePages m q n = (i : ℕ) → i < n → IsSome (page_at m (q + i))

-- whether attributes have all those of need
abbrev pub has : ℕ → ℕ → Bool
has attrs need = bit_and attrs need == need

abbrev pub attrs_cases : Option Page → Option ℕ
attrs_cases None = None
attrs_cases (Some p) = Some p.attrs

-- the attributes of a page, if it is mapped
unfoldable pub attrs_at : Memory → ℕ → Option ℕ
attrs_at m q = attrs_cases (page_at m q)

abbrev pub has_cases : Option ℕ → ℕ → Bool
has_cases None need = false
has_cases (Some attrs) need = has attrs need

-- whether a page is mapped and has all the attributes of need
unfoldable pub page_has : Memory → ℕ → ℕ → Bool
page_has m q need = has_cases (attrs_at m q) need

abbrev pub byte_cases : Option Page → ℕ → ℕ
byte_cases None o = 0
byte_cases (Some p) o = slice_index p.bytes o

-- the byte at a plain address, 0 where no page is mapped
unfoldable pub byte_at : Memory → ℕ → ℕ
byte_at m a = byte_cases (page_at m (a / 4096)) (a % 4096)

abbrev pub with_byte_cases : Memory → ℕ → ℕ → ℕ → Option Page → Memory
with_byte_cases m q o b None = m
with_byte_cases m q o b (Some p) = with_page m q (record p { bytes = slice_set p.bytes o b })

-- m with b as the byte at a plain address
unfoldable pub with_byte : Memory → ℕ → ℕ → Memory
with_byte m a b = with_byte_cases m (a / 4096) (a % 4096) b (page_at m (a / 4096))

-- only a TAGGED page has tags: elsewhere a tag reads as 0
abbrev pub tag_cases : Option Page → ℕ → ℕ
tag_cases None g = 0
tag_cases (Some p) g = if has p.attrs 8 then slice_index p.tags g else 0

-- the allocation tag of the granule at a plain address, 0 where the page is not mapped or not
-- TAGGED
unfoldable pub tag_at : Memory → ℕ → ℕ
tag_at m a = tag_cases (page_at m (a / 4096)) (a % 4096 / 16)

-- the bytes of a page with those of the granule g zero
abbrev pub with_zero_granule : List ℕ → ℕ → List ℕ
with_zero_granule bytes g = take (16 * g) bytes ++ replicate 16 0 ++ drop (16 * g + 16) bytes

abbrev pub with_granule_cases : Memory → ℕ → ℕ → ℕ → Bool → Option Page → Memory
with_granule_cases m q g t zero_it None = m
with_granule_cases m q g t zero_it (Some p) =
    with_page m q (record {
      attrs = p.attrs;
      bytes = if zero_it then with_zero_granule p.bytes g else p.bytes;
      tags = slice_set p.tags g t;
    })

-- m with t as the tag of the granule at a plain address, and its bytes zero where that is requested
unfoldable pub with_granule : Memory → ℕ → ℕ → Bool → Memory
with_granule m a t zero_it =
    with_granule_cases m (a / 4096) (a % 4096 / 16) t zero_it (page_at m (a / 4096))

-- the same for n granules from a plain address on: after the last address comes 0
unfoldable pub with_granules : Memory → ℕ → ℕ → ℕ → Bool → Memory
with_granules m a zero t zero_it = m
with_granules m a (suc n) t zero_it =
    with_granules (with_granule m a t zero_it) ((a + 16) % 2 ^ 56) n t zero_it
