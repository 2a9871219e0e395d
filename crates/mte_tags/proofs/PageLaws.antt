-- What holds of pages and attributes after a memory was changed: mapping, unmapping, bytes, tags.
use Rattle.std.proofs.Common.{◌≡◌, ℕ, suc, zero, ◌+◌, ◌-◌, ◌/◌, ◌%◌, ◌^◌, ◌<◌, ◌≤◌, Bool, Option, Some, None, IsSome, is_some, List, [], ◌∷◌, refl, sym, ap, subst, ◌∙◌, inl, inr, arith}
use Rattle.std.proofs.lemmas.Bool.{cases_eq}
use Rattle.mte_tags.specs.Memory.{Memory, Page, page_at, with_page, without_page, pages_left, new_page, with_new_pages, without_pages, IsFree, ArePages, attrs_cases, attrs_at, with_byte_cases, with_byte, with_granule_cases, with_granule, with_granules}
use Rattle.mte_tags.specs.declared.attrs.Attrs.{Attrs}
use Rattle.mte_tags.specs.Accesses.{addresses, with_bytes, with_bytes_at, AreMapped, IsMapped}
use Rattle.a64_bits.specs.Addresses.{plain}
use Rattle.mte_tags.proofs.Pages.{page_at-with_page_same, page_at-with_page_other, page_at-without_page_same, page_at-without_page_other, pages_left-with_old, pages_left-with_new}

-- pages that were mapped, and the others
pub page_at-with_new_pages_out : (n : ℕ) (m : Memory) (q : ℕ) (x : Attrs) (r : ℕ) → (q ≤ r → r < q + n → ⊥) → page_at (with_new_pages m q n x) r ≡ page_at m r
unfolding with_new_pages
page_at-with_new_pages_out zero m q x r o = refl
page_at-with_new_pages_out (suc n) m q x r o =
    page_at-with_new_pages_out n (with_page m q (new_page x.0)) (q + 1) x r (λ a b. o (omega arith) (omega arith))
    ∙ page_at-with_page_other m q (new_page x.0) r (λ e. o (omega arith) (omega arith))

pub page_at-with_new_pages_in : (n : ℕ) (m : Memory) (q : ℕ) (x : Attrs) (r : ℕ) → q ≤ r → r < q + n → page_at (with_new_pages m q n x) r ≡ Some (new_page x.0)
unfolding with_new_pages
page_at-with_new_pages_in zero m q x r a b = absurd (omega arith)
page_at-with_new_pages_in (suc n) m q x r a b = elim (cases_eq r q) [
  | inl e ↦
      page_at-with_new_pages_out n (with_page m q (new_page x.0)) (q + 1) x r (λ c d. omega arith)
      ∙ ap (page_at (with_page m q (new_page x.0))) e ∙ page_at-with_page_same m q (new_page x.0)
  | inr k ↦ page_at-with_new_pages_in n (with_page m q (new_page x.0)) (q + 1) x r (omega arith) (omega arith)
]

-- pages that were unmapped, and the others
pub page_at-without_pages_out : (n : ℕ) (m : Memory) (q r : ℕ) → (q ≤ r → r < q + n → ⊥) → page_at (without_pages m q n) r ≡ page_at m r
unfolding without_pages
page_at-without_pages_out zero m q r o = refl
page_at-without_pages_out (suc n) m q r o =
    page_at-without_pages_out n (without_page m q) (q + 1) r (λ a b. o (omega arith) (omega arith))
    ∙ page_at-without_page_other m q r (λ e. o (omega arith) (omega arith))

pub page_at-without_pages_in : (n : ℕ) (m : Memory) (q r : ℕ) → q ≤ r → r < q + n → page_at (without_pages m q n) r ≡ None
unfolding without_pages
page_at-without_pages_in zero m q r a b = absurd (omega arith)
page_at-without_pages_in (suc n) m q r a b = elim (cases_eq r q) [
  | inl e ↦ page_at-without_pages_out n (without_page m q) (q + 1) r (λ c d. omega arith) ∙ ap (page_at (without_page m q)) e ∙ page_at-without_page_same m q
  | inr k ↦ page_at-without_pages_in n (without_page m q) (q + 1) r (omega arith) (omega arith)
]

pub limit-with_new_pages : (n : ℕ) (m : Memory) (q : ℕ) (x : Attrs) → (with_new_pages m q n x).limit ≡ m.limit
unfolding with_new_pages with_page
limit-with_new_pages zero m q x = refl
limit-with_new_pages (suc n) m q x = limit-with_new_pages n (with_page m q (new_page x.0)) (q + 1) x

-- how many pages are left after mapping
pub pages_left-with_new_pages : (n : ℕ) (m : Memory) (q : ℕ) (x : Attrs) → IsFree m q n → pages_left (with_new_pages m q n x) ≡ pages_left m - n
unfolding with_new_pages
pages_left-with_new_pages zero m q x h = let e : pages_left m - 0 ≡ pages_left m = omega arith in sym e
pages_left-with_new_pages (suc n) m q x h =
    let at : page_at m q ≡ None = ap (page_at m) (let e : q ≡ q + 0 = omega arith in e) ∙ h 0 (omega arith) in
    let free : IsFree (with_page m q (new_page x.0)) (q + 1) n = λ i l.
    let e : q + 1 + i ≡ q + (i + 1) = omega arith in
    page_at-with_page_other m q (new_page x.0) (q + 1 + i) (λ s. omega arith) ∙ ap (page_at m) e ∙ h (i + 1) (omega arith) in
    let first = pages_left-with_new m q (new_page x.0) at in
    let rest = pages_left-with_new_pages n (with_page m q (new_page x.0)) (q + 1) x free in
    omega arith

-- attributes: another page of the same attributes in a place keeps them
attrs_at-with_page : (m : Memory) (q : ℕ) (old new : Page) (r : ℕ) → page_at m q ≡ Some old → new.attrs ≡ old.attrs → attrs_at (with_page m q new) r ≡ attrs_at m r
unfolding attrs_at
attrs_at-with_page m q old new r h e = elim (cases_eq r q) [
  | inl s ↦ rw s (ap attrs_cases (page_at-with_page_same m q new) ∙ ap Some e ∙ sym (ap attrs_cases h))
  | inr n ↦ ap attrs_cases (page_at-with_page_other m q new r n)
]

attrs_at-with-byte-cases : (m : Memory) (q o b : ℕ) (p : Option Page) (r : ℕ) → page_at m q ≡ p → attrs_at (with_byte_cases m q o b p) r ≡ attrs_at m r
attrs_at-with-byte-cases m q o b None r h = refl
attrs_at-with-byte-cases m q o b (Some p) r h = attrs_at-with_page m q p _ r h refl

pub attrs_at-with_bytes : (xs bs : List ℕ) (m : Memory) (r : ℕ) → attrs_at (with_bytes m xs bs) r ≡ attrs_at m r
unfolding with_bytes with_byte
attrs_at-with_bytes (a ∷ more) (b ∷ bs) m r = attrs_at-with_bytes more bs (with_byte m a b) r ∙ attrs_at-with-byte-cases m (a / 4096) (a % 4096) b (page_at m (a / 4096)) r refl
attrs_at-with_bytes [] bs m r = refl
attrs_at-with_bytes (a ∷ more) [] m r = refl

pub attrs_at-with-bytes-at : (m : Memory) (a : ℕ) (bs : List ℕ) (r : ℕ) → attrs_at (with_bytes_at m a bs) r ≡ attrs_at m r
unfolding with_bytes_at
attrs_at-with-bytes-at m a bs r = attrs_at-with_bytes _ bs m r

attrs_at-with-granule-cases : (m : Memory) (q g t : ℕ) (z : Bool) (p : Option Page) (r : ℕ) → page_at m q ≡ p → attrs_at (with_granule_cases m q g t z p) r ≡ attrs_at m r
attrs_at-with-granule-cases m q g t z None r h = refl
attrs_at-with-granule-cases m q g t z (Some p) r h = attrs_at-with_page m q p _ r h refl

pub attrs_at-with_granules : (n : ℕ) (m : Memory) (a t : ℕ) (z : Bool) (r : ℕ) → attrs_at (with_granules m a n t z) r ≡ attrs_at m r
unfolding with_granules with_granule
attrs_at-with_granules zero m a t z r = refl
attrs_at-with_granules (suc n) m a t z r =
    attrs_at-with_granules n (with_granule m a t z) ((a + 16) % 2 ^ 56) t z r ∙ attrs_at-with-granule-cases m (a / 4096) (a % 4096 / 16) t z (page_at m (a / 4096)) r refl

pub attrs_at-with_new_pages_in : (n : ℕ) (m : Memory) (q : ℕ) (x : Attrs) (r : ℕ) → q ≤ r → r < q + n → attrs_at (with_new_pages m q n x) r ≡ Some x.0
unfolding attrs_at new_page
attrs_at-with_new_pages_in n m q x r a b = ap attrs_cases (page_at-with_new_pages_in n m q x r a b)

pub attrs_at-with_new_pages_out : (n : ℕ) (m : Memory) (q : ℕ) (x : Attrs) (r : ℕ) → (q ≤ r → r < q + n → ⊥) → attrs_at (with_new_pages m q n x) r ≡ attrs_at m r
unfolding attrs_at
attrs_at-with_new_pages_out n m q x r o = ap attrs_cases (page_at-with_new_pages_out n m q x r o)

pub attrs_at-without_pages_in : (n : ℕ) (m : Memory) (q r : ℕ) → q ≤ r → r < q + n → attrs_at (without_pages m q n) r ≡ None
unfolding attrs_at
attrs_at-without_pages_in n m q r a b = ap attrs_cases (page_at-without_pages_in n m q r a b)

pub attrs_at-without_pages_out : (n : ℕ) (m : Memory) (q r : ℕ) → (q ≤ r → r < q + n → ⊥) → attrs_at (without_pages m q n) r ≡ attrs_at m r
unfolding attrs_at
attrs_at-without_pages_out n m q r o = ap attrs_cases (page_at-without_pages_out n m q r o)

none_of : (p : Option Page) → attrs_cases p ≡ None → p ≡ None
none_of None e = refl
none_of (Some p) e = cc

-- a page without attributes is not mapped
pub page_at-no_attrs : (m : Memory) (q : ℕ) → attrs_at m q ≡ None → page_at m q ≡ None
unfolding attrs_at
page_at-no_attrs m q e = none_of (page_at m q) e

some_of : (p : Option Page) (x : ℕ) → attrs_cases p ≡ Some x → (r : Page) × ((p ≡ Some r) × (r.attrs ≡ x))
some_of None x e = cc
some_of (Some p) x e = (p, (refl, cc))

-- a page with attributes is mapped
pub page_at-attrs : (m : Memory) (q x : ℕ) → attrs_at m q ≡ Some x → (r : Page) × ((page_at m q ≡ Some r) × (r.attrs ≡ x))
unfolding attrs_at
page_at-attrs m q x e = some_of (page_at m q) x e

-- bytes and tags take no page
left-with-byte-cases : (m : Memory) (q o b : ℕ) (p : Option Page) → page_at m q ≡ p → pages_left (with_byte_cases m q o b p) ≡ pages_left m
left-with-byte-cases m q o b None h = refl
left-with-byte-cases m q o b (Some p) h = pages_left-with_old m q _ p h

left-with_bytes : (xs bs : List ℕ) (m : Memory) → pages_left (with_bytes m xs bs) ≡ pages_left m
unfolding with_bytes with_byte
left-with_bytes (a ∷ more) (b ∷ bs) m = left-with_bytes more bs (with_byte m a b) ∙ left-with-byte-cases m (a / 4096) (a % 4096) b (page_at m (a / 4096)) refl
left-with_bytes [] bs m = refl
left-with_bytes (a ∷ more) [] m = refl

pub pages_left-with-bytes-at : (m : Memory) (a : ℕ) (bs : List ℕ) → pages_left (with_bytes_at m a bs) ≡ pages_left m
unfolding with_bytes_at
pages_left-with-bytes-at m a bs = left-with_bytes _ bs m

left-with-granule-cases : (m : Memory) (q g t : ℕ) (z : Bool) (p : Option Page) → page_at m q ≡ p → pages_left (with_granule_cases m q g t z p) ≡ pages_left m
left-with-granule-cases m q g t z None h = refl
left-with-granule-cases m q g t z (Some p) h = pages_left-with_old m q _ p h

pub pages_left-with_granules : (n : ℕ) (m : Memory) (a t : ℕ) (z : Bool) → pages_left (with_granules m a n t z) ≡ pages_left m
unfolding with_granules with_granule
pages_left-with_granules zero m a t z = refl
pages_left-with_granules (suc n) m a t z =
    pages_left-with_granules n (with_granule m a t z) ((a + 16) % 2 ^ 56) t z ∙ left-with-granule-cases m (a / 4096) (a % 4096 / 16) t z (page_at m (a / 4096)) refl

some_mapped : (o : Option Page) (p : Page) → o ≡ Some p → IsSome o
some_mapped o p e = ap is_some e

-- pages with attributes are mapped
pub ArePages-attrs : (m : Memory) (q n x : ℕ) → ((i : ℕ) → i < n → attrs_at m (q + i) ≡ Some x) → ArePages m q n
ArePages-attrs m q n x h = λ i l. let p = page_at-attrs m (q + i) x (h i l) in some_mapped (page_at m (q + i)) p.0 p.1.0

mapped_bytes : (n : ℕ) (m : Memory) (a : ℕ) → a < 2 ^ 56 → ((i : ℕ) → i < n → IsSome (page_at m ((a + i) % 2 ^ 56 / 4096))) → AreMapped m (addresses a n)
unfolding addresses
mapped_bytes zero m a u h = tt
mapped_bytes (suc n) m a u h = (
  subst (λ k. IsSome (page_at m k)) (let e : (a + 0) % 2 ^ 56 / 4096 ≡ a / 4096 = omega arith in e) (h 0 (omega arith)),
  mapped_bytes n m ((a + 1) % 2 ^ 56) (omega arith) (λ i l.
      let e : (a + (i + 1)) % 2 ^ 56 / 4096 ≡ ((a + 1) % 2 ^ 56 + i) % 2 ^ 56 / 4096 = omega arith in
      subst (λ k. IsSome (page_at m k)) e (h (i + 1) (omega arith))),
)

-- bytes lie in mapped pages where each one's page is mapped
pub IsMapped-from_pages : (m : Memory) (a n : ℕ) → ((i : ℕ) → i < n → IsSome (page_at m ((plain a + i) % 2 ^ 56 / 4096))) → IsMapped m a n
IsMapped-from_pages m a n h = mapped_bytes n m (plain a) (omega arith) h

-- one of several pages, and then the others
pub with_new_pages-step : (m : Memory) (q n : ℕ) (attrs : Attrs) → 0 < n → with_new_pages m q n attrs ≡ with_new_pages (with_page m q (new_page attrs.0)) (q + 1) (n - 1) attrs
unfolding with_new_pages
with_new_pages-step m q zero attrs h = absurd (omega arith)
with_new_pages-step m q (suc n) attrs h = let e : suc n - 1 ≡ n = omega arith in ap (λ k. with_new_pages (with_page m q (new_page attrs.0)) (q + 1) k attrs) (sym e)

pub without_pages-step : (m : Memory) (q n : ℕ) → 0 < n → without_pages m q n ≡ without_pages (without_page m q) (q + 1) (n - 1)
unfolding without_pages
without_pages-step m q zero h = absurd (omega arith)
without_pages-step m q (suc n) h = let e : suc n - 1 ≡ n = omega arith in ap (λ k. without_pages (without_page m q) (q + 1) k) (sym e)
