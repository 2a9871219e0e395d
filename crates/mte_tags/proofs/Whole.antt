-- Each change of a whole memory keeps it whole.
use Rattle.std.proofs.Common.{◌≡◌, ℕ, suc, zero, ◌+◌, ◌-◌, ◌/◌, ◌%◌, ◌^◌, ◌<◌, ◌≤◌, Bool, true, false, cond, Option, Some, None, IsSome, is_some, List, [], ◌∷◌, length, set, refl, sym, ap, subst, ◌∙◌, inl, inr, arith}
use Rattle.std.proofs.lemmas.Bool.{cases_eq, cond-true, cond-false}
use Rattle.std.proofs.lemmas.List.{length-set, length-replicate}
use Rattle.std.specs.Ordering.{nat_cmp}
use Rattle.std.specs.Cmp.{nat_cmp_total}
use Rattle.std.specs.FinMap as map
use Rattle.std.specs.FinMap.{len-insert, len-empty}
use Rattle.mte_tags.specs.Memory.{Memory, Page, page_at, with_page, without_page, pages_left, no_pages, new_page, with_new_pages, without_pages, IsFree, ArePages, with_byte_cases, with_byte, with_zero_granule, with_granule_cases, with_granule, with_granules}
use Rattle.mte_tags.specs.Whole.{IsWholePage, IsWhole}
use Rattle.mte_tags.specs.declared.attrs.Attrs.{Attrs}
use Rattle.mte_tags.specs.declared.state.TagMode.{TagMode}
use Rattle.mte_tags.specs.Accesses.{with_bytes, with_bytes_at}
use Rattle.mte_tags.proofs.Pages.{page_at-with_page_same, page_at-with_page_other, page_at-without_page_same, page_at-without_page_other, page_at-no_pages, same_memory, limit-without_page, rest-with_page, rest-without_page, pages_left-with_new}
use Rattle.mte_tags.proofs.TagRuns.{length-with-zero-granule}

none_whole : (o : Option Page) (p : Page) → o ≡ None → o ≡ Some p → IsWholePage p
none_whole o p e f = cc

some_is : (p r : Page) (o : Option Page) → o ≡ Some p → o ≡ Some r → p ≡ r
some_is p r o e f = cc

whole_pages : (m : Memory) (q : ℕ) (new : Page) → IsWholePage new → IsWhole m → (r : ℕ) (p : Page) → page_at (with_page m q new) r ≡ Some p → IsWholePage p
whole_pages m q new w h r p e = elim (cases_eq r q) [
  | inl f ↦ subst IsWholePage (some_is new p (page_at (with_page m q new) r) (ap (page_at (with_page m q new)) f ∙ page_at-with_page_same m q new) e) w
  | inr n ↦ h.pages r p (sym (page_at-with_page_other m q new r n) ∙ e)
]

-- another whole page in the place of one
pub whole-with_old : (m : Memory) (q : ℕ) (old new : Page) → page_at m q ≡ Some old → IsWholePage new → IsWhole m → IsWhole (with_page m q new)
unfolding page_at with_page
whole-with_old m q old new e w h = record {
  within = let l : map.len (map.insert m.pages q new) ≡ map.len m.pages = len-insert nat_cmp_total m.pages q new ∙ cond-true _ _ _ (ap is_some e) in omega (arith, h.within);
  pages = whole_pages m q new w h;
}

-- a new page while there is room
pub whole-with_new : (m : Memory) (q : ℕ) (new : Page) → page_at m q ≡ None → 0 < pages_left m → IsWholePage new → IsWhole m → IsWhole (with_page m q new)
unfolding page_at with_page pages_left
whole-with_new m q new e room w h = record {
  within = let l : map.len (map.insert m.pages q new) ≡ map.len m.pages + 1 = len-insert nat_cmp_total m.pages q new ∙ cond-false _ _ _ (ap is_some e) in omega (arith, h.within);
  pages = whole_pages m q new w h;
}

whole_without : (m : Memory) (q : ℕ) → IsWhole m → (r : ℕ) (p : Page) → page_at (without_page m q) r ≡ Some p → IsWholePage p
whole_without m q h r p e = elim (cases_eq r q) [
  | inl f ↦ let g : page_at (without_page m q) r ≡ None = ap (page_at (without_page m q)) f ∙ page_at-without_page_same m q in cc
  | inr n ↦ h.pages r p (sym (page_at-without_page_other m q r n) ∙ e)
]

-- a page that was taken out is put back
pub with_page-without_page : (m : Memory) (q : ℕ) (old : Page) → page_at m q ≡ Some old → with_page (without_page m q) q old ≡ m
with_page-without_page m q old e =
    same_memory _ _ (rest-with_page (without_page m q) q old ∙ rest-without_page m q)
    (λ r. elim (cases_eq r q) [
      | inl f ↦ rw f (page_at-with_page_same (without_page m q) q old ∙ sym e)
      | inr n ↦ page_at-with_page_other (without_page m q) q old r n ∙ page_at-without_page_other m q r n
    ])

one_less : (m : Memory) (q : ℕ) (old : Page) → page_at m q ≡ Some old → map.len (without_page m q).pages + 1 ≡ map.len m.pages
unfolding page_at with_page without_page
one_less m q old e =
    let gone : page_at (without_page m q) q ≡ None = page_at-without_page_same m q in
    let l : map.len (map.insert (map.remove m.pages q) q old) ≡ map.len (map.remove m.pages q) + 1 = len-insert nat_cmp_total (map.remove m.pages q) q old ∙ cond-false _ _ _ (ap is_some gone) in
    sym l ∙ ap (λ (k : Memory). map.len k.pages) (with_page-without_page m q old e)

pub whole-without_page : (m : Memory) (q : ℕ) (old : Page) → page_at m q ≡ Some old → IsWhole m → IsWhole (without_page m q)
whole-without_page m q old e h = record {
  within = let l = one_less m q old e in omega (arith, h.within, limit-without_page m q);
  pages = whole_without m q h;
}

-- a page that was unmapped may be mapped again
pub pages_left-without_page : (m : Memory) (q : ℕ) (old : Page) → page_at m q ≡ Some old → IsWhole m → pages_left (without_page m q) ≡ pages_left m + 1
unfolding pages_left
pages_left-without_page m q old e h = let l = one_less m q old e in omega (arith, h.within, limit-without_page m q)

pub whole-no_pages : (limit : ℕ) (mode : TagMode) → IsWhole (no_pages limit mode)
unfolding no_pages
whole-no_pages limit mode = record {
  within = omega (arith, len-empty nat_cmp Page);
  pages = λ q p e. let n = page_at-no_pages limit mode q in none_whole (page_at (no_pages limit mode) q) p n e;
}

whole_new : (attrs : ℕ) → IsWholePage (new_page attrs)
unfolding new_page
whole_new attrs = record { bytes = length-replicate {A = ℕ} 4096 0; tags = length-replicate {A = ℕ} 256 0 }

pub whole-with_new_pages : (n : ℕ) (m : Memory) (q : ℕ) (x : Attrs) → IsFree m q n → n ≤ pages_left m → IsWhole m → IsWhole (with_new_pages m q n x)
unfolding with_new_pages
whole-with_new_pages zero m q x f r h = h
whole-with_new_pages (suc n) m q x f r h =
    let at : page_at m q ≡ None = ap (page_at m) (let e : q ≡ q + 0 = omega arith in e) ∙ f 0 (omega arith) in
    let free : IsFree (with_page m q (new_page x.0)) (q + 1) n = λ i l.
    let e : q + 1 + i ≡ q + (i + 1) = omega arith in
    page_at-with_page_other m q (new_page x.0) (q + 1 + i) (λ s. omega arith) ∙ ap (page_at m) e ∙ f (i + 1) (omega arith) in
    let left = pages_left-with_new m q (new_page x.0) at in
    whole-with_new_pages n (with_page m q (new_page x.0)) (q + 1) x free (omega arith) (whole-with_new m q (new_page x.0) at (omega arith) (whole_new x.0) h)

there : (o : Option Page) → IsSome o → (p : Page) × (o ≡ Some p)
there None h = cc
there (Some p) h = (p, refl)

-- pages that are unmapped come back as pages left, and the memory stays whole
pub unmapped : (n : ℕ) (m : Memory) (q : ℕ) → ArePages m q n → IsWhole m → IsWhole (without_pages m q n) × (pages_left (without_pages m q n) ≡ pages_left m + n)
unfolding without_pages
unmapped zero m q f h = (h, omega arith)
unmapped (suc n) m q f h =
    let first : IsSome (page_at m q) = subst (λ k. IsSome (page_at m k)) (let e : q + 0 ≡ q = omega arith in e) (f 0 (omega arith)) in
    let old = there (page_at m q) first in
    let rest : ArePages (without_page m q) (q + 1) n = λ i l.
    let e : q + (i + 1) ≡ q + 1 + i = omega arith in
    subst IsSome (ap (page_at m) e ∙ sym (page_at-without_page_other m q (q + 1 + i) (λ s. omega arith))) (f (i + 1) (omega arith)) in
    let both = unmapped n (without_page m q) (q + 1) rest (whole-without_page m q old.0 old.1 h) in
    let one = pages_left-without_page m q old.0 old.1 h in
    (both.0, omega (arith, both.1))

without_none : (m : Memory) (q : ℕ) → page_at m q ≡ None → without_page m q ≡ m
without_none m q e =
    same_memory _ _ (rest-without_page m q)
    (λ r. elim (cases_eq r q) [
      | inl f ↦ rw f (page_at-without_page_same m q ∙ sym e)
      | inr n ↦ page_at-without_page_other m q r n
    ])

left_without : (m : Memory) (q : ℕ) (o : Option Page) → page_at m q ≡ o → pages_left (without_page m q) ≤ pages_left m + 1
unfolding pages_left
left_without m q None e = let s = ap (λ (k : Memory). k.limit - map.len k.pages) (without_none m q e) in omega arith
left_without m q (Some old) e = let l = one_less m q old e in omega (arith, limit-without_page m q)

-- pages that are unmapped add no more to the pages left
pub pages_left-without_pages : (n : ℕ) (m : Memory) (q : ℕ) → pages_left (without_pages m q n) ≤ pages_left m + n
unfolding without_pages
pages_left-without_pages zero m q = omega arith
pages_left-without_pages (suc n) m q =
    let one = left_without m q (page_at m q) refl in
    let more = pages_left-without_pages n (without_page m q) (q + 1) in
    omega arith

-- bytes
whole-with-byte-cases : (m : Memory) (q o b : ℕ) (p : Option Page) → page_at m q ≡ p → IsWhole m → IsWhole (with_byte_cases m q o b p)
whole-with-byte-cases m q o b None e h = h
whole-with-byte-cases m q o b (Some p) e h =
    let w = h.pages q p e in
    whole-with_old m q p (record p { bytes = set p.bytes o b }) e (record { bytes = length-set p.bytes o b ∙ w.bytes; tags = w.tags }) h

pub whole-with_byte : (m : Memory) (a b : ℕ) → IsWhole m → IsWhole (with_byte m a b)
unfolding with_byte
whole-with_byte m a b h = whole-with-byte-cases m (a / 4096) (a % 4096) b (page_at m (a / 4096)) refl h

pub whole-with_bytes : (xs bs : List ℕ) (m : Memory) → IsWhole m → IsWhole (with_bytes m xs bs)
unfolding with_bytes
whole-with_bytes (a ∷ more) (b ∷ bs) m h = whole-with_bytes more bs (with_byte m a b) (whole-with_byte m a b h)
whole-with_bytes [] bs m h = h
whole-with_bytes (a ∷ more) [] m h = h

pub whole-with-bytes-at : (m : Memory) (a : ℕ) (bs : List ℕ) → IsWhole m → IsWhole (with_bytes_at m a bs)
unfolding with_bytes_at
whole-with-bytes-at m a bs h = whole-with_bytes _ bs m h

-- tags
whole_bytes : (xs : List ℕ) (g : ℕ) (z : Bool) → g < 256 → length xs ≡ 4096 → length (cond z (with_zero_granule xs g) xs) ≡ 4096
whole_bytes xs g true l h = length-with-zero-granule xs g (omega arith) ∙ h
whole_bytes xs g false l h = h

whole-with-granule-cases : (m : Memory) (q g t : ℕ) (z : Bool) (p : Option Page) → page_at m q ≡ p → g < 256 → IsWhole m → IsWhole (with_granule_cases m q g t z p)
whole-with-granule-cases m q g t z None e l h = h
whole-with-granule-cases m q g t z (Some p) e l h =
    let w = h.pages q p e in
    whole-with_old m q p _ e (record { bytes = whole_bytes p.bytes g z l w.bytes; tags = length-set p.tags g t ∙ w.tags }) h

pub whole-with_granule : (m : Memory) (a t : ℕ) (z : Bool) → IsWhole m → IsWhole (with_granule m a t z)
unfolding with_granule
whole-with_granule m a t z h = whole-with-granule-cases m (a / 4096) (a % 4096 / 16) t z (page_at m (a / 4096)) refl (omega arith) h

pub whole-with_granules : (n : ℕ) (m : Memory) (a t : ℕ) (z : Bool) → IsWhole m → IsWhole (with_granules m a n t z)
unfolding with_granules
whole-with_granules zero m a t z h = h
whole-with_granules (suc n) m a t z h = whole-with_granules n (with_granule m a t z) ((a + 16) % 2 ^ 56) t z (whole-with_granule m a t z h)
