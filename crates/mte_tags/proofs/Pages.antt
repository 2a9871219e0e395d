-- What holds of a memory's pages: a page after another was put in or taken out, equal memories, pages left.
use Rattle.std.proofs.Common.{◌≡◌, ◌≢◌, ℕ, ◌+◌, ◌-◌, true, false, Some, None, is_some, refl, sym, ap, ◌∙◌, inl, inr, arith, eq-eqb}
use Rattle.std.proofs.lemmas.Bool.{cases_eq, cond-true, cond-false}
use Rattle.std.specs.Ordering.{nat_cmp, eq_by_cmp}
use Rattle.std.specs.Cmp.{unsigned_tied, nat_cmp_total}
use Rattle.std.specs.FinMap as map
use Rattle.std.specs.FinMap.{get-insert, get-remove, get-empty, len-insert, same_map, nat_cmp-IsAntisymmetric}
use Rattle.mte_tags.specs.Memory.{Memory, Page, page_at, with_page, without_page, pages_left, no_pages}
use Rattle.mte_tags.specs.declared.state.TagMode.{TagMode}
use Rattle.mte_tags.specs.declared.state.TagState.{TagState}

pub tied_same : (q : ℕ) → eq_by_cmp nat_cmp q q ≡ true
tied_same q = unsigned_tied q q ∙ eq-eqb q q refl

pub tied_other : (q r : ℕ) → q ≢ r → eq_by_cmp nat_cmp q r ≡ false
tied_other q r n = unsigned_tied q r ∙ grind arith

-- a page that was put in, and another
pub page_at-with_page_same : (m : Memory) (q : ℕ) (p : Page) → page_at (with_page m q p) q ≡ Some p
unfolding page_at with_page
page_at-with_page_same m q p = get-insert nat_cmp_total m.pages q p q ∙ cond-true _ _ _ (tied_same q)

pub page_at-with_page_other : (m : Memory) (q : ℕ) (p : Page) (r : ℕ) → r ≢ q → page_at (with_page m q p) r ≡ page_at m r
unfolding page_at with_page
page_at-with_page_other m q p r n = get-insert nat_cmp_total m.pages q p r ∙ cond-false _ _ _ (tied_other r q n)

-- a page that was taken out, and another
pub page_at-without_page_same : (m : Memory) (q : ℕ) → page_at (without_page m q) q ≡ None
unfolding page_at without_page
page_at-without_page_same m q = get-remove nat_cmp_total m.pages q q ∙ cond-true _ _ _ (tied_same q)

pub page_at-without_page_other : (m : Memory) (q r : ℕ) → r ≢ q → page_at (without_page m q) r ≡ page_at m r
unfolding page_at without_page
page_at-without_page_other m q r n = get-remove nat_cmp_total m.pages q r ∙ cond-false _ _ _ (tied_other r q n)

pub page_at-no_pages : (limit : ℕ) (mode : TagMode) (q : ℕ) → page_at (no_pages limit mode) q ≡ None
unfolding page_at no_pages
page_at-no_pages limit mode q = get-empty nat_cmp q

-- what a memory is beside its pages
abbrev pub rest_of : Memory → ℕ × TagState
rest_of m = (m.limit, m.state)

-- two memories that have the same pages are equal where the rest is
pub same_memory : (m n : Memory) → rest_of m ≡ rest_of n → ((q : ℕ) → page_at m q ≡ page_at n q) → m ≡ n
unfolding page_at
same_memory m n e h =
    let pages : m.pages ≡ n.pages = same_map nat_cmp_total nat_cmp-IsAntisymmetric m.pages n.pages h in
    λ i. record { limit = (e i).0; pages = pages i; state = (e i).1 }

pub limit-with_page : (m : Memory) (q : ℕ) (p : Page) → (with_page m q p).limit ≡ m.limit
unfolding with_page
limit-with_page m q p = refl

pub limit-without_page : (m : Memory) (q : ℕ) → (without_page m q).limit ≡ m.limit
unfolding without_page
limit-without_page m q = refl

pub rest-with_page : (m : Memory) (q : ℕ) (p : Page) → rest_of (with_page m q p) ≡ rest_of m
unfolding with_page
rest-with_page m q p = refl

pub rest-without_page : (m : Memory) (q : ℕ) → rest_of (without_page m q) ≡ rest_of m
unfolding without_page
rest-without_page m q = refl

-- a page is put in twice
pub with_page_twice : (m : Memory) (q : ℕ) (p r : Page) → with_page (with_page m q p) q r ≡ with_page m q r
with_page_twice m q p r =
    same_memory _ _ (rest-with_page (with_page m q p) q r ∙ rest-with_page m q p ∙ sym (rest-with_page m q r))
    (λ k. elim (cases_eq k q) [
      | inl e ↦ rw e (page_at-with_page_same (with_page m q p) q r ∙ sym (page_at-with_page_same m q r))
      | inr n ↦ page_at-with_page_other (with_page m q p) q r k n ∙ page_at-with_page_other m q p k n ∙ sym (page_at-with_page_other m q r k n)
    ])

-- a page is put in as it is
pub with_page_kept : (m : Memory) (q : ℕ) (p : Page) → page_at m q ≡ Some p → with_page m q p ≡ m
with_page_kept m q p h =
    same_memory _ _ (rest-with_page m q p)
    (λ k. elim (cases_eq k q) [
      | inl e ↦ rw e (page_at-with_page_same m q p ∙ sym h)
      | inr n ↦ page_at-with_page_other m q p k n
    ])

-- a new page takes one of those that are left
pub pages_left-with_new : (m : Memory) (q : ℕ) (p : Page) → page_at m q ≡ None → pages_left (with_page m q p) ≡ pages_left m - 1
unfolding page_at with_page pages_left
pages_left-with_new m q p h =
    let l : map.len (map.insert m.pages q p) ≡ map.len m.pages + 1 = len-insert nat_cmp_total m.pages q p ∙ cond-false _ _ _ (ap is_some h) in
    omega arith

pub pages_left-with_old : (m : Memory) (q : ℕ) (p r : Page) → page_at m q ≡ Some r → pages_left (with_page m q p) ≡ pages_left m
unfolding page_at with_page pages_left
pages_left-with_old m q p r h =
    let l : map.len (map.insert m.pages q p) ≡ map.len m.pages = len-insert nat_cmp_total m.pages q p ∙ cond-true _ _ _ (ap is_some h) in
    omega arith
