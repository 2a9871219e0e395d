-- What lent places say of a page.
use Rattle.std.proofs.Common.{◌≡◌, ◌≢◌, ℕ, suc, zero, ◌<◌, ◌==◌, ◌&&◌, true, false, not, cond, Option, Some, None, IfSome, IsNone, is_some, List, [], ◌∷◌, length, get_or, set, refl, sym, ap, ◌∙◌, inl, inr, arith, eq-eqb}
use Rattle.std.proofs.lemmas.Bool.{cases_Bool, and_parts, and_left, and_from, not-true, not_from_true, not_from_false, both_ways, eqb-true, ne_eqb, or_from, or_left, or_right, cond-true, cond-false}
use Rattle.std.specs.Ordering.{nat_cmp, eq_by_cmp}
use Rattle.std.specs.Cmp.{nat_cmp_total}
use Rattle.std.specs.FinMap.{find, get-from_entries}
use Rattle.mte_tags.specs.Memory.{Page, page_at}
use Rattle.mte_tags.specs.declared.state.TagState.{TagState}
use Rattle.mte_tags.proofs.Pages.{tied_same, tied_other}
use Rattle.tombolopan_c.specs.LentPages.{page_of, is_place_of, entries_of, lent_memory, has_room, NoneBefore, HasNone, IsFirst, IsFree}
use Rattle.tombolopan_c.specs.LentPlaces.{no_page}
use Rattle.tombolopan_c.specs.declared.lent_page.LentPage.{LentPage}

-- a place of a page is in use and has its number
pub used : (p : LentPage) (q : ℕ) → is_place_of p q ≡ true → (p.mapped == 0) ≡ false
used p q h = not-true (p.mapped == 0) (and_parts (not (p.mapped == 0)) (p.number == q) h).0

pub numbered : (p : LentPage) (q : ℕ) → is_place_of p q ≡ true → p.number ≡ q
numbered p q h = eqb-true p.number q (and_parts (not (p.mapped == 0)) (p.number == q) h).1

pub place_other : (p : LentPage) (q r : ℕ) → is_place_of p q ≡ true → r ≢ q → is_place_of p r ≡ false
place_other p q r h n =
    ap (λ b. not (p.mapped == 0) && b) (ne_eqb p.number r (λ e. n (sym e ∙ numbered p q h)))
    ∙ ap (λ b. not b && false) (used p q h)

pub free_place : (p : LentPage) (q : ℕ) → p.mapped ≡ 0 → is_place_of p q ≡ false
free_place p q e = and_left (not (p.mapped == 0)) (p.number == q) (not_from_true (p.mapped == 0) (eq-eqb p.mapped 0 e))

-- the first place of a page, by the places alone
abbrev pub place_in : List LentPage → ℕ → Option Page
place_in [] q = None
place_in (p ∷ more) q = cond (is_place_of p q) (Some (page_of p)) (place_in more q)

entry_here : (p : LentPage) (more : List LentPage) (q : ℕ) → is_place_of p q ≡ true → find nat_cmp q (entries_of (p ∷ more)) ≡ Some (page_of p)
entry_here p more q h =
    let e : p.number ≡ q = numbered p q h in
    ap (find nat_cmp q) (cond-false _ _ _ (used p q h)) ∙ cond-true _ _ _ (ap (eq_by_cmp nat_cmp q) e ∙ tied_same q)

entry_past : (p : LentPage) (more : List LentPage) (q : ℕ) → is_place_of p q ≡ false → find nat_cmp q (entries_of (p ∷ more)) ≡ find nat_cmp q (entries_of more)
entry_past p more q h = elim (cases_Bool (p.mapped == 0)) [
  | inl e ↦ ap (find nat_cmp q) (cond-true _ _ _ e)
  | inr e ↦
      let n : q ≢ p.number = λ f. both_ways (is_place_of p q) h (and_from _ _ (not_from_false _ e) (eq-eqb p.number q (sym f))) in
      ap (find nat_cmp q) (cond-false _ _ _ e) ∙ cond-false _ _ _ (tied_other q p.number n)
]

entries_place : (pages : List LentPage) (q : ℕ) → find nat_cmp q (entries_of pages) ≡ place_in pages q
entries_place [] q = refl
entries_place (p ∷ more) q = elim (cases_Bool (is_place_of p q)) [
  | inl h ↦ entry_here p more q h ∙ sym (cond-true _ _ _ h)
  | inr h ↦ entry_past p more q h ∙ entries_place more q ∙ sym (cond-false _ _ _ h)
]

pub page_at-lent : (s : TagState) (pages : List LentPage) (q : ℕ) → page_at (lent_memory s pages) q ≡ place_in pages q
unfolding page_at lent_memory
page_at-lent s pages q = get-from_entries nat_cmp_total (entries_of pages) q ∙ entries_place pages q

pub place_none : (pages : List LentPage) (q : ℕ) → HasNone pages q → place_in pages q ≡ None
place_none [] q h = refl
place_none (p ∷ more) q h = cond-false _ _ _ (h 0 p (omega arith)) ∙ place_none more q (λ k d l. h (suc k) d (omega arith))

pub page_at-none : (s : TagState) (pages : List LentPage) (q : ℕ) → HasNone pages q → page_at (lent_memory s pages) q ≡ None
page_at-none s pages q h = page_at-lent s pages q ∙ place_none pages q h

pub place_first : (pages : List LentPage) (i q : ℕ) (d : LentPage) → IsFirst pages i q → place_in pages q ≡ Some (page_of (get_or pages i d))
place_first [] i q d h = absurd (omega (arith, h.within))
place_first (p ∷ more) zero q d h = cond-true _ _ _ (h.here d)
place_first (p ∷ more) (suc i) q d h =
    cond-false _ _ _ (h.before 0 d (omega arith))
    ∙ place_first more i q d (record { within = omega (arith, h.within); here = λ e. h.here e; before = λ k e l. h.before (suc k) e (omega arith) })

pub page_at-first : (s : TagState) (pages : List LentPage) (i q : ℕ) (d : LentPage) → IsFirst pages i q → page_at (lent_memory s pages) q ≡ Some (page_of (get_or pages i d))
page_at-first s pages i q d h = page_at-lent s pages q ∙ place_first pages i q d h

-- a place is changed
pub place_set_other : (pages : List LentPage) (i r : ℕ) (p : LentPage) → is_place_of (get_or pages i p) r ≡ false → is_place_of p r ≡ false → place_in (set pages i p) r ≡ place_in pages r
place_set_other [] i r p a b = refl
place_set_other (t ∷ more) zero r p a b = cond-false _ _ _ b ∙ sym (cond-false _ _ _ a)
place_set_other (t ∷ more) (suc i) r p a b = ap (cond (is_place_of t r) (Some (page_of t))) (place_set_other more i r p a b)

pub place_set_same : (pages : List LentPage) (i q : ℕ) (p : LentPage) → i < length pages → NoneBefore pages i q → is_place_of p q ≡ true → place_in (set pages i p) q ≡ Some (page_of p)
place_set_same [] i q p l h e = absurd (omega (arith, l))
place_set_same (t ∷ more) zero q p l h e = cond-true _ _ _ e
place_set_same (t ∷ more) (suc i) q p l h e =
    cond-false _ _ _ (h 0 p (omega arith)) ∙ place_set_same more i q p (omega arith) (λ k d m. h (suc k) d (omega arith)) e

-- whether a place is free
pub room : (pages : List LentPage) (i : ℕ) → IsFree pages i → has_room pages ≡ true
room [] i h = absurd (omega (arith, h.within))
room (p ∷ more) zero h = or_left _ _ (eq-eqb p.mapped 0 (h.free p))
room (p ∷ more) (suc i) h = or_right _ _ (room more i (record { within = omega (arith, h.within); free = λ d. h.free d }))

pub no_room : (pages : List LentPage) → ((k : ℕ) (d : LentPage) → k < length pages → (get_or pages k d).mapped ≢ 0) → has_room pages ≡ false
no_room [] h = refl
no_room (p ∷ more) h = or_from _ _ (ne_eqb p.mapped 0 (h 0 p (omega arith))) (no_room more (λ k d l. h (suc k) d (omega arith)))

-- what a search for a page's first place found
pub found_place : (s : TagState) (pages : List LentPage) (q : ℕ) (o : Option ℕ) → IfSome o (λ i. IsFirst pages i q) → (IsNone o → HasNone pages q) → is_some o ≡ is_some (page_at (lent_memory s pages) q)
found_place s pages q None a b = sym (ap is_some (page_at-none s pages q (b refl)))
found_place s pages q (Some i) a b = sym (ap is_some (page_at-first s pages i q no_page a))
