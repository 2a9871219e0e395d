-- What a memory of lent places is after a place was changed.
use Rattle.std.proofs.Common.{◌≡◌, ◌≢◌, ℕ, ◌+◌, ◌<◌, ◌==◌, ◌&&◌, Bool, true, false, cond, not, List, length, get_or, set, refl, sym, ap, ◌∙◌, inl, inr, arith, length-set, get_or-set_same, get_or-set_other}
use Rattle.std.proofs.lemmas.Bool.{cases_eq}
use Rattle.std.proofs.lemmas.List.{get_or_default}
use Rattle.mte_tags.specs.Memory.{with_page, without_page, no_pages}
use Rattle.mte_tags.specs.declared.state.TagMode.{TagMode}
use Rattle.mte_tags.specs.declared.state.TagState.{TagState}
use Rattle.mte_tags.proofs.Pages.{same_memory, rest_of, page_at-with_page_same, page_at-with_page_other, rest-with_page, page_at-without_page_same, page_at-without_page_other, rest-without_page, page_at-no_pages}
use Rattle.tombolopan_c.specs.LentPages.{page_of, is_place_of, mode_for, lent_memory, NoneBefore, HasNone, IsFirst, IsFree}
use Rattle.tombolopan_c.specs.declared.lent_page.LentPage.{LentPage}
use Rattle.tombolopan_c.proofs.Places.{place_in, page_at-lent, page_at-none, place_set_same, place_set_other, place_other, free_place}

pub rest-lent : (s : TagState) (pages : List LentPage) → rest_of (lent_memory s pages) ≡ (length pages, s)
unfolding lent_memory
rest-lent s pages = refl

pub lent_set : (s : TagState) (pages : List LentPage) (i q : ℕ) (p : LentPage) → i < length pages → NoneBefore pages i q → is_place_of p q ≡ true
    → ((r : ℕ) → r ≢ q → is_place_of (get_or pages i p) r ≡ false)
    → lent_memory s (set pages i p) ≡ with_page (lent_memory s pages) q (page_of p)
lent_set s pages i q p l h e others =
    same_memory _ _
    (rest-lent s (set pages i p) ∙ ap (λ (n : ℕ). (n, s)) (length-set pages i p) ∙ sym (rest-with_page (lent_memory s pages) q (page_of p) ∙ rest-lent s pages))
    (λ r. elim (cases_eq r q) [
      | inl f ↦ rw f (
          page_at-lent s (set pages i p) q ∙ place_set_same pages i q p l h e
          ∙ sym (page_at-with_page_same (lent_memory s pages) q (page_of p)))
      | inr n ↦
          page_at-lent s (set pages i p) r ∙ place_set_other pages i r p (others r n) (place_other p q r e n)
          ∙ sym (page_at-lent s pages r) ∙ sym (page_at-with_page_other (lent_memory s pages) q (page_of p) r n)
    ])

-- the first place of a page stays one of that page
pub lent_changed : (s : TagState) (pages : List LentPage) (i q : ℕ) (p : LentPage) → IsFirst pages i q → p.number ≡ (get_or pages i p).number → p.mapped ≡ (get_or pages i p).mapped
    → lent_memory s (set pages i p) ≡ with_page (lent_memory s pages) q (page_of p)
lent_changed s pages i q p h n m =
    let here : is_place_of p q ≡ true =
    ap (λ k. not (k == 0) && p.number == q) m ∙ ap (λ k. not ((get_or pages i p).mapped == 0) && k == q) n ∙ h.here p in
    lent_set s pages i q p h.within h.before here (λ r f. place_other (get_or pages i p) q r (h.here p) f)

-- a free place becomes that of a page that is not mapped
pub lent_filled : (s : TagState) (pages : List LentPage) (i q : ℕ) (p : LentPage) → IsFree pages i → HasNone pages q → is_place_of p q ≡ true
    → lent_memory s (set pages i p) ≡ with_page (lent_memory s pages) q (page_of p)
lent_filled s pages i q p h none e =
    lent_set s pages i q p h.within (λ k d l. none k d (omega (arith, h.within))) e
    (λ r f. free_place (get_or pages i p) r (h.free p))

-- of all places those of one page were made free
pub lent_freed : (s : TagState) (pages less : List LentPage) (q : ℕ) → length less ≡ length pages → HasNone less q → ((r : ℕ) → r ≢ q → place_in less r ≡ place_in pages r)
    → lent_memory s less ≡ without_page (lent_memory s pages) q
lent_freed s pages less q l none others =
    same_memory _ _
    (rest-lent s less ∙ ap (λ (n : ℕ). (n, s)) l ∙ sym (rest-without_page (lent_memory s pages) q ∙ rest-lent s pages))
    (λ r. elim (cases_eq r q) [
      | inl f ↦ rw f (page_at-none s less q none ∙ sym (page_at-without_page_same (lent_memory s pages) q))
      | inr n ↦
          page_at-lent s less r ∙ others r n ∙ sym (page_at-lent s pages r)
          ∙ sym (page_at-without_page_other (lent_memory s pages) q r n)
    ])

-- a place of a page is made free in turn
pub freed_none : (pages : List LentPage) (i q : ℕ) (p : LentPage) → i < length pages → NoneBefore pages i q → p.mapped ≡ 0 → NoneBefore (set pages i p) (i + 1) q
freed_none pages i q p l h e = λ k d m. elim (cases_eq k i) [
  | inl f ↦ rw f (rw (get_or-set_same pages i p d l) (free_place p q e))
  | inr n ↦ rw (get_or-set_other pages i k p d n) (h k d (omega arith))
]

pub kept_none : (pages : List LentPage) (i q : ℕ) (p : LentPage) → i < length pages → NoneBefore pages i q → is_place_of (get_or pages i p) q ≡ false → NoneBefore pages (i + 1) q
kept_none pages i q p l h e = λ k d m. elim (cases_eq k i) [
  | inl f ↦ rw f (ap (λ t. is_place_of t q) (get_or_default pages i d p l) ∙ e)
  | inr n ↦ h k d (omega arith)
]

pub freed_others : (pages old : List LentPage) (i q : ℕ) (d p : LentPage) → i < length pages → ((r : ℕ) → r ≢ q → place_in pages r ≡ place_in old r) → is_place_of (get_or pages i d) q ≡ true → p.mapped ≡ 0
    → (r : ℕ) → r ≢ q → place_in (set pages i p) r ≡ place_in old r
freed_others pages old i q d p l h e f r n =
    let here : is_place_of (get_or pages i p) q ≡ true = ap (λ t. is_place_of t q) (get_or_default pages i p d l) ∙ e in
    place_set_other pages i r p (place_other (get_or pages i p) q r here n) (free_place p r f) ∙ h r n

rest-no_pages : (n : ℕ) (mode : TagMode) → rest_of (no_pages n mode) ≡ (n, record { mode = mode; pending = false })
unfolding no_pages
rest-no_pages n mode = refl

-- all places are free
pub lent_none : (s : TagState) (pages : List LentPage) (n : ℕ) (mode : TagMode) → length pages ≡ n → s ≡ record { mode = mode; pending = false } → ((k : ℕ) (d : LentPage) → k < length pages → (get_or pages k d).mapped ≡ 0)
    → lent_memory s pages ≡ no_pages n mode
lent_none s pages n mode l e h =
    same_memory _ _
    (rest-lent s pages ∙ (λ i. (l i, e i)) ∙ sym (rest-no_pages n mode))
    (λ r. page_at-none s pages r (λ k d m. free_place (get_or pages k d) r (h k d m)) ∙ sym (page_at-no_pages n mode r))

pub mode_from : (b : Bool) (n : ℕ) → n ≡ cond b 1 0 → mode_for (not (n == 0)) ≡ mode_for b
mode_from true n e = ap (λ k. mode_for (not (k == 0))) e
mode_from false n e = ap (λ k. mode_for (not (k == 0))) e
