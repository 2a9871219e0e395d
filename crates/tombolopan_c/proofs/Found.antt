-- The place that was found for a page, read and written.
use Rattle.std.proofs.Common.{◌≡◌, ℕ, zero, suc, ◌%◌, ◌<◌, ◌+◌, Bool, Option, Some, None, IfSome, IsNone, List, [], ◌∷◌, map, get_or, set, replicate, refl, sym, ap, subst, ◌∙◌, arith}
use Rattle.std.specs.Prelude.{option_map}
use Rattle.std.proofs.lemmas.List.{map-set, get_or_default}
use Rattle.mte_tags.specs.Memory.{page_at, with_page}
use Rattle.mte_tags.specs.Runs.{with_bytes_run, with_bytes_in, with_granule_tags}
use Rattle.mte_tags.specs.declared.state.TagState.{TagState}
use Rattle.tombolopan_c.specs.LentPages.{page_of, lent_memory, IsFirst, HasNone}
use Rattle.tombolopan_c.specs.LentPlaces.{no_page}
use Rattle.tombolopan_c.specs.declared.lent_page.LentPage.{LentPage}
use Rattle.tombolopan_c.proofs.Places.{page_at-first, page_at-none, numbered}
use Rattle.tombolopan_c.proofs.Changes.{lent_changed}

-- tags that are stored keep their low four bits
pub map-with-bytes-run : (f : ℕ → ℕ) (bs xs : List ℕ) (o : ℕ) → map f (with_bytes_run xs o bs) ≡ with_bytes_run (map f xs) o (map f bs)
unfolding with_bytes_run
map-with-bytes-run f [] xs o = refl
map-with-bytes-run f (b ∷ bs) xs o = map-with-bytes-run f bs (set xs o b) (o + 1) ∙ ap (λ ys. with_bytes_run ys (o + 1) (map f bs)) (map-set f xs o b)

pub map-replicate : (n t : ℕ) → t < 16 → map (λ (x : ℕ). x % 16) (replicate n t) ≡ replicate n t
map-replicate zero t h = refl
map-replicate (suc n) t h =
    let e : t % 16 ≡ t = omega arith in
    ap (λ y. y ∷ map (λ (x : ℕ). x % 16) (replicate n t)) e ∙ ap (λ l. t ∷ l) (map-replicate n t h)

-- what a look-up among places finds is the page's first place
found_first : (s : TagState) (pages : List LentPage) (q : ℕ) (o : Option ℕ) → IfSome o (λ i. IsFirst pages i q) → (IsNone o → HasNone pages q)
    → page_at (lent_memory s pages) q ≡ option_map (λ i. page_of (get_or pages i no_page)) o
found_first s pages q None some none = page_at-none s pages q (none refl)
found_first s pages q (Some i) some none = page_at-first s pages i q no_page some

pub found_among : (s : TagState) (pages seen : List LentPage) (q : ℕ) (o : Option ℕ) → seen ≡ pages → IfSome o (λ i. IsFirst seen i q) → (IsNone o → HasNone seen q)
    → page_at (lent_memory s pages) q ≡ option_map (λ i. page_of (get_or pages i no_page)) o
found_among s pages seen q o e some none =
    found_first s pages q o (subst (λ xs. IfSome o (λ i. IsFirst xs i q)) e some) (subst (λ xs. IsNone o → HasNone xs q) e none)

-- a place that a look-up among places found, by the number of its page
pub found_here : (s : TagState) (pages seen : List LentPage) (q r i : ℕ) → seen ≡ pages → q ≡ r → IsFirst seen i q
    → page_at (lent_memory s pages) r ≡ Some (page_of (get_or pages i no_page))
found_here s pages seen q r i e f h = page_at-first s pages i r no_page (subst (λ k. IsFirst pages i k) f (subst (λ xs. IsFirst xs i q) e h))

pub found_number : (pages seen : List LentPage) (q r i : ℕ) → seen ≡ pages → q ≡ r → IsFirst seen i q → (get_or pages i no_page).number ≡ r
found_number pages seen q r i e f h = numbered (get_or pages i no_page) q ((subst (λ xs. IsFirst xs i q) e h).here no_page) ∙ f

pub found_first_place : (pages seen : List LentPage) (q i : ℕ) → seen ≡ pages → IsFirst seen i q → IsFirst pages i (get_or pages i no_page).number
found_first_place pages seen q i e h = subst (λ k. IsFirst pages i k) (sym (found_number pages seen q q i e refl h)) (subst (λ xs. IsFirst xs i q) e h)

-- a place with a run of its bytes replaced
pub lent_replaced : (s : TagState) (pages : List LentPage) (i at : ℕ) (bs : List ℕ) (d new : LentPage) → IsFirst pages i (get_or pages i no_page).number
    → new ≡ record (get_or pages i d) { bytes = with_bytes_run (get_or pages i d).bytes (at % 4096) bs }
    → lent_memory s (set pages i new) ≡ with_page (lent_memory s pages) (get_or pages i no_page).number (with_bytes_in (page_of (get_or pages i no_page)) (at % 4096) bs)
lent_replaced s pages i at bs d new h e =
    let same : get_or pages i d ≡ get_or pages i new = get_or_default pages i d new h.within in
    let q = (get_or pages i no_page).number in
    lent_changed s pages i q new h
    (ap (λ (t : LentPage). t.number) e ∙ ap (λ (t : LentPage). t.number) same)
    (ap (λ (t : LentPage). t.mapped) e ∙ ap (λ (t : LentPage). t.mapped) same)
    ∙ ap (λ t. with_page (lent_memory s pages) q (page_of t)) e
    ∙ ap (λ t. with_page (lent_memory s pages) q (with_bytes_in (page_of t) (at % 4096) bs)) (get_or_default pages i d no_page h.within)

-- a place with granules retagged
pub lent_retagged : (s : TagState) (pages : List LentPage) (i first count tag : ℕ) (z : Bool) (d new : LentPage) → IsFirst pages i (get_or pages i no_page).number
    → new.number ≡ (get_or pages i d).number → new.mapped ≡ (get_or pages i d).mapped → page_of new ≡ with_granule_tags (page_of (get_or pages i d)) first count tag z
    → lent_memory s (set pages i new) ≡ with_page (lent_memory s pages) (get_or pages i no_page).number (with_granule_tags (page_of (get_or pages i no_page)) first count tag z)
lent_retagged s pages i first count tag z d new h number mapped e =
    let same : get_or pages i d ≡ get_or pages i new = get_or_default pages i d new h.within in
    let q = (get_or pages i no_page).number in
    lent_changed s pages i q new h (number ∙ ap (λ (p : LentPage). p.number) same) (mapped ∙ ap (λ (p : LentPage). p.mapped) same)
    ∙ ap (with_page (lent_memory s pages) q) e
    ∙ ap (λ t. with_page (lent_memory s pages) q (with_granule_tags (page_of t) first count tag z)) (get_or_default pages i d no_page h.within)
