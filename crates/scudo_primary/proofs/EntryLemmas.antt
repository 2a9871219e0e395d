-- One class: what stays true of the blocks that a cache holds when the pool changes.
use Rattle.std.proofs.Common.{◌≡◌, ◌≢◌, ℕ, ◌+◌, ◌<◌, ◌≤◌, ◌||◌, Bool, true, false, List, [], ◌∷◌, ◌++◌, length, take, drop, reverse, get_or, refl, sym, ap, ◌∙◌, arith, nat_eq, eqb}
use Rattle.std.proofs.lemmas.Bool.Decides.{nat_tests}
use Rattle.std.proofs.lemmas.List.{get_or-set_other, get_or-take, get_or-drop, length-take-le, length-drop}
use Rattle.std.proofs.lemmas.List.Elements.{All-head, All-tail, All-drop, All-weaker, All-from_get_or, All-get_or}
use Rattle.std.proofs.lemmas.List.Sorted.{IsPermutation-reverse, All-permutation}
use Rattle.std.proofs.lemmas.Map.Keys.{IsDistinct-push, IsDistinct-from_apart, apart_from_distinct}
use Rattle.std.proofs.lemmas.Cmp.{nat_eq_equiv}
use Rattle.std.specs.List.{All, IsDistinct}
use Rattle.scudo_primary.specs.Blocks.{number_of, IsBlock}
use Rattle.scudo_primary.specs.Pools.{ClassState, IsLoose, is_member, class_with_mark, class_after_push_batch}
use Rattle.scudo_primary.proofs.BlockLemmas.{number-apart}
use Rattle.scudo_primary.proofs.ListLemmas.{member-other}

-- ---- lists

pub other-member : (xs : List ℕ) (b : ℕ) → All (λ d. d ≢ b) xs → is_member xs b ≡ false
other-member [] b h = refl
other-member (x ∷ xs) b h =
    let n = All-head (λ d. d ≢ b) x xs h in
    member-other x xs b (λ e. n (sym e)) ∙ other-member xs b (All-tail (λ d. d ≢ b) x xs h)

pub member-both : (xs ys : List ℕ) (b : ℕ) → is_member xs b ≡ false → is_member ys b ≡ false → is_member (xs ++ ys) b ≡ false
member-both [] ys b h k = k
member-both (x ∷ xs) ys b h k = elim (eqb b x) as (λ t. (t || is_member xs b) ≡ false → (t || is_member (xs ++ ys) b) ≡ false) [
  | true ↦ λ e. e
  | false ↦ λ e. member-both xs ys b e k
] h

apart : (x y : ℕ) → nat_eq x y ≡ false → x ≢ y
apart x y h = grind (arith, nat_tests)

pub distinct-take : (n : ℕ) (xs : List ℕ) → n ≤ length xs → IsDistinct nat_eq xs → IsDistinct nat_eq (take n xs)
distinct-take n xs h k =
    let len = length-take-le n xs h in
    IsDistinct-from_apart nat_eq (take n xs) (λ i j d l m.
    let a : i < n = omega arith in
    let b : j < n = omega arith in
    ap (λ t. nat_eq t (get_or (take n xs) j d)) (get_or-take n xs i d a) ∙ ap (λ t. nat_eq (get_or xs i d) t) (get_or-take n xs j d b)
    ∙ apart_from_distinct nat_eq xs i j d k l (omega arith))

pub distinct-drop : (n : ℕ) (xs : List ℕ) → IsDistinct nat_eq xs → IsDistinct nat_eq (drop n xs)
distinct-drop n xs k =
    let len = length-drop n xs in
    IsDistinct-from_apart nat_eq (drop n xs) (λ i j d l m.
    ap (λ t. nat_eq t (get_or (drop n xs) j d)) (get_or-drop n xs i d) ∙ ap (λ t. nat_eq (get_or xs (n + i) d) t) (get_or-drop n xs j d)
    ∙ apart_from_distinct nat_eq xs (n + i) (n + j) d k (omega arith) (omega arith))

-- the members before the one at n differ from it
pub others-before : (n : ℕ) (xs : List ℕ) (b : ℕ) → n < length xs → get_or xs n 0 ≡ b → IsDistinct nat_eq xs → All (λ d. d ≢ b) (take n xs)
others-before n xs b h e k =
    let len = length-take-le n xs (omega arith) in
    All-from_get_or (λ d. d ≢ b) (take n xs) 0 (λ i l.
    let a : i < n = omega arith in
    let t : get_or xs i 0 ≢ get_or xs n 0 = apart _ _ (apart_from_distinct nat_eq xs i n 0 k a h) in
    λ s. t (sym (get_or-take n xs i 0 a) ∙ s ∙ sym e))

-- the members from n on are none of those before
pub halves-apart : (n : ℕ) (xs : List ℕ) → n ≤ length xs → IsDistinct nat_eq xs → All (λ d. is_member (reverse (take n xs)) d ≡ false) (drop n xs)
halves-apart n xs h k =
    let low = length-take-le n xs h in
    let high = length-drop n xs in
    All-from_get_or (λ d. is_member (reverse (take n xs)) d ≡ false) (drop n xs) 0 (λ j m.
    other-member (reverse (take n xs)) _
    (All-permutation (λ d. d ≢ get_or (drop n xs) j 0) (take n xs) _ (IsPermutation-reverse (take n xs)) (All-from_get_or (λ d. d ≢ get_or (drop n xs) j 0) (take n xs) 0 (λ i l.
    let a : i < n = omega arith in
    let t : get_or xs i 0 ≢ get_or xs (n + j) 0 = apart _ _ (apart_from_distinct nat_eq xs i (n + j) 0 k (omega arith) (omega arith)) in
    λ s. t (sym (get_or-take n xs i 0 a) ∙ s ∙ get_or-drop n xs j 0)))))

-- ---- blocks

-- the mark of another block
pub loose-mark : (k : ClassState) (c b : ℕ) (mark : Bool) (d : ℕ) → IsBlock c k.pages b → d ≢ b → IsLoose k c d → IsLoose (class_with_mark c k b mark) c d
loose-mark k c b mark d block n h = record {
  carved = h.carved;
  marked = get_or-set_other k.marks (number_of c b) (number_of c d) mark false (λ e. n (number-apart c k.pages d b h.carved block e)) ∙ h.marked;
  unlisted = h.unlisted;
}

All-both : (P Q R : ℕ → Type 0) (xs : List ℕ) → ((x : ℕ) → P x → Q x → R x) → All P xs → All Q xs → All R xs
All-both P Q R xs f h k = All-from_get_or R xs 0 (λ i l. f _ (All-get_or P xs i 0 l h) (All-get_or Q xs i 0 l k))

pub all-loose-mark : (k : ClassState) (c b : ℕ) (mark : Bool) (xs : List ℕ) → IsBlock c k.pages b → All (λ d. d ≢ b) xs → All (IsLoose k c) xs → All (IsLoose (class_with_mark c k b mark) c) xs
all-loose-mark k c b mark xs block n h = All-both (λ d. d ≢ b) (IsLoose k c) (IsLoose (class_with_mark c k b mark) c) xs (λ d m l. loose-mark k c b mark d block m l) n h

-- a block that is marked used is none of those that are marked free
pub used-other : (k : ClassState) (c b : ℕ) (xs : List ℕ) → get_or k.marks (number_of c b) false ≡ false → All (IsLoose k c) xs → All (λ d. d ≢ b) xs
used-other k c b xs u h = All-weaker (IsLoose k c) (λ d. d ≢ b) (λ d l s. let a : get_or k.marks (number_of c d) false ≡ true = l.marked in let e = ap (λ t. get_or k.marks (number_of c t) false) s in cc) xs h

pub distinct-new : (xs : List ℕ) (b : ℕ) → All (λ d. d ≢ b) xs → IsDistinct nat_eq xs → IsDistinct nat_eq (xs ++ b ∷ [])
distinct-new xs b n h = IsDistinct-push nat_eq_equiv xs b h (other-member xs b n)

-- the first n of the blocks went to the pool as a batch
pub loose-rest : (k : ClassState) (c n : ℕ) (xs : List ℕ) → n ≤ length xs → IsDistinct nat_eq xs → All (IsLoose k c) xs → All (IsLoose (class_after_push_batch k (take n xs)) c) (drop n xs)
loose-rest k c n xs l u h =
    All-both (IsLoose k c) (λ d. is_member (reverse (take n xs)) d ≡ false) (IsLoose (class_after_push_batch k (take n xs)) c) (drop n xs)
    (λ d a o. record { carved = a.carved; marked = a.marked; unlisted = member-both (reverse (take n xs)) k.stack d o a.unlisted })
    (All-drop (IsLoose k c) n xs h) (halves-apart n xs l u)
