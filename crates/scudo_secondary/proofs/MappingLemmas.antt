-- The order of the mappings, and what adding, finding and removing one comes to.
use Rattle.std.proofs.Common.{◌≡◌, ◌≢◌, ℕ, zero, suc, ◌+◌, ◌<◌, ◌≤◌, ◌==◌, ◌⊎◌, Bool, true, false, not, nat_lt, List, [], ◌∷◌, length, get_or, Some, None, refl, sym, ap, subst, ◌∙◌, inl, inr, arith, eq-eqb}
use Rattle.std.specs.Prelude.{filter, IsSome}
use Rattle.std.specs.List.{find, insert, remove}
use Rattle.std.specs.List.Sorted.{IsNonDecreasingBy}
use Rattle.std.proofs.lemmas.Bool.{cases_eq, cases_lt, cond-true, cond-false}
use Rattle.std.proofs.lemmas.Bool.Decides.{nat_tests}
use Rattle.std.proofs.lemmas.List.{get_or_default}
use Rattle.std.proofs.lemmas.List.Sums.{sum_by-cons}
use Rattle.common.specs.declared.limits.TheConstants.{PAGE_SIZE}
use Rattle.common.specs.declared.ranges.TheConstants.{SECONDARY_START, SECONDARY_END}
use Rattle.scudo_secondary.specs.declared.mappings.Mapping.{Mapping}
use Rattle.scudo_secondary.specs.Mappings.{end_of, pages_of, IsMapping, AreFrom, AreMappings, mapping_of, with_mapping}

-- ---- the order

pub start_at : (ms : List Mapping) (least : ℕ) → AreFrom least ms → (k : ℕ) (d : Mapping) → k < length ms → least ≤ (get_or ms k d).start
start_at [] least a k d l = absurd (omega arith)
start_at (m ∷ more) least a zero d l = a.0.above
start_at (m ∷ more) least a (suc k) d l =
    let r : end_of m + PAGE_SIZE ≤ (get_or more k d).start = start_at more (end_of m + PAGE_SIZE) a.1 k d (omega arith) in
    let s = a.0.above in
    omega arith

pub user_at : (ms : List Mapping) (least : ℕ) → AreFrom least ms → (k : ℕ) (d : Mapping) → k < length ms → (get_or ms k d).start ≤ (get_or ms k d).user
user_at [] least a k d l = absurd (omega arith)
user_at (m ∷ more) least a zero d l = a.0.first
user_at (m ∷ more) least a (suc k) d l = user_at more (end_of m + PAGE_SIZE) a.1 k d (omega arith)

pub end_below : (ms : List Mapping) (least : ℕ) → AreFrom least ms → least ≤ SECONDARY_END
end_below [] least a = a
end_below (m ∷ more) least a =
    let r : end_of m + PAGE_SIZE ≤ SECONDARY_END = end_below more (end_of m + PAGE_SIZE) a.1 in
    let s = a.0.above in
    omega arith

-- each mapping lies below the start and the user address of each later one
pub starts_rise : (ms : List Mapping) (least : ℕ) → AreFrom least ms → (i j : ℕ) (d : Mapping) → i < j → j < length ms → (get_or ms i d).start < (get_or ms j d).start
starts_rise [] least a i j d h l = absurd (omega arith)
starts_rise (m ∷ more) least a i zero d h l = absurd (omega arith)
starts_rise (m ∷ more) least a zero (suc j) d h l =
    let r : end_of m + PAGE_SIZE ≤ (get_or more j d).start = start_at more (end_of m + PAGE_SIZE) a.1 j d (omega arith) in
    omega arith
starts_rise (m ∷ more) least a (suc i) (suc j) d h l = starts_rise more (end_of m + PAGE_SIZE) a.1 i j d (omega arith) (omega arith)

pub users_rise : (ms : List Mapping) (least : ℕ) → AreFrom least ms → (i j : ℕ) (d : Mapping) → i < j → j < length ms → (get_or ms i d).user < (get_or ms j d).user
users_rise [] least a i j d h l = absurd (omega arith)
users_rise (m ∷ more) least a i zero d h l = absurd (omega arith)
users_rise (m ∷ more) least a zero (suc j) d h l =
    let r : end_of m + PAGE_SIZE ≤ (get_or more j d).start = start_at more (end_of m + PAGE_SIZE) a.1 j d (omega arith) in
    let u : (get_or more j d).start ≤ (get_or more j d).user = user_at more (end_of m + PAGE_SIZE) a.1 j d (omega arith) in
    let t = a.0.last in
    omega arith
users_rise (m ∷ more) least a (suc i) (suc j) d h l = users_rise more (end_of m + PAGE_SIZE) a.1 i j d (omega arith) (omega arith)

-- ---- finding

found_none : (p : Mapping → Bool) (ms : List Mapping) → ((k : ℕ) (d : Mapping) → k < length ms → p (get_or ms k d) ≡ false) → find p ms ≡ None
found_none p [] h = refl
found_none p (m ∷ more) h = cond-false _ _ _ (h 0 m (omega arith)) ∙ found_none p more (λ k d l. h (suc k) d (omega arith))

found_at : (p : Mapping → Bool) (ms : List Mapping) (i : ℕ) (d : Mapping) → i < length ms → p (get_or ms i d) ≡ true → ((k : ℕ) → k < i → p (get_or ms k d) ≡ false) → find p ms ≡ Some (get_or ms i d)
found_at p [] i d l t h = absurd (omega arith)
found_at p (m ∷ more) zero d l t h = cond-true _ _ _ t
found_at p (m ∷ more) (suc i) d l t h = cond-false _ _ _ (h 0 (omega arith)) ∙ found_at p more i d (omega arith) t (λ k b. h (suc k) (omega arith))

not_user : (a user : ℕ) → a ≢ user → (a == user) ≡ false
not_user a user h = grind (arith, nat_tests)

is_user : (a user : ℕ) → a ≡ user → (a == user) ≡ true
is_user a user h = eq-eqb a user h

-- at an index with the user address
pub mapping_of-at : (ms : List Mapping) (user i : ℕ) (d : Mapping) → AreMappings ms → i < length ms → (get_or ms i d).user ≡ user → mapping_of ms user ≡ Some (get_or ms i d)
unfolding AreMappings
mapping_of-at ms user i d a l e =
    found_at (λ m. m.user == user) ms i d l (is_user _ user e)
    (λ k b. let r : (get_or ms k d).user < (get_or ms i d).user = users_rise ms _ a k i d b l in not_user _ user (λ q. omega arith))

-- between the lower user addresses and the higher ones
pub mapping_of-none : (ms : List Mapping) (user i : ℕ) → AreMappings ms → ((k : ℕ) (d : Mapping) → k < i → (get_or ms k d).user < user)
    → ((k : ℕ) (d : Mapping) → i ≤ k → k < length ms → user ≤ (get_or ms k d).user) → (e : Mapping) → (i < length ms → (get_or ms i e).user ≢ user) → mapping_of ms user ≡ None
unfolding AreMappings
mapping_of-none ms user i a low high e other =
    found_none (λ m. m.user == user) ms (λ k d l. not_user _ user (λ q. elim (cases_lt k i) [
      | inl b ↦ let r : (get_or ms k d).user < user = low k d b in omega arith
      | inr b ↦ elim (cases_eq k i) [
        | inl s ↦
            let z : i < length ms = omega arith in
            other z (ap (λ m. m.user) (get_or_default ms i e d z) ∙ ap (λ x. (get_or ms x d).user) (sym s) ∙ q)
        | inr n ↦
            let r : (get_or ms i d).user < (get_or ms k d).user = users_rise ms _ a i k d (omega arith) l in
            let s : user ≤ (get_or ms i d).user = high i d (omega arith) (omega arith) in
            omega arith
      ]
    ]))

-- ---- removing

kept_all : (p : Mapping → Bool) (ms : List Mapping) → ((k : ℕ) (d : Mapping) → k < length ms → p (get_or ms k d) ≡ true) → filter p ms ≡ ms
kept_all p [] h = refl
kept_all p (m ∷ more) h = cond-true _ _ _ (h 0 m (omega arith)) ∙ ap (λ x. m ∷ x) (kept_all p more (λ k d l. h (suc k) d (omega arith)))

kept_but : (p : Mapping → Bool) (ms : List Mapping) (i : ℕ) → i < length ms → ((d : Mapping) → p (get_or ms i d) ≡ false)
    → ((k : ℕ) (d : Mapping) → k < length ms → k ≢ i → p (get_or ms k d) ≡ true) → filter p ms ≡ remove ms i
kept_but p [] i l f h = absurd (omega arith)
kept_but p (m ∷ more) zero l f h = cond-false _ _ _ (f m) ∙ kept_all p more (λ k d b. h (suc k) d (omega arith) (λ q. omega arith))
kept_but p (m ∷ more) (suc i) l f h =
    cond-true _ _ _ (h 0 m (omega arith) (λ q. omega arith)) ∙ ap (λ x. m ∷ x) (kept_but p more i (omega arith) f (λ k d b n. h (suc k) d (omega arith) (λ q. n (omega arith))))

pub filter-at : (ms : List Mapping) (user i : ℕ) → AreMappings ms → i < length ms → ((d : Mapping) → (get_or ms i d).user ≡ user)
    → remove ms i ≡ filter (λ m. not (m.user == user)) ms
unfolding AreMappings
filter-at ms user i a l e =
    sym (kept_but (λ m. not (m.user == user)) ms i l (λ d. ap not (is_user _ user (e d)))
    (λ k d b n. ap not (not_user _ user (λ q. elim (cases_lt k i) [
      | inl h ↦ let r : (get_or ms k d).user < (get_or ms i d).user = users_rise ms _ a k i d h l in let s = e d in omega arith
      | inr h ↦ let r : (get_or ms i d).user < (get_or ms k d).user = users_rise ms _ a i k d (omega arith) b in let s = e d in omega arith
    ]))))

pub removed : (ms xs : List Mapping) (user i : ℕ) → xs ≡ ms → AreMappings ms → (i < length xs) × ((d : Mapping) → (get_or xs i d).user ≡ user) → remove ms i ≡ filter (λ m. not (m.user == user)) ms
removed ms xs user i e a h = filter-at ms user i a (subst (λ y. i < length y) e h.0) (λ d. subst (λ y. (get_or y i d).user ≡ user) e (h.1 d))

pub not_there : (ms xs : List Mapping) (user : ℕ) → xs ≡ ms → mapping_of xs user ≡ None → IsSome (mapping_of ms user) → ⊥
not_there ms xs user e n s = let h : mapping_of ms user ≡ None = subst (λ y. mapping_of y user ≡ None) e n in grind (arith, h, s)

pub bool_cases : (b : Bool) → (b ≡ true) ⊎ (b ≡ false)
bool_cases true = inl refl
bool_cases false = inr refl

from_lower : (ms : List Mapping) (a b : ℕ) → a ≤ b → AreFrom b ms → AreFrom a ms
from_lower [] a b h r = omega arith
from_lower (m ∷ more) a b h r =
    let l : a ≤ m.start = let t = r.0.above in omega arith in
    (record { above = l; aligned = r.0.aligned; some = r.0.some; first = r.0.first; last = r.0.last }, r.1)

from_filter : (p : Mapping → Bool) (ms : List Mapping) (least : ℕ) → AreFrom least ms → AreFrom least (filter p ms)
from_filter p [] least a = a
from_filter p (m ∷ more) least a =
    let r : AreFrom (end_of m + PAGE_SIZE) (filter p more) = from_filter p more (end_of m + PAGE_SIZE) a.1 in
    let l : least ≤ end_of m + PAGE_SIZE = let t = a.0.above in omega arith in
    elim (bool_cases (p m)) [
      | inl t ↦ subst (AreFrom least) (sym (cond-true _ _ _ t)) (a.0, r)
      | inr f ↦ subst (AreFrom least) (sym (cond-false _ _ _ f)) (from_lower (filter p more) least (end_of m + PAGE_SIZE) l r)
    ]

pub AreMappings-filter : (p : Mapping → Bool) (ms : List Mapping) → AreMappings ms → AreMappings (filter p ms)
unfolding AreMappings
AreMappings-filter p ms a = from_filter p ms _ a

pub pages_of-filter : (p : Mapping → Bool) (ms : List Mapping) → pages_of (filter p ms) ≤ pages_of ms
pages_of-filter p [] = omega arith
pages_of-filter p (m ∷ more) =
    let r : pages_of (filter p more) ≤ pages_of more = pages_of-filter p more in
    let s : pages_of (m ∷ more) ≡ m.pages + pages_of more = sum_by-cons (λ m. m.pages) m more in
    let t : pages_of (m ∷ filter p more) ≡ m.pages + pages_of (filter p more) = sum_by-cons (λ m. m.pages) m (filter p more) in
    elim (bool_cases (p m)) [
      | inl t' ↦ let e : pages_of (filter p (m ∷ more)) ≡ pages_of (m ∷ filter p more) = ap pages_of (cond-true _ _ _ t') in omega arith
      | inr f ↦ let e : pages_of (filter p (m ∷ more)) ≡ pages_of (filter p more) = ap pages_of (cond-false _ _ _ f) in omega arith
    ]

-- ---- adding

pub insert-with_mapping : (ms : List Mapping) (n : Mapping) (i : ℕ) → ((k : ℕ) (d : Mapping) → k < i → (get_or ms k d).start < n.start)
    → ((k : ℕ) (d : Mapping) → i ≤ k → k < length ms → n.start ≤ (get_or ms k d).start) → i ≤ length ms → insert ms i n ≡ with_mapping ms n
unfolding with_mapping
insert-with_mapping [] n zero low high l = refl
insert-with_mapping [] n (suc i) low high l = absurd (omega arith)
insert-with_mapping (m ∷ more) n zero low high l =
    let h : n.start ≤ m.start = high 0 m (omega arith) (omega arith) in
    let t : nat_lt m.start n.start ≡ false = grind (arith, nat_tests) in
    sym (cond-false _ _ _ t)
insert-with_mapping (m ∷ more) n (suc i) low high l =
    let h : m.start < n.start = low 0 m (omega arith) in
    let t : nat_lt m.start n.start ≡ true = grind (arith, nat_tests) in
    ap (λ x. m ∷ x) (insert-with_mapping more n i (λ k d b. low (suc k) d (omega arith)) (λ k d b c. high (suc k) d (omega arith) (omega arith)) (omega arith)) ∙ sym (cond-true _ _ _ t)

-- the same at a list that equals it
pub inserted : (ms xs : List Mapping) (n : Mapping) (i : ℕ) → xs ≡ ms → i ≤ length xs → ((k : ℕ) (d : Mapping) → k < i → (get_or xs k d).start < n.start)
    → ((k : ℕ) (d : Mapping) → i ≤ k → k < length xs → n.start ≤ (get_or xs k d).start) → insert ms i n ≡ with_mapping ms n
inserted ms xs n i e l low high = subst (λ y. insert y i n ≡ with_mapping y n) e (insert-with_mapping xs n i low high l)

-- the pages of a mapping and one on each side meet none of the others
abbrev pub IsApart : List Mapping → ℕ → ℕ → Type 0
IsApart ms start end = (k : ℕ) (d : Mapping) → k < length ms → (end_of (get_or ms k d) + PAGE_SIZE ≤ start) ⊎ (end + PAGE_SIZE ≤ (get_or ms k d).start)

from_with : (ms : List Mapping) (n : Mapping) (least : ℕ) → AreFrom least ms → IsMapping least n → end_of n + PAGE_SIZE ≤ SECONDARY_END → IsApart ms n.start (end_of n)
    → AreFrom least (with_mapping ms n)
unfolding with_mapping
from_with [] n least a h e apart = (h, e)
from_with (m ∷ more) n least a h e apart =
    let some = a.0.some in
    let more_some = h.some in
    elim (cases_lt m.start n.start) [
      | inl b ↦
          let t : nat_lt m.start n.start ≡ true = grind (arith, nat_tests) in
          let l : end_of m + PAGE_SIZE ≤ n.start = elim (apart 0 m (omega arith)) [ inl x ↦ x | inr y ↦ absurd (omega arith) ] in
          let h' : IsMapping (end_of m + PAGE_SIZE) n = record { above = l; aligned = h.aligned; some = h.some; first = h.first; last = h.last } in
          subst (AreFrom least) (sym (cond-true _ _ _ t)) (a.0, from_with more n (end_of m + PAGE_SIZE) a.1 h' e (λ k d b'. apart (suc k) d (omega arith)))
      | inr b ↦
          let t : nat_lt m.start n.start ≡ false = grind (arith, nat_tests) in
          let l : end_of n + PAGE_SIZE ≤ m.start = elim (apart 0 m (omega arith)) [ inl x ↦ absurd (omega arith) | inr y ↦ y ] in
          let m' : IsMapping (end_of n + PAGE_SIZE) m = record { above = l; aligned = a.0.aligned; some = a.0.some; first = a.0.first; last = a.0.last } in
          subst (AreFrom least) (sym (cond-false _ _ _ t)) (h, (m', a.1))
    ]

pub AreMappings-with_mapping : (ms : List Mapping) (n : Mapping) → AreMappings ms → IsMapping (SECONDARY_START + PAGE_SIZE) n → end_of n + PAGE_SIZE ≤ SECONDARY_END
    → IsApart ms n.start (end_of n) → AreMappings (with_mapping ms n)
unfolding AreMappings
AreMappings-with_mapping ms n a h e apart = from_with ms n _ a h e apart

pub pages_of-with_mapping : (ms : List Mapping) (n : Mapping) → pages_of (with_mapping ms n) ≡ pages_of ms + n.pages
unfolding with_mapping
pages_of-with_mapping [] n = omega arith
pages_of-with_mapping (m ∷ more) n =
    let r : pages_of (with_mapping more n) ≡ pages_of more + n.pages = pages_of-with_mapping more n in
    let s : pages_of (m ∷ more) ≡ m.pages + pages_of more = sum_by-cons (λ m. m.pages) m more in
    elim (bool_cases (nat_lt m.start n.start)) [
      | inl t ↦
          let e : pages_of (with_mapping (m ∷ more) n) ≡ pages_of (m ∷ with_mapping more n) = ap pages_of (cond-true _ _ _ t) in
          let f : pages_of (m ∷ with_mapping more n) ≡ m.pages + pages_of (with_mapping more n) = sum_by-cons (λ m. m.pages) m (with_mapping more n) in
          omega arith
      | inr t ↦
          let e : pages_of (with_mapping (m ∷ more) n) ≡ pages_of (n ∷ (m ∷ more)) = ap pages_of (cond-false _ _ _ t) in
          let f : pages_of (n ∷ (m ∷ more)) ≡ n.pages + pages_of (m ∷ more) = sum_by-cons (λ m. m.pages) n (m ∷ more) in
          omega arith
    ]

-- each mapping has a page at least
length_from : (ms : List Mapping) (least : ℕ) → AreFrom least ms → length ms ≤ pages_of ms
length_from [] least a = omega arith
length_from (m ∷ more) least a =
    let r : length more ≤ pages_of more = length_from more (end_of m + PAGE_SIZE) a.1 in
    let s : pages_of (m ∷ more) ≡ m.pages + pages_of more = sum_by-cons (λ m. m.pages) m more in
    let t = a.0.some in
    omega arith

pub length-le-pages : (ms : List Mapping) → AreMappings ms → length ms ≤ pages_of ms
unfolding AreMappings
length-le-pages ms a = length_from ms _ a

pub found : (ms xs : List Mapping) (user i : ℕ) (m : Mapping) → xs ≡ ms → AreMappings ms → (i < length xs) × ((d : Mapping) → (get_or xs i d).user ≡ user) → m ≡ get_or ms i m → Some m ≡ mapping_of ms user
found ms xs user i m e a h k = ap Some k ∙ sym (mapping_of-at ms user i m a (subst (λ y. i < length y) e h.0) (subst (λ y. (get_or y i m).user ≡ user) e (h.1 m)))

pub kept_room : (p : Mapping → Bool) (ms new : List Mapping) (before after : ℕ) → new ≡ filter p ms → pages_of ms ≤ before → after ≡ before → pages_of new ≤ after
kept_room p ms new before after e h k =
    let s : pages_of new ≡ pages_of (filter p ms) = ap pages_of e in
    let l : pages_of (filter p ms) ≤ pages_of ms = pages_of-filter p ms in
    omega arith

pub more_room : (ms : List Mapping) (len capacity pages : ℕ) → AreMappings ms → len ≡ length ms → 0 < pages → pages_of ms + pages ≤ capacity → len < capacity
more_room ms len capacity pages a e s h = let l : length ms ≤ pages_of ms = length-le-pages ms a in omega arith

pub less_room : (ms new : List Mapping) (n : Mapping) (before after : ℕ) → new ≡ with_mapping ms n → pages_of ms + n.pages ≤ before → after ≡ before → pages_of new ≤ after
less_room ms new n before after e h k =
    let s : pages_of new ≡ pages_of (with_mapping ms n) = ap pages_of e in
    let t : pages_of (with_mapping ms n) ≡ pages_of ms + n.pages = pages_of-with_mapping ms n in
    omega arith

-- ---- the order, as the binary searches ask for it

users_from : (ms : List Mapping) (least : ℕ) → AreFrom least ms → IsNonDecreasingBy (λ m. m.user) ms
users_from ms least a i j d h l = elim (cases_eq i j) [
  | inl e ↦ let s : (get_or ms i d).user ≡ (get_or ms j d).user = ap (λ x. (get_or ms x d).user) e in omega arith
  | inr n ↦ let s : (get_or ms i d).user < (get_or ms j d).user = users_rise ms least a i j d (omega arith) l in omega arith
]

pub users_sorted : (ms : List Mapping) → AreMappings ms → IsNonDecreasingBy (λ m. m.user) ms
unfolding AreMappings
users_sorted ms a = users_from ms _ a

starts_from : (ms : List Mapping) (least : ℕ) → AreFrom least ms → IsNonDecreasingBy (λ m. m.start) ms
starts_from ms least a i j d h l = elim (cases_eq i j) [
  | inl e ↦ let s : (get_or ms i d).start ≡ (get_or ms j d).start = ap (λ x. (get_or ms x d).start) e in omega arith
  | inr n ↦ let s : (get_or ms i d).start < (get_or ms j d).start = starts_rise ms least a i j d (omega arith) l in omega arith
]

pub starts_sorted : (ms : List Mapping) → AreMappings ms → IsNonDecreasingBy (λ m. m.start) ms
unfolding AreMappings
starts_sorted ms a = starts_from ms _ a

-- ---- no mappings

pub none_ordered : (ms : List Mapping) → ms ≡ [] → AreMappings ms
unfolding AreMappings
none_ordered ms e = subst (AreFrom (SECONDARY_START + PAGE_SIZE)) (sym e) (let l : SECONDARY_START + PAGE_SIZE ≤ SECONDARY_END = omega arith in l)

pub none_counted : (ms : List Mapping) (n : ℕ) → ms ≡ [] → pages_of ms ≤ n
none_counted ms n e = let p : pages_of ms ≡ 0 = ap pages_of e in omega arith
