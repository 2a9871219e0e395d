-- The mappings by address: which of them an address lies in, after one goes.
use Rattle.std.proofs.Common.{◌≡◌, ℕ, ◌+◌, ◌*◌, ◌%◌, ◌<◌, ◌≤◌, ◌==◌, ◌&&◌, ◌||◌, not, nat_lt, nat_le, Bool, true, false, cond, List, [], ◌∷◌, filter, Some, refl, sym, ap, subst, ◌∙◌, inl, inr, arith, eq-eqb}
use Rattle.std.proofs.lemmas.Bool.Decides.{nat_tests}
use Rattle.std.specs.List.{find, list_any, list_all}
use Rattle.scudo_secondary.proofs.PlaceLemmas.{apart_true, place-facts}
use Rattle.std.proofs.lemmas.List.Sums.{sum_by-cons}
use Rattle.scudo_secondary.specs.Mappings.{AreFrom, AreMappings, mapping_of, end_of, pages_of, with_mapping, is_apart, is_place}
use Rattle.scudo_secondary.specs.declared.mappings.Mapping.{Mapping}
use Rattle.common.specs.declared.limits.TheConstants.{PAGE_SIZE}
use Rattle.common.specs.declared.ranges.TheConstants.{SECONDARY_START, SECONDARY_END}
use Rattle.scudo_heap.specs.Served.{is_inside}

pub inside-low : (a : ℕ) (m : Mapping) → a < m.start → is_inside a m ≡ false
inside-low a m h = let t : nat_le m.start a ≡ false = grind (arith, nat_tests) in ap (λ b. b && nat_lt a (end_of m)) t

pub inside-high : (a : ℕ) (m : Mapping) → end_of m ≤ a → is_inside a m ≡ false
inside-high a m h = elim (nat_le m.start a) as (λ b. (b && nat_lt a (end_of m)) ≡ false) [
  | true ↦ (let t : nat_lt a (end_of m) ≡ false = grind (arith, nat_tests) in t)
  | false ↦ refl
]

pub inside-in : (a : ℕ) (m : Mapping) → m.start ≤ a → a < end_of m → is_inside a m ≡ true
inside-in a m l h =
    let t : nat_le m.start a ≡ true = grind (arith, nat_tests) in
    let u : nat_lt a (end_of m) ≡ true = grind (arith, nat_tests) in
    ap (λ b. b && nat_lt a (end_of m)) t ∙ u

-- below the first of them
pub none-below : (ms : List Mapping) (least a : ℕ) → AreFrom least ms → a < least → list_any (is_inside a) ms ≡ false
none-below [] least a h l = refl
none-below (m ∷ ms) least a h l =
    let k = h.0 in
    let above = k.above in
    let some = k.some in
    ap (λ b. b || list_any (is_inside a) ms) (inside-low a m (omega arith)) ∙ none-below ms (end_of m + PAGE_SIZE) a h.1 (omega arith)

-- ---- one of them goes

abbrev pub others_of : ℕ → List Mapping → List Mapping
others_of user ms = filter (λ n. not (n.user == user)) ms

-- the users rise, so none of the later ones is the one that goes
same-others : (ms : List Mapping) (least user : ℕ) → AreFrom least ms → user < least → others_of user ms ≡ ms
same-others [] least user h l = refl
same-others (m ∷ ms) least user h l =
    let k = h.0 in
    let above = k.above in
    let first = k.first in
    let some = k.some in
    let t : (m.user == user) ≡ false = grind (arith, nat_tests) in
    ap (λ b. cond (not b) (m ∷ others_of user ms) (others_of user ms)) t ∙ ap (λ xs. m ∷ xs) (same-others ms (end_of m + PAGE_SIZE) user h.1 (omega arith))

pub record IsWithout (ms : List Mapping) (least : ℕ) (n : Mapping) : Type 0 where
  pub above : least ≤ n.start
  pub aligned : n.start % PAGE_SIZE ≡ 0
  pub last : end_of n + PAGE_SIZE ≤ SECONDARY_END
  pub pages : pages_of (others_of n.user ms) + n.pages ≡ pages_of ms
  pub in_it : (a : ℕ) → is_inside a n ≡ true → list_any (is_inside a) (others_of n.user ms) ≡ false
  pub out_of_it : (a : ℕ) → is_inside a n ≡ false → list_any (is_inside a) (others_of n.user ms) ≡ list_any (is_inside a) ms
  pub there : (a : ℕ) → is_inside a n ≡ true → list_any (is_inside a) ms ≡ true

pub and-both : (a b : Bool) → (a && b) ≡ true → (a ≡ true) × (b ≡ true)
and-both true b h = (refl, h)
and-both false b h = cc

pub le-of : (a b : ℕ) → nat_le a b ≡ true → a ≤ b
le-of a b h = grind (arith, nat_tests)

pub lt-of : (a b : ℕ) → nat_lt a b ≡ true → a < b
lt-of a b h = grind (arith, nat_tests)

inside-of : (a : ℕ) (m : Mapping) → is_inside a m ≡ true → (m.start ≤ a) × (a < end_of m)
inside-of a m h = let x = and-both (nat_le m.start a) (nat_lt a (end_of m)) h in (le-of m.start a x.0, lt-of a (end_of m) x.1)

or-true : (b c : Bool) → c ≡ true → (b || c) ≡ true
or-true true c h = refl
or-true false c h = h

rest-below : (ms : List Mapping) (least : ℕ) → AreFrom least ms → least ≤ SECONDARY_END
rest-below [] least h = h
rest-below (m ∷ ms) least h =
    let k = h.0 in
    let above = k.above in
    let below = rest-below ms (end_of m + PAGE_SIZE) h.1 in
    omega arith

first-goes : (m : Mapping) (ms : List Mapping) (least : ℕ) → AreFrom least (m ∷ ms) → IsWithout (m ∷ ms) least m
first-goes m ms least h =
    let k = h.0 in
    let t : (m.user == m.user) ≡ true = eq-eqb m.user m.user refl in
    let below = k.last in
    let gone : others_of m.user (m ∷ ms) ≡ ms = ap (λ b. cond (not b) (m ∷ others_of m.user ms) (others_of m.user ms)) t ∙ same-others ms (end_of m + PAGE_SIZE) m.user h.1 (omega arith) in
    record {
      above = k.above;
      aligned = k.aligned;
      last = rest-below ms (end_of m + PAGE_SIZE) h.1;
      pages = ap (λ xs. pages_of xs + m.pages) gone ∙ (let c : pages_of (m ∷ ms) ≡ m.pages + pages_of ms = sum_by-cons (λ x. x.pages) m ms in let e : pages_of ms + m.pages ≡ pages_of (m ∷ ms) = omega arith in e);
      in_it = λ a i. let x = inside-of a m i in let u = x.1 in ap (list_any (is_inside a)) gone ∙ none-below ms (end_of m + PAGE_SIZE) a h.1 (omega arith);
      out_of_it = λ a o. ap (list_any (is_inside a)) gone ∙ sym (ap (λ b. b || list_any (is_inside a) ms) o);
      there = λ a i. ap (λ b. b || list_any (is_inside a) ms) i;
    }

later-goes : (m : Mapping) (ms : List Mapping) (least : ℕ) (n : Mapping) → AreFrom least (m ∷ ms) → (m.user == n.user) ≡ false → IsWithout ms (end_of m + PAGE_SIZE) n → IsWithout (m ∷ ms) least n
later-goes m ms least n h t r =
    let k = h.0 in
    let above = k.above in
    let start = r.above in
    let stays : others_of n.user (m ∷ ms) ≡ m ∷ others_of n.user ms = ap (λ b. cond (not b) (m ∷ others_of n.user ms) (others_of n.user ms)) t in
    let sum = r.pages in
    record {
      above = omega arith;
      aligned = r.aligned;
      last = r.last;
      pages = ap (λ xs. pages_of xs + n.pages) stays ∙ (let c : pages_of (m ∷ ms) ≡ m.pages + pages_of ms = sum_by-cons (λ x. x.pages) m ms in
          let d : pages_of (m ∷ others_of n.user ms) ≡ m.pages + pages_of (others_of n.user ms) = sum_by-cons (λ x. x.pages) m (others_of n.user ms) in
          let e : pages_of (m ∷ others_of n.user ms) + n.pages ≡ pages_of (m ∷ ms) = omega arith in e);
      in_it = λ a i. let x = inside-of a n i in let l = x.0 in ap (list_any (is_inside a)) stays ∙ ap (λ b. b || list_any (is_inside a) (others_of n.user ms)) (inside-high a m (omega arith)) ∙ r.in_it a i;
      out_of_it = λ a o. ap (list_any (is_inside a)) stays ∙ ap (λ b. is_inside a m || b) (r.out_of_it a o);
      there = λ a i. or-true (is_inside a m) (list_any (is_inside a) ms) (r.there a i);
    }

without-from : (ms : List Mapping) (least : ℕ) (n : Mapping) → AreFrom least ms → Some n ≡ mapping_of ms n.user → IsWithout ms least n
without-from [] least n h e = cc
without-from (m ∷ ms) least n h e =
    elim (m.user == n.user) as (λ b. (m.user == n.user) ≡ b → Some n ≡ cond b (Some m) (find (λ x. x.user == n.user) ms) → IsWithout (m ∷ ms) least n) [
      | true ↦ λ t f. (let same : m ≡ n = cc in subst (IsWithout (m ∷ ms) least) same (first-goes m ms least h))
      | false ↦ λ t f. later-goes m ms least n h t (without-from ms (end_of m + PAGE_SIZE) n h.1 f)
    ] refl e

pub without : (ms : List Mapping) (n : Mapping) → AreMappings ms → Some n ≡ mapping_of ms n.user → IsWithout ms (SECONDARY_START + PAGE_SIZE) n
unfolding AreMappings
without ms n h e = without-from ms (SECONDARY_START + PAGE_SIZE) n h e

-- ---- one more of them

or-swap : (x y z : Bool) → (x || (y || z)) ≡ (y || (x || z))
or-swap true true z = refl
or-swap true false z = refl
or-swap false true z = refl
or-swap false false z = refl

pub inside-more : (ms : List Mapping) (n : Mapping) (a : ℕ) → list_any (is_inside a) (with_mapping ms n) ≡ (is_inside a n || list_any (is_inside a) ms)
unfolding with_mapping
inside-more [] n a = refl
inside-more (m ∷ ms) n a = elim (nat_lt m.start n.start) as (λ b. list_any (is_inside a) (cond b (m ∷ with_mapping ms n) (n ∷ (m ∷ ms))) ≡ (is_inside a n || (is_inside a m || list_any (is_inside a) ms))) [
  | true ↦ ap (λ t. is_inside a m || t) (inside-more ms n a) ∙ or-swap (is_inside a m) (is_inside a n) (list_any (is_inside a) ms)
  | false ↦ refl
]

pub all-apart : (ms : List Mapping) (pages start : ℕ) → is_place ms pages start ≡ true → list_all (is_apart pages start) ms ≡ true
unfolding is_place
all-apart ms pages start h =
    (and-both ((start % PAGE_SIZE == 0) && nat_le (SECONDARY_START + PAGE_SIZE) start && nat_le (start + PAGE_SIZE * pages + PAGE_SIZE) SECONDARY_END) (list_all (is_apart pages start) ms) h).1

apart-out : (pages start a : ℕ) (m : Mapping) → is_apart pages start m ≡ true → start ≤ a → a < start + PAGE_SIZE * pages → is_inside a m ≡ false
apart-out pages start a m h l u = elim (apart_true pages start m h) [
  | inl e ↦ inside-high a m (omega arith)
  | inr e ↦ inside-low a m (omega arith)
]

-- an address in a place is in no mapping
pub place-out : (ms : List Mapping) (pages start a : ℕ) → list_all (is_apart pages start) ms ≡ true → start ≤ a → a < start + PAGE_SIZE * pages → list_any (is_inside a) ms ≡ false
place-out [] pages start a h l u = refl
place-out (m ∷ ms) pages start a h l u =
    let x = and-both (is_apart pages start m) (list_all (is_apart pages start) ms) h in
    ap (λ b. b || list_any (is_inside a) ms) (apart-out pages start a m x.0 l u) ∙ place-out ms pages start a x.1 l u

pub record IsAt (ms : List Mapping) (pages start : ℕ) : Type 0 where
  pub aligned : start % PAGE_SIZE ≡ 0
  pub above : SECONDARY_START + PAGE_SIZE ≤ start
  pub below : start + PAGE_SIZE * pages + PAGE_SIZE ≤ SECONDARY_END
  pub out : (a : ℕ) → start ≤ a → a < start + PAGE_SIZE * pages → list_any (is_inside a) ms ≡ false

pub is-at : (ms : List Mapping) (pages start : ℕ) → is_place ms pages start ≡ true → IsAt ms pages start
is-at ms pages start h =
    let f = place-facts ms pages start h in
    record { aligned = f.aligned; above = f.above; below = f.fits.below; out = λ a l u. place-out ms pages start a (all-apart ms pages start h) l u }
