-- Lists that are linked through a function, and their batches.
use Rattle.std.proofs.Common.{◌≡◌, ◌≢◌, ℕ, zero, suc, ◌+◌, ◌-◌, ◌<◌, ◌≤◌, ◌==◌, ◌||◌, Bool, true, false, List, [], ◌∷◌, length, map, refl, sym, ap, subst, ◌∙◌, inl, inr, arith, eq-eqb, eqb, cond, nat_le}
use Rattle.std.proofs.lemmas.Bool.{cases_eq, cond-false}
use Rattle.std.proofs.lemmas.Bool.Decides.{nat_tests}
use Rattle.std.specs.List.{AllByRecursion, IsDistinct}
use Rattle.scudo_primary.specs.Pools.{is_member}
use Rattle.scudo_primary.specs.Inner.{follow, Each, one_more, sizes_after_push, sizes_of_marks}
use Rattle.scudo_header.specs.Classes.{size_of}
use Rattle.scudo_primary.specs.Batches.{max_count_of, one_less}
use Rattle.scudo_header.specs.declared.config.TheConstants.{SMALL_SIZE, MAX_COUNT, MAX_COUNT_ABOVE}

pub follow-suc : (f : ℕ → ℕ) (n at : ℕ) → follow f (suc n) at ≡ at ∷ follow f n (f at)
unfolding follow
follow-suc f n at = refl

-- two functions that agree on the members of a list
pub follow-agree : (n : ℕ) (f g : ℕ → ℕ) (at : ℕ) (Q : ℕ → Type 0) → Each Q (follow f n at) → ((x : ℕ) → Q x → f x ≡ g x) → follow f n at ≡ follow g n at
unfolding follow
follow-agree zero f g at Q h e = refl
follow-agree (suc n) f g at Q h e = ap (λ l. at ∷ l) (follow-agree n f g (f at) Q h.1 e ∙ ap (follow g n) (e at h.0))

pub length-follow : (n : ℕ) (f : ℕ → ℕ) (at : ℕ) → length (follow f n at) ≡ n
unfolding follow
length-follow zero f at = refl
length-follow (suc n) f at = ap suc (length-follow n f (f at))

pub Each-map : (xs : List ℕ) (P Q : ℕ → Type 0) → Each P xs → ((x : ℕ) → P x → Q x) → Each Q xs
Each-map [] P Q h f = tt
Each-map (x ∷ xs) P Q h f = (f x h.0, Each-map xs P Q h.1 f)

pub Each-both : (xs : List ℕ) (P Q : ℕ → Type 0) → Each P xs → Each Q xs → Each (λ x. P x × Q x) xs
Each-both [] P Q h k = tt
Each-both (x ∷ xs) P Q h k = ((h.0, k.0), Each-both xs P Q h.1 k.1)

pub map-agree : {X : Type 0} (f g : ℕ → X) (xs : List ℕ) (Q : ℕ → Type 0) → Each Q xs → ((x : ℕ) → Q x → f x ≡ g x) → map f xs ≡ map g xs
map-agree f g [] Q h e = refl
map-agree f g (x ∷ xs) Q h e = λ i. e x h.0 i ∷ map-agree f g xs Q h.1 e i

or_left : (a b : Bool) → (a || b) ≡ false → a ≡ false
or_left false b h = refl
or_left true b h = h

or_right : (a b : Bool) → (a || b) ≡ false → b ≡ false
or_right false b h = h
or_right true b h = cc

pub member-other : (x : ℕ) (xs : List ℕ) (b : ℕ) → b ≢ x → is_member (x ∷ xs) b ≡ is_member xs b
member-other x xs b n = let t : (b == x) ≡ false = grind (arith, nat_tests) in ap (λ v. v || is_member xs b) t

pub member-first : (x : ℕ) (xs : List ℕ) → is_member (x ∷ xs) x ≡ true
member-first x xs = ap (λ v. v || is_member xs x) (eq-eqb x x refl)

-- no member is the number that is none
pub Each-other : (xs : List ℕ) (b : ℕ) → is_member xs b ≡ false → Each (λ x. x ≢ b) xs
Each-other [] b n = tt
Each-other (x ∷ xs) b n =
    ((λ e. let t : (b == x) ≡ true = eq-eqb b x (sym e) in let u : ((b == x) || is_member xs b) ≡ true = ap (λ v. v || is_member xs b) t in cc), Each-other xs b (or_right _ _ n))

pub none-of : (x : ℕ) (xs : List ℕ) → is_member xs x ≡ false → AllByRecursion (λ y. eqb x y ≡ false) xs
none-of x [] h = tt
none-of x (y ∷ ys) h = (or_left _ _ h, none-of x ys (or_right _ _ h))

pub none-from : (x : ℕ) (xs : List ℕ) → AllByRecursion (λ y. eqb x y ≡ false) xs → is_member xs x ≡ false
none-from x [] h = refl
none-from x (y ∷ ys) h = ap (λ t. t || is_member ys x) h.0 ∙ none-from x ys h.1

pub distinct-cons : (x : ℕ) (xs : List ℕ) → is_member xs x ≡ false → IsDistinct eqb xs → IsDistinct eqb (x ∷ xs)
unfolding IsDistinct
distinct-cons x xs n h = (none-of x xs n, h)

pub distinct-head : (x : ℕ) (xs : List ℕ) → IsDistinct eqb (x ∷ xs) → is_member xs x ≡ false
unfolding IsDistinct
distinct-head x xs h = none-from x xs h.0

pub distinct-tail : (x : ℕ) (xs : List ℕ) → IsDistinct eqb (x ∷ xs) → IsDistinct eqb xs
unfolding IsDistinct
distinct-tail x xs h = h.1

-- a number for which none of the members' facts holds is no member
pub not-member : (xs : List ℕ) (P : ℕ → Type 0) (b : ℕ) → Each P xs → (P b → ⊥) → is_member xs b ≡ false
not-member [] P b h n = refl
not-member (x ∷ xs) P b h n =
    let o : b ≢ x = λ e. n (subst P (sym e) h.0) in
    member-other x xs b o ∙ not-member xs P b h.1 n

pub member-fact : (xs : List ℕ) (P : ℕ → Type 0) (b : ℕ) → Each P xs → is_member xs b ≡ true → P b
member-fact [] P b h e = cc
member-fact (x ∷ xs) P b h e = elim (cases_eq b x) [
  | inl s ↦ subst P (sym s) h.0
  | inr o ↦ member-fact xs P b h.1 (sym (member-other x xs b o) ∙ e)
]

-- ---- batches

pub sizes-of-marks-cons : (last : Bool) (more : List Bool) → sizes_of_marks (last ∷ more) ≡ sizes_after_push last (sizes_of_marks more)
unfolding sizes_of_marks
sizes-of-marks-cons last more = refl

-- every batch has a block
pub sizes-pos : (flags : List Bool) → Each (λ n. 0 < n) (sizes_of_marks flags)
unfolding sizes_of_marks
sizes-pos [] = tt
sizes-pos (true ∷ more) = (omega arith, sizes-pos more)
sizes-pos (false ∷ more) = sizes-after-push-pos (sizes_of_marks more) (sizes-pos more)
  where
    sizes-after-push-pos : (sizes : List ℕ) → Each (λ n. 0 < n) sizes → Each (λ n. 0 < n) (one_more sizes)
    sizes-after-push-pos [] h = (omega arith, tt)
    sizes-after-push-pos (n ∷ ns) h = (omega arith, h.1)

one_less-one_more : (sizes : List ℕ) → Each (λ n. 0 < n) sizes → one_less (one_more sizes) ≡ sizes
one_less-one_more [] h = refl
one_less-one_more (n ∷ ns) h =
    let p = h.0 in
    let t : (n + 1 == 1) ≡ false = grind (arith, nat_tests) in
    let e : n + 1 - 1 ≡ n = omega arith in
    cond-false _ _ _ t ∙ ap (λ m. m ∷ ns) e

pub one_less-sizes-after-push : (last : Bool) (flags : List Bool) → one_less (sizes_after_push last (sizes_of_marks flags)) ≡ sizes_of_marks flags
one_less-sizes-after-push true flags = refl
one_less-sizes-after-push false flags = one_less-one_more (sizes_of_marks flags) (sizes-pos flags)

pub Each-sizes-after-push : (last : Bool) (sizes : List ℕ) (m : ℕ) → Each (λ n. n ≤ m) (sizes_after_push last sizes) → Each (λ n. n ≤ m) sizes
Each-sizes-after-push true sizes m h = h.1
Each-sizes-after-push false [] m h = tt
Each-sizes-after-push false (n ∷ ns) m h = let a = h.0 in (omega arith, h.1)

pub max_count-low : (c : ℕ) → MAX_COUNT_ABOVE ≤ max_count_of c
max_count-low c = elim (nat_le (size_of c) SMALL_SIZE) as (λ b. MAX_COUNT_ABOVE ≤ cond b MAX_COUNT MAX_COUNT_ABOVE) [ true ↦ omega arith | false ↦ omega arith ]

pub max_count-high : (c : ℕ) → max_count_of c ≤ MAX_COUNT
max_count-high c = elim (nat_le (size_of c) SMALL_SIZE) as (λ b. cond b MAX_COUNT MAX_COUNT_ABOVE ≤ MAX_COUNT) [ true ↦ omega arith | false ↦ omega arith ]

pub max_count-pos : (c : ℕ) → 1 ≤ max_count_of c
max_count-pos c = let a = max_count-low c in omega arith
