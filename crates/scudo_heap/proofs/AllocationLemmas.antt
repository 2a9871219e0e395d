-- What is asked of an allocation.
use Rattle.std.proofs.Common.{◌≡◌, ℕ, zero, suc, ◌+◌, ◌/◌, ◌%◌, ◌^◌, ◌<◌, ◌≤◌, ◌==◌, ◌&&◌, ◌||◌, nat_le, max, Bool, true, false, inl, inr, refl, sym, ap, ◌∙◌, arith}
use Rattle.std.proofs.lemmas.Bool.{cond-true, cond-false, eqb-true, cases_eq}
use Rattle.std.proofs.lemmas.Nat.{zero_from_ones, ones_le_self}
use Rattle.std.specs.Int.RustNames.{count_ones}
use lib.Count.{ones_step}
use Rattle.std.proofs.lemmas.Bool.Decides.{nat_tests}
use Rattle.std.specs.List.{range_with_len, list_any}
use Rattle.scudo_header.specs.Classes.{class_for}
use Rattle.scudo_header.specs.declared.headers.Origin.{Origin}
use Rattle.scudo_header.proofs.ClassLemmas.{below-true}
use Rattle.scudo_header.specs.declared.config.TheConstants.{MAX_REQUEST}
use Rattle.scudo_heap.specs.Placing.{World}
use Rattle.scudo_heap.specs.Allocation.{no_chunk, is_alignment, after_allocate, allocate_cases, need_of, nonzero_size}
use Rattle.scudo_heap.specs.Inner.{IsAlign}
use Rattle.scudo_heap.proofs.MapLemmas.{and-both, le-of}

pub after-allocate-over : (w : World) (o : Origin) (a n : ℕ) → MAX_REQUEST < n → no_chunk w ≡ after_allocate w o a n
unfolding after_allocate
after-allocate-over w o a n l = let t : nat_le n MAX_REQUEST ≡ false = grind (arith, nat_tests) in sym (cond-false _ _ _ t)

pub after-allocate-some : (w : World) (o : Origin) (a n z : ℕ) → n ≤ MAX_REQUEST → z ≡ nonzero_size n → allocate_cases w o a z (class_for (need_of a z)) ≡ after_allocate w o a n
unfolding after_allocate
after-allocate-some w o a n z l e =
    let t : nat_le n MAX_REQUEST ≡ true = grind (arith, nat_tests) in
    ap (λ k. allocate_cases w o a k (class_for (need_of a k))) e ∙ sym (cond-true _ _ _ t)

-- a power of two up to the twelfth
pub record IsPower (n k : ℕ) : Type 0 where
  pub below : k < 13
  pub is : n ≡ 2 ^ k

some-power : (len a n : ℕ) → a + len ≤ 13 → list_any (λ k. n == 2 ^ k) (range_with_len a len) ≡ true → (k : ℕ) × IsPower n k
some-power zero a n l e = cc
some-power (suc len) a n l e = elim (n == 2 ^ a) as (λ b. (n == 2 ^ a) ≡ b → (b || list_any (λ k. n == 2 ^ k) (range_with_len (a + 1) len)) ≡ true → (k : ℕ) × IsPower n k) [
  | true ↦ λ t f. (a, record { below = omega arith; is = eqb-true _ _ t })
  | false ↦ λ t f. some-power len (a + 1) n (omega arith) f
] refl e

abbrev is_align : ℕ → Bool
is_align n = nat_le 16 n && (nat_le n 4096 && (n % 16 == 0))

all-align : (k : ℕ) → k < 13 → is_align (max (2 ^ k) 16) ≡ true
all-align k l = below-true 13 (λ j. is_align (max (2 ^ j) 16)) refl k l

pub power-align : (n : ℕ) → is_alignment n ≡ true → IsAlign (max n 16)
power-align n e =
    let p = some-power 13 0 n (omega arith) e in
    let t = ap (λ x. is_align (max x 16)) p.1.is ∙ all-align p.0 p.1.below in
    let x = and-both (nat_le 16 (max n 16)) (nat_le (max n 16) 4096 && (max n 16 % 16 == 0)) t in
    let y = and-both (nat_le (max n 16) 4096) (max n 16 % 16 == 0) x.1 in
    record { least = le-of 16 (max n 16) x.0; most = le-of (max n 16) 4096 y.0; multiple = eqb-true _ _ y.1 }

-- ---- one bit is set in a power of two, and in no other number

-- the bit below the k-th that a number is the power of
record IsBitOf (k n j : ℕ) : Type 0 where
  below : j < k
  is : n ≡ 2 ^ j

one-bit : (k n : ℕ) → n < 2 ^ k → count_ones n ≡ 1 → (j : ℕ) × IsBitOf k n j
one-bit zero n l e = let few = ones_le_self n in absurd (omega arith)
one-bit (suc k) n l e =
    let s = ones_step n in
    elim (cases_eq (n % 2) 0) [
      | inl even ↦
          let half = one-bit k (n / 2) (omega arith) (omega arith) in
          let is = half.1.is in
          let below = half.1.below in
          (suc half.0, record { below = omega arith; is = omega arith })
      | inr odd ↦
          let none = zero_from_ones (n / 2) (let some : n % 2 ≡ 1 = omega (arith, odd) in omega arith) in
          (0, record { below = omega arith; is = let some : n % 2 ≡ 1 = omega (arith, odd) in omega arith })
    ]

power-ones : (j : ℕ) → count_ones (2 ^ j) ≡ 1
power-ones zero = let s = ones_step 1 in let few = ones_le_self 0 in omega arith
power-ones (suc j) =
    let s = ones_step (2 ^ suc j) in
    let half : 2 ^ suc j / 2 ≡ 2 ^ j = omega arith in
    let even : 2 ^ suc j % 2 ≡ 0 = omega arith in
    let rest = ap count_ones half in
    let one = power-ones j in
    omega arith

both-ways : (a b : Bool) → (a ≡ true → b ≡ true) → (b ≡ true → a ≡ true) → a ≡ b
both-ways true true f g = refl
both-ways true false f g = sym (f refl)
both-ways false true f g = g refl
both-ways false false f g = refl

pub is-power : (n : ℕ) → n ≤ 4096 → (count_ones n == 1) ≡ is_alignment n
is-power n low = both-ways (count_ones n == 1) (is_alignment n)
    (λ t.
    let p = one-bit 13 n (omega arith) (eqb-true _ _ t) in
    ap is_alignment p.1.is ∙ below-true 13 (λ j. is_alignment (2 ^ j)) refl p.0 p.1.below)
    (λ t.
    let p = some-power 13 0 n (omega arith) t in
    ap (λ x. x == 1) (ap count_ones p.1.is ∙ power-ones p.0))
