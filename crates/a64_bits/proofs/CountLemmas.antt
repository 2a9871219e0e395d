-- Leading zeros.
use Rattle.std.proofs.Common.{◌≡◌, ℕ, zero, suc, ◌+◌, ◌-◌, ◌*◌, ◌^◌, ◌<◌, ◌≤◌, arith, refl, subst, ◌∙◌, inl, inr}
use Rattle.std.proofs.Math.Nat.{pow-le-pow_right}
use Rattle.std.proofs.lemmas.Bool.{cases_lt, lt-ltb, le-ltb, cases_eq}
use Rattle.std.proofs.lemmas.Nat.{leading_length, pow-add}
use Rattle.std.specs.Int.Count.{count_leading_zeros}
use Rattle.a64_bits.specs.Counts.{leading_zeros_of}
use Rattle.a64_bits.proofs.FieldLemmas.{doubled}

-- The bits from j up are zeros.
pub leading_zeros_of-above : (k j x : ℕ) → j ≤ k → x < 2 ^ j → leading_zeros_of k x ≡ k - j + leading_zeros_of j x
unfolding leading_zeros_of
leading_zeros_of-above zero j x h fits =
    let e : j ≡ 0 = omega arith in
    rw e refl
leading_zeros_of-above (suc k) j x h fits = elim (cases_eq j (suc k)) [
  | inl e ↦ rw e (omega arith)
  | inr ne ↦
      let le : j ≤ k = omega arith in
      let room : 2 ^ j ≤ 2 ^ k = pow-le-pow_right (omega arith) le in
      let rest = leading_zeros_of-above k j x le fits in
      rw (lt-ltb x (2 ^ k) (omega arith), rest) (omega arith)
]

-- The bit j is one.
pub leading_zeros_of-at : (j x : ℕ) → 2 ^ j ≤ x → leading_zeros_of (suc j) x ≡ 0
unfolding leading_zeros_of
leading_zeros_of-at j x h = rw (le-ltb x (2 ^ j) h) refl

leading_zeros_of-zero : (x : ℕ) → leading_zeros_of 0 x ≡ 0
unfolding leading_zeros_of
leading_zeros_of-zero x = refl

-- A number of m digits.
leading_zeros_of-digits : (m size x : ℕ) → m ≤ size → x < 2 ^ m → 2 ^ m ≤ 2 * x + 1 → leading_zeros_of size x ≡ size - m
leading_zeros_of-digits zero size x le fits top = leading_zeros_of-above size 0 x le fits ∙ rw (leading_zeros_of-zero x) (omega arith)
leading_zeros_of-digits (suc j) size x le fits top =
    let double : 2 ^ suc j ≡ 2 ^ (suc j - 1) + 2 ^ (suc j - 1) = doubled (suc j) (omega arith) in
    let e : suc j - 1 ≡ j = omega arith in
    let low : 2 ^ j ≤ x = subst (λ k. 2 ^ k ≤ x) e (omega arith) in
    leading_zeros_of-above size (suc j) x le fits ∙ rw (leading_zeros_of-at j x low) (omega arith)

-- More digits than `size` do not fit.
digits_fit : (m size x : ℕ) → x < 2 ^ size → 2 ^ m ≤ 2 * x + 1 → m ≤ size
digits_fit m size x fits top = elim (cases_lt size m) [
  | inl more ↦
      let room : 2 ^ (size + 1) ≤ 2 ^ m = pow-le-pow_right (omega arith) (omega arith) in
      let double = pow-add 2 size 1 in
      absurd (omega arith)
  | inr le ↦ le
]

-- What the 64 bits of the machine's count have more.
pub count_leading_zeros-64 : (size x : ℕ) → size ≤ 64 → x < 2 ^ size →
    (64 - size ≤ count_leading_zeros 64 x) × (count_leading_zeros 64 x - (64 - size) ≡ leading_zeros_of size x)
count_leading_zeros-64 size x narrow fits =
    let room : 2 ^ size ≤ 2 ^ 64 = pow-le-pow_right (omega arith) narrow in
    let digits = leading_length 64 x (omega arith) in
    let m = digits.0 in
    let le = digits_fit m size x fits digits.3 in
    let mine = leading_zeros_of-digits m size x le digits.2 digits.3 in
    (omega (arith, digits.1), omega (arith, digits.1, mine))
