-- The flags of a sum.
use Rattle.std.proofs.Common.{◌≡◌, ◌≢◌, ℕ, ◌+◌, ◌-◌, ◌%◌, ◌^◌, ◌<◌, ◌≤◌, ℤ, pos, ◌+ℤ◌, Bool, true, false, not, ◌&&◌, arith, refl, ◌⊎◌, inl, inr, ap, sym, ◌∙◌, int_eq}
use Rattle.std.proofs.lemmas.Int.{ints}
use Rattle.std.proofs.lemmas.Bool.{cases_lt, le-leb, lt-leb, false_from_ne_true}
use Rattle.std.proofs.lemmas.Bool.Decides.{Decides-int_eq}
use lib.Dec.{leb}
use mathlib.Core.Bool.{beq}
use Rattle.a64_bits.specs.Fields.{signed_of}
use Rattle.a64_bits.proofs.FieldLemmas.{signed_of_small, signed_of_large}

pub int_eq-same : (a b : ℤ) → a ≡ b → int_eq a b ≡ true
int_eq-same a b e = (Decides-int_eq a b).1 e

pub int_eq-differ : (a b : ℤ) → a ≢ b → int_eq a b ≡ false
int_eq-differ a b h = false_from_ne_true (int_eq a b) (λ e. h ((Decides-int_eq a b).0 e))

-- The code compares the signs of the terms and of the result.
abbrev pub signs_tell : ℕ → ℕ → ℕ → ℕ → Bool
signs_tell half x y r = beq (leb half x) (leb half y) && not (beq (leb half x) (leb half r))

tells : (a b c p q r : Bool) → a ≡ p → b ≡ q → c ≡ r → (beq a b && not (beq a c)) ≡ (beq p q && not (beq p r))
tells a b c p q r x y z = rw (x, y, z) refl

-- A result below 2 ^ width that is the sum, or the sum less 2 ^ width.
abbrev Wraps : ℕ → ℕ → ℕ → ℕ → ℕ → Type 0
Wraps half x y d r = (x + y + d ≡ r) ⊎ (x + y + d ≡ r + (half + half))

signs_positive_positive : (half width x y r d : ℕ) → half ≡ 2 ^ (width - 1) → 2 ^ width ≡ half + half → x < half + half → y < half + half → r < half + half → d ≤ 1
    → Wraps half x y d r → x < half → y < half
    → signs_tell half x y r ≡ not (int_eq (signed_of width x +ℤ signed_of width y +ℤ pos d) (signed_of width r))
signs_positive_positive half width x y r d is_half double x_fits y_fits r_fits one total at_x at_y =
    let sx = signed_of_small width x (omega arith) in
    let sy = signed_of_small width y (omega arith) in
    let lx = lt-leb half x at_x in
    let ly = lt-leb half y at_y in
    elim (cases_lt r half) [
      | inl low ↦
          let sr = signed_of_small width r (omega arith) in
          let lr = lt-leb half r low in
          let e : signed_of width x +ℤ signed_of width y +ℤ pos d ≡ signed_of width r = rw (sx, sy, sr) (omega (arith, ints)) in
          tells (leb half x) (leb half y) (leb half r) false false false lx ly lr ∙ sym (ap not (int_eq-same _ _ e))
      | inr high ↦
          let sr = signed_of_large width r (omega arith) in
          let lr = le-leb half r high in
          let e : signed_of width x +ℤ signed_of width y +ℤ pos d ≢ signed_of width r = rw (sx, sy, sr) (omega (arith, ints)) in
          tells (leb half x) (leb half y) (leb half r) false false true lx ly lr ∙ sym (ap not (int_eq-differ _ _ e))
    ]

signs_positive_negative : (half width x y r d : ℕ) → half ≡ 2 ^ (width - 1) → 2 ^ width ≡ half + half → x < half + half → y < half + half → r < half + half → d ≤ 1
    → Wraps half x y d r → x < half → half ≤ y
    → signs_tell half x y r ≡ not (int_eq (signed_of width x +ℤ signed_of width y +ℤ pos d) (signed_of width r))
signs_positive_negative half width x y r d is_half double x_fits y_fits r_fits one total at_x at_y =
    let sx = signed_of_small width x (omega arith) in
    let sy = signed_of_large width y (omega arith) in
    let lx = lt-leb half x at_x in
    let ly = le-leb half y at_y in
    elim (cases_lt r half) [
      | inl low ↦
          let sr = signed_of_small width r (omega arith) in
          let lr = lt-leb half r low in
          let e : signed_of width x +ℤ signed_of width y +ℤ pos d ≡ signed_of width r = rw (sx, sy, sr) (omega (arith, ints)) in
          tells (leb half x) (leb half y) (leb half r) false true false lx ly lr ∙ sym (ap not (int_eq-same _ _ e))
      | inr high ↦
          let sr = signed_of_large width r (omega arith) in
          let lr = le-leb half r high in
          let e : signed_of width x +ℤ signed_of width y +ℤ pos d ≡ signed_of width r = rw (sx, sy, sr) (omega (arith, ints)) in
          tells (leb half x) (leb half y) (leb half r) false true true lx ly lr ∙ sym (ap not (int_eq-same _ _ e))
    ]

signs_negative_positive : (half width x y r d : ℕ) → half ≡ 2 ^ (width - 1) → 2 ^ width ≡ half + half → x < half + half → y < half + half → r < half + half → d ≤ 1
    → Wraps half x y d r → half ≤ x → y < half
    → signs_tell half x y r ≡ not (int_eq (signed_of width x +ℤ signed_of width y +ℤ pos d) (signed_of width r))
signs_negative_positive half width x y r d is_half double x_fits y_fits r_fits one total at_x at_y =
    let sx = signed_of_large width x (omega arith) in
    let sy = signed_of_small width y (omega arith) in
    let lx = le-leb half x at_x in
    let ly = lt-leb half y at_y in
    elim (cases_lt r half) [
      | inl low ↦
          let sr = signed_of_small width r (omega arith) in
          let lr = lt-leb half r low in
          let e : signed_of width x +ℤ signed_of width y +ℤ pos d ≡ signed_of width r = rw (sx, sy, sr) (omega (arith, ints)) in
          tells (leb half x) (leb half y) (leb half r) true false false lx ly lr ∙ sym (ap not (int_eq-same _ _ e))
      | inr high ↦
          let sr = signed_of_large width r (omega arith) in
          let lr = le-leb half r high in
          let e : signed_of width x +ℤ signed_of width y +ℤ pos d ≡ signed_of width r = rw (sx, sy, sr) (omega (arith, ints)) in
          tells (leb half x) (leb half y) (leb half r) true false true lx ly lr ∙ sym (ap not (int_eq-same _ _ e))
    ]

signs_negative_negative : (half width x y r d : ℕ) → half ≡ 2 ^ (width - 1) → 2 ^ width ≡ half + half → x < half + half → y < half + half → r < half + half → d ≤ 1
    → Wraps half x y d r → half ≤ x → half ≤ y
    → signs_tell half x y r ≡ not (int_eq (signed_of width x +ℤ signed_of width y +ℤ pos d) (signed_of width r))
signs_negative_negative half width x y r d is_half double x_fits y_fits r_fits one total at_x at_y =
    let sx = signed_of_large width x (omega arith) in
    let sy = signed_of_large width y (omega arith) in
    let lx = le-leb half x at_x in
    let ly = le-leb half y at_y in
    elim (cases_lt r half) [
      | inl low ↦
          let sr = signed_of_small width r (omega arith) in
          let lr = lt-leb half r low in
          let e : signed_of width x +ℤ signed_of width y +ℤ pos d ≢ signed_of width r = rw (sx, sy, sr) (omega (arith, ints)) in
          tells (leb half x) (leb half y) (leb half r) true true false lx ly lr ∙ sym (ap not (int_eq-differ _ _ e))
      | inr high ↦
          let sr = signed_of_large width r (omega arith) in
          let lr = le-leb half r high in
          let e : signed_of width x +ℤ signed_of width y +ℤ pos d ≡ signed_of width r = rw (sx, sy, sr) (omega (arith, ints)) in
          tells (leb half x) (leb half y) (leb half r) true true true lx ly lr ∙ sym (ap not (int_eq-same _ _ e))
    ]

pub signs : (half width x y r d : ℕ) → half ≡ 2 ^ (width - 1) → 2 ^ width ≡ half + half → x < half + half → y < half + half → r < half + half → d ≤ 1
    → Wraps half x y d r
    → signs_tell half x y r ≡ not (int_eq (signed_of width x +ℤ signed_of width y +ℤ pos d) (signed_of width r))
signs half width x y r d is_half double x_fits y_fits r_fits one total =
    elim (cases_lt x half) [
      | inl low_x ↦ elim (cases_lt y half) [
        | inl low_y ↦ signs_positive_positive half width x y r d is_half double x_fits y_fits r_fits one total low_x low_y
        | inr high_y ↦ signs_positive_negative half width x y r d is_half double x_fits y_fits r_fits one total low_x high_y
      ]
      | inr high_x ↦ elim (cases_lt y half) [
        | inl low_y ↦ signs_negative_positive half width x y r d is_half double x_fits y_fits r_fits one total high_x low_y
        | inr high_y ↦ signs_negative_negative half width x y r d is_half double x_fits y_fits r_fits one total high_x high_y
      ]
    ]

pub wraps_32 : (x y d : ℕ) → x < 2 ^ 32 → y < 2 ^ 32 → d ≤ 1 → Wraps 2147483648 x y d ((x + y + d) % 4294967296)
wraps_32 x y d a b one = elim (cases_lt (x + y + d) 4294967296) [ inl low ↦ inl (omega arith) | inr high ↦ inr (omega arith) ]

pub wraps_64 : (x y d : ℕ) → x < 2 ^ 64 → y < 2 ^ 64 → d ≤ 1 → Wraps 9223372036854775808 x y d ((x + y + d) % 18446744073709551616)
wraps_64 x y d a b one = elim (cases_lt (x + y + d) 18446744073709551616) [ inl low ↦ inl (omega arith) | inr high ↦ inr (omega arith) ]

pub overflowed_32 : (x y d : ℕ) → x < 2 ^ 32 → y < 2 ^ 32 → d ≤ 1 →
    let r = (x + y + d) % 4294967296 in
    signs_tell 2147483648 x y r ≡ not (int_eq (signed_of 32 x +ℤ signed_of 32 y +ℤ pos d) (signed_of 32 r))
overflowed_32 x y d a b one = signs 2147483648 32 x y ((x + y + d) % 4294967296) d refl refl a b (omega arith) one (wraps_32 x y d a b one)

pub overflowed_64 : (x y d : ℕ) → x < 2 ^ 64 → y < 2 ^ 64 → d ≤ 1 →
    let r = (x + y + d) % 18446744073709551616 in
    signs_tell 9223372036854775808 x y r ≡ not (int_eq (signed_of 64 x +ℤ signed_of 64 y +ℤ pos d) (signed_of 64 r))
overflowed_64 x y d a b one = signs 9223372036854775808 64 x y ((x + y + d) % 18446744073709551616) d refl refl a b (omega arith) one (wraps_64 x y d a b one)
