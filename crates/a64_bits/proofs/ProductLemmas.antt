-- The upper half of a signed product.
use Rattle.std.proofs.Common.{◌≡◌, ℕ, suc, ◌+◌, ◌-◌, ◌*◌, ◌/◌, ◌%◌, ◌^◌, ◌<◌, ◌≤◌, pos, neg_ℤ, true, arith, refl, ap, sym, ◌∙◌, inl, inr}
use Rattle.std.proofs.Math.Nat.{mul-add, add-mul, mul_comm, zero-mul, mul-pos, mul-lt-mul_of_pos_right}
use Rattle.std.proofs.lemmas.Bool.{cases_eq}
use Rattle.a64_bits.specs.Fields.{twos_complement}
use Rattle.a64_bits.specs.Products.{high_product}
use Rattle.a64_bits.proofs.FieldLemmas.{signed_of_small, signed_of_large}
use Rattle.a64_bits.proofs.MoveLemmas.{twos_complement-neg}

abbrev N : ℕ
N = 18446744073709551616

-- x times a negative number, whose bits are y and whose magnitude is b
times_negative : (x y b : ℕ) → b + y ≡ N → 0 < b → y < N → x < N → twos_complement 128 (neg_ℤ (pos (x * b))) / N ≡ (x * y / N + (N - x)) % N
times_negative x y b e some_b below x_fits = elim (cases_eq x 0) [
  | inl none ↦ rw (none, zero-mul b, zero-mul y) refl
  | inr some ↦
      let spread : x * (b + y) ≡ x * b + x * y = mul-add x b y in
      let same : x * (b + y) ≡ x * N = ap (λ n. x * n) e in
      let positive : 0 < x * b = mul-pos (omega arith) some_b in
      rw (twos_complement-neg 128 (x * b) positive) (omega arith)
]

magnitude : (y : ℕ) → 9223372036854775808 ≤ y → y < N → suc (2 ^ 64 - (y + 1)) + y ≡ N
magnitude y high below = omega arith

pub high_product-positive : (x y : ℕ) → x < 9223372036854775808 → y < 9223372036854775808 → x * y / N ≡ high_product x y true
unfolding high_product
high_product-positive x y low_x low_y = rw (signed_of_small 64 x low_x, signed_of_small 64 y low_y) refl

pub high_product-second : (x y : ℕ) → x < 9223372036854775808 → 9223372036854775808 ≤ y → y < N → (x * y / N + (N - x)) % N ≡ high_product x y true
unfolding high_product
high_product-second x y low_x high_y y_fits =
    let e = times_negative x y (suc (2 ^ 64 - (y + 1))) (magnitude y high_y y_fits) (omega arith) y_fits (omega arith) in
    rw (signed_of_small 64 x low_x, signed_of_large 64 y high_y) (sym e)

pub high_product-first : (x y : ℕ) → 9223372036854775808 ≤ x → x < N → y < 9223372036854775808 → (x * y / N + (N - y)) % N ≡ high_product x y true
unfolding high_product
high_product-first x y high_x x_fits low_y =
    let a = suc (2 ^ 64 - (x + 1)) in
    let e = times_negative y x a (magnitude x high_x x_fits) (omega arith) x_fits (omega arith) in
    rw (signed_of_large 64 x high_x, signed_of_small 64 y low_y)
    (ap (λ n. (n / N + (N - y)) % N) (mul_comm x y) ∙ (sym e ∙ ap (λ n. twos_complement 128 (neg_ℤ (pos n)) / N) (mul_comm y a)))

both_negative : (x y a b : ℕ) → a + x ≡ N → b + y ≡ N → x < N → y < N → 0 < x → 0 < y →
    ((x * y / N + (N - y)) % N + (N - x)) % N ≡ a * b / N
both_negative x y a b e f x_fits y_fits some_x some_y =
    let with_x : a * b + x * b ≡ N * b = sym (add-mul a x b) ∙ ap (λ n. n * b) e in
    let with_y : x * b + x * y ≡ x * N = sym (mul-add x b y) ∙ ap (λ n. x * n) f in
    let below_y : x * y < N * y = mul-lt-mul_of_pos_right x_fits some_y in
    omega arith

pub high_product-negative : (x y : ℕ) → 9223372036854775808 ≤ x → x < N → 9223372036854775808 ≤ y → y < N →
    ((x * y / N + (N - y)) % N + (N - x)) % N ≡ high_product x y true
unfolding high_product
high_product-negative x y high_x x_fits high_y y_fits =
    rw (signed_of_large 64 x high_x, signed_of_large 64 y high_y)
    (both_negative x y _ _ (magnitude x high_x x_fits) (magnitude y high_y y_fits) x_fits y_fits (omega arith) (omega arith))
