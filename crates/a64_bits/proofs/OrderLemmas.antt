-- Digits in the opposite order.
use Rattle.std.proofs.Common.{◌≡◌, ℕ, zero, suc, ◌+◌, ◌*◌, ◌/◌, ◌%◌, ◌^◌, ◌<◌, ◌≤◌, arith, ap, sym, subst, ◌∙◌, refl, inl, inr, true, eqb, slice_index_or}
use Rattle.std.proofs.Math.Nat.{pow-suc, mul_assoc, add-mul}
use Rattle.std.proofs.lemmas.Bool.{agree_below_at, eqb-true}
use Rattle.std.proofs.lemmas.Nat.{pow-add}
use native.Mathlib.Nat.{div-div-eq-div-mul, mul_comm}
use Rattle.a64_bits.specs.declared.bit_orders.TheConstants.{REVERSED}
use Rattle.a64_bits.specs.Arithmetic.{IsRegisterSize}
use Rattle.a64_bits.specs.BitOrders.{reversed_digits, each_digit, reversed_bits, reversed_bytes}

-- The table has each byte with its bits in the opposite order.
table : (b : ℕ) → b < 256 → slice_index_or REVERSED b 0 ≡ reversed_digits 2 8 b
table b h =
    eqb-true (slice_index_or REVERSED b 0) (reversed_digits 2 8 b) (agree_below_at (λ k. eqb (slice_index_or REVERSED k 0) (reversed_digits 2 8 k)) (λ _. true) 256 b refl h)

pub reversed_byte : (x : ℕ) → slice_index_or REVERSED (x % 256) 0 ≡ reversed_digits 2 8 x
reversed_byte x = table (x % 256) (omega arith) ∙ omega arith

-- The digits below come first.
parts : (m n x : ℕ) → reversed_digits 2 (m + n) x ≡ reversed_digits 2 m x * 2 ^ n + reversed_digits 2 n (x / 2 ^ m)
parts zero n x =
    let same : x / 2 ^ 0 ≡ x = omega arith in
    ap (λ k. reversed_digits 2 k x) (omega arith) ∙ ap (reversed_digits 2 n) (sym same) ∙ omega arith
parts (suc m) n x =
    let rest = parts m n (x / 2) in
    let place : x / 2 / 2 ^ m ≡ x / 2 ^ suc m = div-div-eq-div-mul x 2 (2 ^ m) ∙ ap (λ p. x / p) (sym (pow-suc 2 m ∙ mul_comm (2 ^ m) 2)) in
    let power : x % 2 * 2 ^ (m + n) ≡ x % 2 * 2 ^ m * 2 ^ n = ap (λ p. x % 2 * p) (pow-add 2 m n) ∙ sym (mul_assoc (x % 2) (2 ^ m) (2 ^ n)) in
    let moved = ap (λ k. reversed_digits 2 m (x / 2) * 2 ^ n + reversed_digits 2 n k) place in
    let sum = add-mul (x % 2 * 2 ^ m) (reversed_digits 2 m (x / 2)) (2 ^ n) in
    let more : suc m + n ≡ suc (m + n) = omega arith in
    ap (λ k. reversed_digits 2 k x) more ∙ omega (arith, power, rest, moved, sum)

sum_of_four : (a b c d first second third : ℕ) → a < 256 → b < 256 → c < 256 → d < 256 → first ≡ a * 16777216 + second → second ≡ b * 65536 + third → third ≡ c * 256 + d
    → (a * 256 % 18446744073709551616 + b) * 65536 % 18446744073709551616 + (c * 256 % 18446744073709551616 + d) ≡ first
sum_of_four a b c d first second third ha hb hc hd e f g = omega arith

-- A word is its four bytes, each in the opposite order, the lowest first.
pub reversed_four : (x a b c d : ℕ) → a < 256 → b < 256 → c < 256 → d < 256 → a ≡ reversed_digits 2 8 x → b ≡ reversed_digits 2 8 (x / 256) → c ≡ reversed_digits 2 8 (x / 65536) → d ≡ reversed_digits 2 8 (x / 16777216)
    → (a * 256 % 18446744073709551616 + b) * 65536 % 18446744073709551616 + (c * 256 % 18446744073709551616 + d) ≡ reversed_digits 2 32 x
reversed_four x a b c d ha hb hc hd is_a is_b is_c is_d =
    let second : x / 256 / 256 ≡ x / 65536 = div-div-eq-div-mul x 256 256 in
    let third : x / 65536 / 256 ≡ x / 16777216 = div-div-eq-div-mul x 65536 256 in
    let r1 : reversed_digits 2 32 x ≡ a * 16777216 + reversed_digits 2 24 (x / 256) =
    parts 8 24 x ∙ ap (λ k. k * 16777216 + reversed_digits 2 24 (x / 256)) (sym is_a) in
    let r2 : reversed_digits 2 24 (x / 256) ≡ b * 65536 + reversed_digits 2 16 (x / 65536) =
    parts 8 16 (x / 256) ∙ ap (λ k. k * 65536 + reversed_digits 2 16 (x / 256 / 256)) (sym is_b) ∙ ap (λ k. b * 65536 + reversed_digits 2 16 k) second in
    let r3 : reversed_digits 2 16 (x / 65536) ≡ c * 256 + d =
    parts 8 8 (x / 65536) ∙ ap (λ k. k * 256 + reversed_digits 2 8 (x / 65536 / 256)) (sym is_c) ∙ ap (λ k. c * 256 + k) (ap (reversed_digits 2 8) third ∙ sym is_d) in
    sum_of_four a b c d (reversed_digits 2 32 x) (reversed_digits 2 24 (x / 256)) (reversed_digits 2 16 (x / 65536)) ha hb hc hd r1 r2 r3

pub reversed_word : (size x a : ℕ) → size ≡ 32 → a ≡ reversed_digits 2 32 x → a ≡ reversed_bits size x
unfolding reversed_bits
reversed_word size x a e is_a = is_a ∙ ap (λ k. reversed_digits 2 k x) (sym e)

pub doubleword_size : (size : ℕ) → IsRegisterSize size → ¬ (size ≡ 32) → size ≡ 64
doubleword_size size (inl e) n = absurd (n e)
doubleword_size size (inr e) n = e

sum_of_two : (a b whole : ℕ) → a < 2 ^ 32 → whole ≡ a * 4294967296 + b → a * 4294967296 % 18446744073709551616 + b ≡ whole
sum_of_two a b whole below e = omega arith

pub reversed_doubleword : (size x a b : ℕ) → size ≡ 64 → a ≡ reversed_digits 2 32 x → b ≡ reversed_digits 2 32 (x / 4294967296) → a < 2 ^ 32
    → a * 4294967296 % 18446744073709551616 + b ≡ reversed_bits size x
unfolding reversed_bits
reversed_doubleword size x a b e is_a is_b below =
    let whole : reversed_digits 2 64 x ≡ a * 4294967296 + b =
    parts 32 32 x ∙ ap (λ k. k * 4294967296 + reversed_digits 2 32 (x / 4294967296)) (sym is_a) ∙ ap (λ k. a * 4294967296 + k) (sym is_b) in
    sum_of_two a b (reversed_digits 2 64 x) below whole ∙ ap (λ k. reversed_digits 2 k x) (sym e)

-- ---- bytes

pub by_two : (group size x a b : ℕ) → IsRegisterSize size → group ≡ 2 → x < 2 ^ size
    → a ≡ each_digit (reversed_digits 256 2) 65536 2 (x % 4294967296) → b ≡ each_digit (reversed_digits 256 2) 65536 2 (x / 4294967296) → b < 2 ^ 32
    → a + b * 4294967296 % 18446744073709551616 ≡ reversed_bytes group size x
unfolding reversed_bytes
by_two group size x a b (inl e) is_group fits is_a is_b below =
    let bound : x < 2 ^ 32 = subst (λ k. x < 2 ^ k) e fits in
    rw (is_group, e) (omega arith)
by_two group size x a b (inr e) is_group fits is_a is_b below =
    let bound : x < 2 ^ 64 = subst (λ k. x < 2 ^ k) e fits in
    rw (is_group, e) (omega arith)

pub by_four : (group size x a b : ℕ) → IsRegisterSize size → group ≡ 4 → x < 2 ^ size
    → a ≡ reversed_digits 256 4 (x % 4294967296) → b ≡ reversed_digits 256 4 (x / 4294967296) → b < 2 ^ 32
    → a + b * 4294967296 % 18446744073709551616 ≡ reversed_bytes group size x
unfolding reversed_bytes
by_four group size x a b (inl e) is_group fits is_a is_b below =
    let bound : x < 2 ^ 32 = subst (λ k. x < 2 ^ k) e fits in
    rw (is_group, e) (omega arith)
by_four group size x a b (inr e) is_group fits is_a is_b below =
    let bound : x < 2 ^ 64 = subst (λ k. x < 2 ^ k) e fits in
    rw (is_group, e) (omega arith)

pub by_eight : (group size x a b : ℕ) → IsRegisterSize size → group ≡ 8 → 8 * group ≤ size → x < 2 ^ size
    → a ≡ reversed_digits 256 4 (x % 4294967296) → b ≡ reversed_digits 256 4 (x / 4294967296) → a < 2 ^ 32
    → a * 4294967296 % 18446744073709551616 + b ≡ reversed_bytes group size x
unfolding reversed_bytes
by_eight group size x a b (inl e) is_group room fits is_a is_b below = absurd (omega arith)
by_eight group size x a b (inr e) is_group room fits is_a is_b below =
    let bound : x < 2 ^ 64 = subst (λ k. x < 2 ^ k) e fits in
    rw (is_group, e) (omega arith)
