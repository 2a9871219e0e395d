-- The sequence of random bits, its recurrence, and the seed as a window on it.
use Rattle.std.proofs.Common.{◌≡◌, ℕ, zero, suc, ◌+◌, ◌*◌, ◌-◌, ◌/◌, ◌%◌, ◌^◌, ◌<◌, [], ◌∷◌, length, slice_index, refl, sym, ap, ◌∙◌, inl, inr, arith, length-append, mul_assoc}
use Rattle.std.proofs.lemmas.Bool.{cases_lt}
use Rattle.std.proofs.Math.Nat.{pow-succ'}
use Rattle.std.proofs.lemmas.Nat.{mod-pow-add}
use Rattle.std.proofs.lemmas.Nat.Bits.{bit_at_lowest, bit_at-suc, bit_at_xor}
use Rattle.std.specs.Int.{bit_at}
use Rattle.std.specs.Prelude.{bit_xor}
use Rattle.std.proofs.lemmas.List.{get_or_append_left, get_or_at}
use Rattle.std.proofs.lemmas.List.FromFn.{get_or-map-range_with_len, length-map-range_with_len}
use Rattle.mte_tags.specs.RandomTags.{bits_before, next_bit, random_bit, random_number, offset_of, seed_after}

long : (s n : ℕ) → length (bits_before s n) ≡ 16 + n
long s zero = length-map-range_with_len (λ i. s / 2 ^ i % 2) 0 16
long s (suc n) = omega (arith, length-append (bits_before s n) (next_bit (bits_before s n) n ∷ []), long s n)

-- later bits leave the earlier ones
earlier : (s n k i : ℕ) → i < 16 + n → slice_index (bits_before s (k + n)) i ≡ slice_index (bits_before s n) i
earlier s n zero i h = let e : 0 + n ≡ n = omega arith in ap (λ j. slice_index (bits_before s j) i) e
earlier s n (suc k) i h =
    let e : suc k + n ≡ suc (k + n) = omega arith in
    let bits = bits_before s (k + n) in
    let l : i < length bits = omega (arith, long s (k + n)) in
    ap (λ j. slice_index (bits_before s j) i) e ∙ get_or_append_left bits (next_bit bits (k + n) ∷ []) 0 i l ∙ earlier s n k i h

pub random_bit_in : (s n i : ℕ) → i < 16 + n → slice_index (bits_before s n) i ≡ random_bit s i
unfolding random_bit
random_bit_in s n i h =
    elim (cases_lt n i) [
      | inl a ↦
          let e : i - n + n ≡ i = omega arith in
          sym (ap (λ j. slice_index (bits_before s j) i) (sym e) ∙ earlier s n (i - n) i h)
      | inr b ↦
          let e : n ≡ n - i + i = omega arith in
          ap (λ j. slice_index (bits_before s j) i) e ∙ earlier s i (n - i) i (omega arith)
    ]

-- the seed's own bits
pub random_bit_low : (s i : ℕ) → i < 16 → random_bit s i ≡ s / 2 ^ i % 2
random_bit_low s i h = sym (random_bit_in s 0 i (omega arith)) ∙ get_or-map-range_with_len (λ j. s / 2 ^ j % 2) 0 16 i i 0 h (omega arith)

-- each further bit
pub random_bit_next : (s i : ℕ) → random_bit s (i + 16) ≡ (random_bit s i + random_bit s (i + 2) + random_bit s (i + 3) + random_bit s (i + 5)) % 2
random_bit_next s i =
    let bits = bits_before s i in
    let at : length bits ≡ i + 16 = omega (arith, long s i) in
    let in0 : slice_index bits i ≡ random_bit s i = random_bit_in s i i (omega arith) in
    let in2 : slice_index bits (i + 2) ≡ random_bit s (i + 2) = random_bit_in s i (i + 2) (omega arith) in
    let in3 : slice_index bits (i + 3) ≡ random_bit s (i + 3) = random_bit_in s i (i + 3) (omega arith) in
    let in5 : slice_index bits (i + 5) ≡ random_bit s (i + 5) = random_bit_in s i (i + 5) (omega arith) in
    sym (random_bit_in s (suc i) (i + 16) (omega arith))
    ∙ get_or_at bits (next_bit bits i) [] 0 (i + 16) at
    ∙ rw (in0, in2, in3, in5) refl

pub bit_small : (s i : ℕ) → random_bit s i < 2
bit_small s i = elim (cases_lt i 16) [
  | inl a ↦ omega (arith, random_bit_low s i a)
  | inr b ↦
      let e : i ≡ i - 16 + 16 = omega arith in
      let f : random_bit s i ≡ random_bit s (i - 16 + 16) = ap (random_bit s) e in
      omega (arith, f, random_bit_next s (i - 16))
]

number_more : (s k n : ℕ) → random_number s k (n + 1) ≡ random_number s k n + 2 ^ n * random_bit s (k + n)
unfolding random_number
number_more s k zero = let e : k + 0 ≡ k = omega arith in rw e (omega arith)
number_more s k (suc n) =
    let e : suc n + 1 ≡ suc (n + 1) = omega arith in
    let f : k + 1 + n ≡ k + suc n = omega arith in
    let rest = number_more s (k + 1) n in
    let p : 2 ^ suc n * random_bit s (k + suc n) ≡ 2 * (2 ^ n * random_bit s (k + suc n)) = ap (λ x. x * random_bit s (k + suc n)) (pow-succ' 2 n) ∙ mul_assoc 2 (2 ^ n) (random_bit s (k + suc n)) in
    let g : 2 ^ n * random_bit s (k + 1 + n) ≡ 2 ^ n * random_bit s (k + suc n) = ap (λ j. 2 ^ n * random_bit s j) f in
    ap (random_number s k) e ∙ omega (arith, rest, p, g)

number_of_bits : (s x k n : ℕ) → ((i : ℕ) → i < n → random_bit s (k + i) ≡ bit_at x i) → random_number s k n ≡ x % 2 ^ n
unfolding random_number
number_of_bits s x k zero h = omega arith
number_of_bits s x k (suc n) h =
    let e : suc n ≡ n + 1 = omega arith in
    let rest : random_number s (k + 1) n ≡ x / 2 % 2 ^ n =
    number_of_bits s (x / 2) (k + 1) n (λ i l. let f : k + 1 + i ≡ k + suc i = omega arith in ap (random_bit s) f ∙ h (suc i) (omega arith) ∙ bit_at-suc x i) in
    let low : random_bit s k ≡ x % 2 = let f : k ≡ k + 0 = omega arith in ap (random_bit s) f ∙ h 0 (omega arith) ∙ bit_at_lowest x in
    ap (λ b. b + 2 * random_number s (k + 1) n) low ∙ ap (λ r. x % 2 + 2 * r) rest ∙ sym (ap (λ j. x % 2 ^ j) e ∙ mod-pow-add x n 1 ∙ omega arith)

bit_of_number : (s k n i : ℕ) → i < n → bit_at (random_number s k n) i ≡ random_bit s (k + i)
unfolding random_number
bit_of_number s k zero i h = absurd (omega arith)
bit_of_number s k (suc n) zero h =
    let e : k + 0 ≡ k = omega arith in
    bit_at_lowest (random_bit s k + 2 * random_number s (k + 1) n) ∙ rw e (omega (arith, bit_small s k))
bit_of_number s k (suc n) (suc i) h =
    let f : k + 1 + i ≡ k + suc i = omega arith in
    let half : (random_bit s k + 2 * random_number s (k + 1) n) / 2 ≡ random_number s (k + 1) n = omega (arith, bit_small s k) in
    bit_at-suc (random_bit s k + 2 * random_number s (k + 1) n) i ∙ ap (λ x. bit_at x i) half ∙ bit_of_number s (k + 1) n i (omega arith) ∙ ap (random_bit s) f

-- the seed after k bits gives the bits from k on
window_to : (s k n i : ℕ) → i < n → random_bit (random_number s k 16) i ≡ random_bit s (k + i)
window_to s k zero i h = absurd (omega arith)
window_to s k (suc n) i h =
    let w = random_number s k 16 in
    elim (cases_lt i 16) [
      | inl a ↦ random_bit_low w i a ∙ bit_of_number s k 16 i a
      | inr b ↦
          let j = i - 16 in
          let e : i ≡ i - 16 + 16 = omega arith in
          let f : k + (i - 16) + 16 ≡ k + i = omega arith in
          let e2 : k + (i - 16 + 2) ≡ k + (i - 16) + 2 = omega arith in
          let e3 : k + (i - 16 + 3) ≡ k + (i - 16) + 3 = omega arith in
          let e5 : k + (i - 16 + 5) ≡ k + (i - 16) + 5 = omega arith in
          let b0 : random_bit w (i - 16) ≡ random_bit s (k + (i - 16)) = window_to s k n (i - 16) (omega arith) in
          let b2 : random_bit w (i - 16 + 2) ≡ random_bit s (k + (i - 16) + 2) = window_to s k n (i - 16 + 2) (omega arith) ∙ ap (random_bit s) e2 in
          let b3 : random_bit w (i - 16 + 3) ≡ random_bit s (k + (i - 16) + 3) = window_to s k n (i - 16 + 3) (omega arith) ∙ ap (random_bit s) e3 in
          let b5 : random_bit w (i - 16 + 5) ≡ random_bit s (k + (i - 16) + 5) = window_to s k n (i - 16 + 5) (omega arith) ∙ ap (random_bit s) e5 in
          ap (random_bit w) e ∙ random_bit_next w (i - 16) ∙ rw (b0, b2, b3, b5) (sym (random_bit_next s (k + (i - 16)))) ∙ ap (random_bit s) f
    ]

pub window : (s k i : ℕ) → random_bit (random_number s k 16) i ≡ random_bit s (k + i)
window s k i = window_to s k (i + 1) i (omega arith)

-- a number of bits after the first k
pub window_number : (s k j n : ℕ) → random_number (random_number s k 16) j n ≡ random_number s (k + j) n
unfolding random_number
window_number s k j zero = refl
window_number s k j (suc n) =
    let e : k + (j + 1) ≡ k + j + 1 = omega arith in
    ap (λ b. b + 2 * random_number (random_number s k 16) (j + 1) n) (window s k j) ∙ ap (λ r. random_bit s (k + j) + 2 * r) (window_number s k (j + 1) n ∙ ap (λ x. random_number s x n) e)

-- ---- four bits at once

by_2 : (s i : ℕ) → bit_at (s / 4) i ≡ bit_at s (i + 2)
by_2 s i = let e : s / 4 ≡ s / 2 / 2 = omega arith in let f : suc (suc i) ≡ i + 2 = omega arith in ap (λ x. bit_at x i) e ∙ sym (bit_at-suc (s / 2) i) ∙ sym (bit_at-suc s (suc i)) ∙ ap (bit_at s) f

by_1 : (s i : ℕ) → bit_at (s / 2) i ≡ bit_at s (i + 1)
by_1 s i = let f : suc i ≡ i + 1 = omega arith in sym (bit_at-suc s i) ∙ ap (bit_at s) f

by_3 : (s i : ℕ) → bit_at (s / 8) i ≡ bit_at s (i + 3)
by_3 s i = let e : s / 8 ≡ s / 2 / 4 = omega arith in let f : i + 2 + 1 ≡ i + 3 = omega arith in ap (λ x. bit_at x i) e ∙ by_2 (s / 2) i ∙ by_1 s (i + 2) ∙ ap (bit_at s) f

by_4 : (s i : ℕ) → bit_at (s / 16) i ≡ bit_at s (i + 4)
by_4 s i = let e : s / 16 ≡ s / 4 / 4 = omega arith in let f : i + 2 + 2 ≡ i + 4 = omega arith in ap (λ x. bit_at x i) e ∙ by_2 (s / 4) i ∙ by_2 s (i + 2) ∙ ap (bit_at s) f

by_5 : (s i : ℕ) → bit_at (s / 32) i ≡ bit_at s (i + 5)
by_5 s i = let e : s / 32 ≡ s / 2 / 16 = omega arith in let f : i + 4 + 1 ≡ i + 5 = omega arith in ap (λ x. bit_at x i) e ∙ by_4 (s / 2) i ∙ by_1 s (i + 4) ∙ ap (bit_at s) f

abbrev pub mixed : ℕ → ℕ
mixed s = bit_xor (bit_xor (bit_xor s (s / 4)) (s / 8)) (s / 32)

mixed_bit : (s i : ℕ) → i < 8 → random_bit s (16 + i) ≡ bit_at (mixed s) i
mixed_bit s i h =
    let f : 16 + i ≡ i + 16 = omega arith in
    let b0 = random_bit_low s i (omega arith) in
    let b2 = random_bit_low s (i + 2) (omega arith) in
    let b3 = random_bit_low s (i + 3) (omega arith) in
    let b5 = random_bit_low s (i + 5) (omega arith) in
    let x1 = bit_at_xor s (s / 4) i in
    let x2 = bit_at_xor (bit_xor s (s / 4)) (s / 8) i in
    let x3 = bit_at_xor (bit_xor (bit_xor s (s / 4)) (s / 8)) (s / 32) i in
    ap (random_bit s) f ∙ random_bit_next s i ∙ omega (arith, b0, b2, b3, b5, x1, x2, x3, by_2 s i, by_3 s i, by_5 s i)

pub four_bits : (s : ℕ) → offset_of s 0 ≡ mixed s % 16
four_bits s = number_of_bits s (mixed s) 16 4 (λ i l. mixed_bit s i (omega arith))

pub four_later : (s : ℕ) → s < 2 ^ 16 → seed_after s 1 ≡ s / 16 + 4096 * (mixed s % 16)
unfolding random_number
four_later s h =
    let low : random_number s 4 12 ≡ s / 16 % 2 ^ 12 =
    number_of_bits s (s / 16) 4 12 (λ i l. let f : 4 + i ≡ i + 4 = omega arith in ap (random_bit s) f ∙ random_bit_low s (i + 4) (omega arith) ∙ sym (by_4 s i)) in
    omega (arith, low, number_more s 4 12, number_more s 4 13, number_more s 4 14, number_more s 4 15, four_bits s)

pub seed_after_next : (s d : ℕ) → seed_after (seed_after s d) 1 ≡ seed_after s (d + 1)
seed_after_next s d = let e : 4 * d + 4 ≡ 4 * (d + 1) = omega arith in window_number s (4 * d) 4 16 ∙ ap (λ k. random_number s k 16) e

pub offset_of_next : (s d : ℕ) → offset_of (seed_after s d) 0 ≡ offset_of s d
offset_of_next s d = let e : 4 * d + 16 ≡ 16 + 4 * d = omega arith in window_number s (4 * d) 16 4 ∙ ap (λ k. random_number s k 4) e
