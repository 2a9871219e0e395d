use Rattle.std.proofs.Common.{◌≡◌, ℕ, ◌+◌, ◌-◌, ◌*◌, ◌%◌, ◌^◌, ◌<◌, ◌≤◌, bit_and, ℤ, pos, negsuc, ◌-ℤ◌, to_z, of_z, w32, arith, ap, inl, inr, if◌then◌else◌, sym, subst, ◌∙◌}
use Rattle.std.proofs.lemmas.Nat.{and_mask, one_shl, pow-add}
use Rattle.std.proofs.lemmas.Int.{ints}
use Rattle.std.proofs.lemmas.Bool.{cases_lt, lt-ltb, le-ltb}
use Rattle.a64_bits.specs.Fields.{signed_of, FitsSignedField, twos_complement}

-- `1 << width` does not wrap
pub one_shifted : (width : ℕ) → width < 32 → 1 * 2 ^ width % 4294967296 ≡ 2 ^ width
one_shifted width h = one_shl width 32 h

-- `n & ((1 << width) - 1)`
pub masked : (n width : ℕ) → width < 32 → bit_and n (1 * 2 ^ width % 4294967296 - 1) ≡ n % 2 ^ width
masked n width h = rw (one_shifted width h) (and_mask n width)

pub doubled : (width : ℕ) → 0 < width → 2 ^ width ≡ 2 ^ (width - 1) + 2 ^ (width - 1)
doubled width h =
    let e : width ≡ (width - 1) + 1 = omega arith in
    ap (λ k. 2 ^ k) e ∙ (pow-add 2 (width - 1) 1 ∙ omega arith)

pub signed_of_small : (width n : ℕ) → n < 2 ^ (width - 1) → signed_of width n ≡ pos n
signed_of_small width n h = ap (λ t. if t then pos n else negsuc (2 ^ width - (n + 1))) (lt-ltb n (2 ^ (width - 1)) h)

pub signed_of_large : (width n : ℕ) → 2 ^ (width - 1) ≤ n → signed_of width n ≡ negsuc (2 ^ width - (n + 1))
signed_of_large width n h = ap (λ t. if t then pos n else negsuc (2 ^ width - (n + 1))) (le-ltb n (2 ^ (width - 1)) h)

-- there and back
pub signed_of-twos_complement : (width : ℕ) → 0 < width → (z : ℤ) → FitsSignedField width z → signed_of width (twos_complement width z) ≡ z
signed_of-twos_complement width some (pos n) h = signed_of_small width n h
signed_of-twos_complement width some (negsuc n) h =
    let double = doubled width some in
    signed_of_large width (2 ^ width - (n + 1)) (omega arith) ∙ ap negsuc (omega arith)

pub twos_complement-lt : (width : ℕ) → 0 < width → (z : ℤ) → FitsSignedField width z → twos_complement width z < 2 ^ width
twos_complement-lt width some (pos n) h = let double = doubled width some in omega arith
twos_complement-lt width some (negsuc n) h = let double = doubled width some in omega arith

pub twos_complement-signed_of : (width : ℕ) → (n : ℕ) → n < 2 ^ width → twos_complement width (signed_of width n) ≡ n
twos_complement-signed_of width n h = elim (cases_lt n (2 ^ (width - 1))) [
  | inl low ↦ ap (twos_complement width) (signed_of_small width n low)
  | inr high ↦ ap (twos_complement width) (signed_of_large width n high) ∙ omega arith
]

pub FitsSignedField-signed_of : (width : ℕ) → 0 < width → (n : ℕ) → n < 2 ^ width → FitsSignedField width (signed_of width n)
FitsSignedField-signed_of width some n h =
    let double = doubled width some in
    elim (cases_lt n (2 ^ (width - 1))) [
      | inl low ↦ subst (FitsSignedField width) (sym (signed_of_small width n low)) low
      | inr high ↦ subst (FitsSignedField width) (sym (signed_of_large width n high)) (omega arith)
    ]

-- `bits - half - half` at 32 bits
pub computed : (b h : ℕ) → h ≤ b → b < h + h → h + h ≤ 2147483648 →
    to_z w32 (of_z w32 (to_z w32 (of_z w32 (to_z w32 b -ℤ to_z w32 h)) -ℤ to_z w32 h)) ≡ negsuc (h + h - (b + 1))
computed b h low high fits = omega (arith, ints)
