-- The element of a mask, and its copies.
use Rattle.std.proofs.Common.{◌≡◌, ◌≢◌, ℕ, ◌+◌, ◌-◌, ◌*◌, ◌/◌, ◌%◌, ◌^◌, ◌<◌, zero-add, Some, None, arith, refl, ap, sym, subst, ◌∙◌, inl, inr}
use Rattle.std.proofs.lemmas.Bool.{cases_lt, cases_eq, eq-eqb, ne_eqb, lt-ltb, le-ltb}
use Rattle.std.proofs.lemmas.Nat.{pow_below, mod_below}
use Rattle.a64_bits.specs.Shifts.{rotated_right}
use Rattle.a64_bits.specs.Masks.{copies, element_of, element_size, IsMask, bit_mask_of}
use Rattle.a64_bits.proofs.ShiftLemmas.{parts_below}

pub ones_fit : (bits imms : ℕ) → 0 < bits → imms % bits ≢ bits - 1 → 2 ^ (imms % bits + 1) - 1 < 2 ^ bits
ones_fit bits imms some free =
    let below = mod_below imms bits some in
    let less = pow_below (imms % bits + 1) bits (omega arith) in
    omega arith

pub rotated_right_below : (bits amount n : ℕ) → amount < bits → n < 2 ^ bits → rotated_right bits amount n < 2 ^ bits
unfolding rotated_right
rotated_right_below bits amount n h fits = parts_below n n amount bits h fits

-- Copies in 64 bits are the copies in 32 bits, twice.
pub twice : (imms : ℕ) → IsMask 0 imms → (x : ℕ) →
    copies (element_size 0 imms) (64 / element_size 0 imms) x ≡ copies (element_size 0 imms) (32 / element_size 0 imms) x * 4294967297
twice imms free x = elim (cases_lt imms 32) [
  | inl a ↦ rw (lt-ltb imms 32 a) (omega arith)
  | inr a ↦ elim (cases_lt imms 48) [
    | inl b ↦ rw (le-ltb imms 32 a, lt-ltb imms 48 b) (omega arith)
    | inr b ↦ elim (cases_lt imms 56) [
      | inl d ↦ rw (le-ltb imms 32 a, le-ltb imms 48 b, lt-ltb imms 56 d) (omega arith)
      | inr d ↦ elim (cases_lt imms 60) [
        | inl e ↦ rw (le-ltb imms 32 a, le-ltb imms 48 b, le-ltb imms 56 d, lt-ltb imms 60 e) (omega arith)
        | inr e ↦ elim (cases_lt imms 62) [
          | inl g ↦ rw (le-ltb imms 32 a, le-ltb imms 48 b, le-ltb imms 56 d, le-ltb imms 60 e, lt-ltb imms 62 g) (omega arith)
          | inr g ↦ rw (le-ltb imms 32 a, le-ltb imms 48 b, le-ltb imms 56 d, le-ltb imms 60 e, le-ltb imms 62 g) (omega arith)
        ]
      ]
    ]
  ]
]

-- The three forms of a mask, and the two that have none.
pub reserved_none : (n imms immr size : ℕ) → (IsMask n imms → ⊥) → bit_mask_of n imms immr size ≡ None
unfolding bit_mask_of
reserved_none n imms immr size h = elim (cases_eq (imms % element_size n imms) (element_size n imms - 1)) [
  | inl e ↦ rw (eq-eqb _ _ e) refl
  | inr e ↦ absurd (h e)
]

pub wide_none : (imms immr : ℕ) → IsMask 1 imms → bit_mask_of 1 imms immr 32 ≡ None
unfolding bit_mask_of
wide_none imms immr h = rw (ne_eqb (imms % 64) 63 h) refl

pub wide_some : (imms immr : ℕ) → IsMask 1 imms → bit_mask_of 1 imms immr 64 ≡ Some (element_of 64 imms immr)
unfolding bit_mask_of
wide_some imms immr h = rw (ne_eqb (imms % 64) 63 h) (ap Some (zero-add (element_of 64 imms immr)))

pub short_some : (imms immr size : ℕ) → IsMask 0 imms →
    bit_mask_of 0 imms immr size ≡ Some (copies (element_size 0 imms) (size / element_size 0 imms) (element_of (element_size 0 imms) imms immr))
unfolding bit_mask_of
short_some imms immr size h = rw (ne_eqb (imms % element_size 0 imms) (element_size 0 imms - 1) h) refl

-- The same, by the cases of the code.
pub by_wide_none : (n imms immr size : ℕ) → IsMask n imms → n ≡ 1 → size ≡ 32 → None ≡ bit_mask_of n imms immr size
by_wide_none n imms immr size h is_n is_size =
    let mask : IsMask 1 imms = subst (λ k. IsMask k imms) is_n h in
    rw (is_n, is_size) (sym (wide_none imms immr mask))

pub by_wide_some : (n imms immr size e : ℕ) → IsMask n imms → n ≡ 1 → size ≡ 64 → e ≡ element_of 64 imms immr → Some e ≡ bit_mask_of n imms immr size
by_wide_some n imms immr size e h is_n is_size is_e =
    let mask : IsMask 1 imms = subst (λ k. IsMask k imms) is_n h in
    rw (is_n, is_size, is_e) (sym (wide_some imms immr mask))

pub by_short_32 : (n imms immr size half : ℕ) → IsMask n imms → n ≡ 0 → size ≡ 32
    → half ≡ copies (element_size 0 imms) (32 / element_size 0 imms) (element_of (element_size 0 imms) imms immr)
    → Some half ≡ bit_mask_of n imms immr size
by_short_32 n imms immr size half h is_n is_size is_half =
    let mask : IsMask 0 imms = subst (λ k. IsMask k imms) is_n h in
    rw (is_n, is_size, is_half) (sym (short_some imms immr 32 mask))

pub by_short_64 : (n imms immr size half : ℕ) → IsMask n imms → n ≡ 0 → size ≡ 64
    → half ≡ copies (element_size 0 imms) (32 / element_size 0 imms) (element_of (element_size 0 imms) imms immr)
    → Some (half * 4294967297) ≡ bit_mask_of n imms immr size
by_short_64 n imms immr size half h is_n is_size is_half =
    let mask : IsMask 0 imms = subst (λ k. IsMask k imms) is_n h in
    rw (is_n, is_size, is_half) (sym (short_some imms immr 64 mask ∙ ap Some (twice imms mask (element_of (element_size 0 imms) imms immr))))
