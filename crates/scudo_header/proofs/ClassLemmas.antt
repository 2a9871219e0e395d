-- What the sizes of the classes are, by their table.
use Rattle.std.proofs.Common.{◌≡◌, ℕ, zero, suc, ◌+◌, ◌-◌, ◌*◌, ◌/◌, ◌%◌, ◌^◌, ◌<◌, ◌≤◌, ◌==◌, ◌&&◌, ◌||◌, Bool, true, false, cond, nat_le, nat_lt, List, [], ◌∷◌, Some, None, refl, sym, ap, subst, ◌∙◌, inl, inr, arith, eq-eqb, lit<}
use Rattle.std.specs.Prelude.{slice_index}
use Rattle.std.specs.List.{find, range_with_len}
use Rattle.std.proofs.lemmas.Bool.{cases_eq, cases_lt, cond-true, cond-false}
use Rattle.std.proofs.lemmas.Bool.Decides.{nat_tests}
use Rattle.std.proofs.lemmas.Nat.{pow-add, pow_pos, div-mul-add}
use Rattle.std.proofs.Math.Nat.{div-le_self, mul-le-mul, mul-mod_left, pow-le-pow_right, le-div_iff_mul-le, div-lt_iff_lt-mul, mul-div-le, lt-mul-div-succ}
use Rattle.scudo_header.specs.declared.config.TheConstants.{CLASSES, LARGEST_CLASS_SIZE}
use Rattle.scudo_header.specs.Classes.{size_of, power_below, IsLeastClass, class_for}

-- a test holds of each number below n
abbrev pub all_below : (ℕ → Bool) → ℕ → Bool
all_below f zero = true
all_below f (suc n) = f n && all_below f n

and_left : (a b : Bool) → (a && b) ≡ true → a ≡ true
and_left true b h = refl
and_left false b h = h

and_right : (a b : Bool) → (a && b) ≡ true → b ≡ true
and_right true b h = h
and_right false b h = cc

pub below-true : (n : ℕ) (f : ℕ → Bool) → all_below f n ≡ true → (c : ℕ) → c < n → f c ≡ true
below-true zero f h c l = absurd (omega arith)
below-true (suc n) f h c l = elim (cases_eq c n) [
  | inl e ↦ ap f e ∙ and_left (f n) (all_below f n) h
  | inr d ↦ below-true n f (and_right (f n) (all_below f n) h) c (omega arith)
]

abbrev sizes : List ℕ
sizes = 0 ∷ 32 ∷ 64 ∷ 96 ∷ 128 ∷ 160 ∷ 192 ∷ 224 ∷ 256 ∷ 320 ∷ 384 ∷ 448 ∷ 512 ∷ 640 ∷ 768 ∷ 896 ∷ 1024 ∷ 1280 ∷ 1536 ∷ 1792 ∷ 2048 ∷ 2560 ∷
    3072 ∷ 3584 ∷ 4096 ∷ 5120 ∷ 6144 ∷ 7168 ∷ 8192 ∷ 10240 ∷ 12288 ∷ 14336 ∷ 16384 ∷ 20480 ∷ 24576 ∷ 28672 ∷ 32768 ∷ 40960 ∷ 49152 ∷
    57344 ∷ 65536 ∷ 81920 ∷ 98304 ∷ 114688 ∷ 131072 ∷ []

abbrev size_now : ℕ → ℕ
size_now c = cond (nat_le c 8) (32 * c) (power_below (c - 8) + power_below (c - 8) / 4 * ((c - 8) % 4))

pub size_of-table : (c : ℕ) → c ≤ CLASSES → slice_index sizes c ≡ size_of c
unfolding size_of
size_of-table c b = let h : c < 45 = omega arith in let t = below-true 45 (λ k. slice_index sizes k == size_now k) refl c h in grind (arith, nat_tests)

-- what is known of the size of a class
pub record IsSize (s : ℕ) : Type 0 where
  pub least : 32 ≤ s
  pub most : s ≤ LARGEST_CLASS_SIZE
  pub multiple : s % 32 ≡ 0

pub size_of-IsSize : (c : ℕ) → 0 < c → c ≤ CLASSES → IsSize (size_of c)
unfolding size_of
size_of-IsSize c p b =
    let h : c < 45 = omega arith in
    let a : (c == 0 || nat_le 32 (size_now c)) ≡ true = below-true 45 (λ k. k == 0 || nat_le 32 (size_now k)) refl c h in
    let b : nat_le (size_now c) 131072 ≡ true = below-true 45 (λ k. nat_le (size_now k) 131072) refl c h in
    let d : (size_now c % 32 == 0) ≡ true = below-true 45 (λ k. size_now k % 32 == 0) refl c h in
    record { least = grind (arith, nat_tests); most = grind (arith, nat_tests); multiple = grind (arith, nat_tests) }

pub table-IsSize : (c : ℕ) → 0 < c → c ≤ CLASSES → IsSize (slice_index sizes c)
table-IsSize c p h = subst IsSize (sym (size_of-table c h)) (size_of-IsSize c p h)

-- ---- the least class

pub size_of-units : (c : ℕ) → c ≤ 8 → size_of c ≡ 32 * c
unfolding size_of
size_of-units c h = let t : nat_le c 8 ≡ true = grind (arith, nat_tests) in cond-true _ _ _ t

-- s quarters above a power of two
size_at : (i : ℕ) → i < 45 → size_of (8 + 4 * (i / 5) + i % 5) ≡ 2 ^ (i / 5 + 6) * (i % 5 + 4)
unfolding size_of
size_at i h =
    let t : (size_now (8 + 4 * (i / 5) + i % 5) == 2 ^ (i / 5 + 6) * (i % 5 + 4)) ≡ true = below-true 45 (λ k. size_now (8 + 4 * (k / 5) + k % 5) == 2 ^ (k / 5 + 6) * (k % 5 + 4)) refl i h in
    grind (arith, nat_tests)

pub size_of-quarters : (j s c : ℕ) → c ≡ 8 + 4 * j + s → j < 9 → s < 5 → size_of c ≡ 2 ^ (j + 6) * (s + 4)
size_of-quarters j s c e hj hs =
    let a : (5 * j + s) / 5 ≡ j = omega arith in
    let b : (5 * j + s) % 5 ≡ s = omega arith in
    let t : size_of (8 + 4 * ((5 * j + s) / 5) + (5 * j + s) % 5) ≡ 2 ^ ((5 * j + s) / 5 + 6) * ((5 * j + s) % 5 + 4) = size_at (5 * j + s) (omega arith) in
    ap size_of e ∙ subst (λ x. size_of (8 + 4 * j + x) ≡ 2 ^ (j + 6) * (x + 4)) b (subst (λ y. size_of (8 + 4 * y + (5 * j + s) % 5) ≡ 2 ^ (y + 6) * ((5 * j + s) % 5 + 4)) a t)

step_up : (c : ℕ) → c < 44 → size_of c < size_of (c + 1)
unfolding size_of
step_up c h = let t : nat_lt (size_now c) (size_now (c + 1)) ≡ true = below-true 44 (λ k. nat_lt (size_now k) (size_now (k + 1))) refl c h in grind (arith, nat_tests)

pub size_of-up : (a n : ℕ) → a + n < 45 → size_of a ≤ size_of (a + n)
size_of-up a zero h = let e : a + 0 ≡ a = omega arith in subst (λ x. size_of a ≤ size_of x) (sym e) (omega arith)
size_of-up a (suc n) h =
    let e : a + suc n ≡ a + n + 1 = omega arith in
    let r : size_of a ≤ size_of (a + n) = size_of-up a n (omega arith) in
    let t : size_of (a + n) < size_of (a + n + 1) = step_up (a + n) (omega arith) in
    let u : size_of (a + suc n) ≡ size_of (a + n + 1) = ap size_of e in
    omega arith

pub least_from : (c need : ℕ) → 0 < c → c < 45 → need ≤ size_of c → (1 < c → size_of (c - 1) < need) → IsLeastClass c need
least_from c need p h holds before = record {
  low = p;
  high = omega arith;
  holds = holds;
  least = λ lower q l.
      let e : lower + (c - 1 - lower) ≡ c - 1 = omega arith in
      let r : size_of lower ≤ size_of (lower + (c - 1 - lower)) = size_of-up lower (c - 1 - lower) (omega arith) in
      let u : size_of (lower + (c - 1 - lower)) ≡ size_of (c - 1) = ap size_of e in
      let b : size_of (c - 1) < need = before (omega arith) in
      omega arith;
}

pub least_by_units : (need c : ℕ) → 0 < c → c ≤ 8 → need ≤ 32 * c → (1 < c → 32 * (c - 1) < need) → IsLeastClass c need
least_by_units need c p h holds before =
    let s : size_of c ≡ 32 * c = size_of-units c h in
    least_from c need p (omega arith) (omega arith) (λ q. let b : 32 * (c - 1) < need = before q in let t : size_of (c - 1) ≡ 32 * (c - 1) = size_of-units (c - 1) (omega arith) in omega arith)

lt_more : (a n : ℕ) → a ≤ n → a < n + 1
lt_more a n h = omega arith

next_le : (a n : ℕ) → n < a → n + 1 ≤ a
next_le a n h = omega arith

below_twice : (n k : ℕ) → 256 ≤ n → n < 2 * k → k ≤ 128 → ⊥
below_twice n k lo b h = omega arith

above_all : (n k : ℕ) → n < 131072 → k ≤ n → 131072 ≤ k → ⊥
above_all n k hi a h = omega arith

quarters_low : (n k w : ℕ) → w ≡ k * 4 → w ≤ n → 4 * k ≤ n
quarters_low n k w e a = omega arith

quarters_high : (n k w : ℕ) → w ≡ k * 4 → n < 2 * w → n < 8 * k
quarters_high n k w e b = omega arith

quarters_least : (n j q : ℕ) → j < 9 → 4 ≤ q → q < 8 → 2 ^ (j + 6) * q ≤ n → n < 2 ^ (j + 6) * (q + 1) → IsLeastClass (4 * j + q + 5) (n + 1)
quarters_least n j q hj low high a b =
    let e : q - 3 + 4 ≡ q + 1 = omega arith in
    let d : q - 4 + 4 ≡ q = omega arith in
    let s : size_of (4 * j + q + 5) ≡ 2 ^ (j + 6) * (q - 3 + 4) = size_of-quarters j (q - 3) (4 * j + q + 5) (omega arith) hj (omega arith) in
    let t : size_of (4 * j + q + 5 - 1) ≡ 2 ^ (j + 6) * (q - 4 + 4) = size_of-quarters j (q - 4) (4 * j + q + 5 - 1) (omega arith) hj (omega arith) in
    let s' : size_of (4 * j + q + 5) ≡ 2 ^ (j + 6) * (q + 1) = s ∙ ap (λ x. 2 ^ (j + 6) * x) e in
    let t' : size_of (4 * j + q + 5 - 1) ≡ 2 ^ (j + 6) * q = t ∙ ap (λ x. 2 ^ (j + 6) * x) d in
    least_from (4 * j + q + 5) (n + 1) (omega arith) (omega arith)
    (subst (λ x. n + 1 ≤ x) (sym s') (next_le _ n b))
    (λ _. subst (λ x. x < n + 1) (sym t') (lt_more _ n a))

le_7 : (e : ℕ) → e < 8 → e ≤ 7
le_7 e h = omega arith

log_low : (n e : ℕ) → 256 ≤ n → n < 2 * 2 ^ e → 8 ≤ e
log_low n e lo b = elim (cases_lt e 8) [
  | inl h ↦ let t : 2 ^ e ≤ 2 ^ 7 = pow-le-pow_right (lit< tt) (le_7 e h) in absurd (below_twice n (2 ^ e) lo b t)
  | inr h ↦ h
]

log_high : (n e : ℕ) → n < 131072 → 2 ^ e ≤ n → e < 17
log_high n e hi a = elim (cases_lt e 17) [
  | inl h ↦ h
  | inr h ↦ let t : 2 ^ 17 ≤ 2 ^ e = pow-le-pow_right (lit< tt) h in absurd (above_all n (2 ^ e) hi a t)
]

pub least_by_quarters : (n e c : ℕ) → 256 ≤ n → n < 131072 → 2 ^ e ≤ n → n < 2 * 2 ^ e → c ≡ 4 * (e - 8) + n / 2 ^ (e - 2) + 5 → IsLeastClass c (n + 1)
least_by_quarters n e c lo hi a b d =
    let l : 8 ≤ e = log_low n e lo b in
    let h : e < 17 = log_high n e hi a in
    let j = e - 8 in
    let k = 2 ^ (j + 6) in
    let i : e - 2 ≡ j + 6 = omega arith in
    let f : e ≡ j + 6 + 2 = omega arith in
    let w : 2 ^ e ≡ k * 4 = ap (λ x. 2 ^ x) f ∙ pow-add 2 (j + 6) 2 in
    let p : 0 < k = pow_pos (j + 6) in
    let low : 4 ≤ n / k = (le-div_iff_mul-le p).1 (quarters_low n k (2 ^ e) w a) in
    let high : n / k < 8 = (div-lt_iff_lt-mul p).1 (quarters_high n k (2 ^ e) w b) in
    let c' : 4 * j + n / k + 5 ≡ c = sym (d ∙ ap (λ x. 4 * (e - 8) + n / 2 ^ x + 5) i) in
    subst (λ x. IsLeastClass x (n + 1)) c' (quarters_least n j (n / k) (omega arith) low high (mul-div-le n k) (lt-mul-div-succ n p))

pub quarters_class : (need e w : ℕ) → 256 < need → need ≤ 131072 → 2 ^ e ≤ need - 1 → need - 1 < 2 * 2 ^ e → w ≡ e - 8 → IsLeastClass (w * 4 + (need - 1) / 2 ^ (e - 2) + 5) need
quarters_class need e w lo hi a b d =
    let i : need - 1 + 1 ≡ need = omega arith in
    let m : w * 4 + (need - 1) / 2 ^ (e - 2) + 5 ≡ 4 * (e - 8) + (need - 1) / 2 ^ (e - 2) + 5 = omega (arith, d) in
    subst (λ x. IsLeastClass (w * 4 + (need - 1) / 2 ^ (e - 2) + 5) x) i (least_by_quarters (need - 1) e _ (omega arith) (omega arith) a b m)

-- ---- the class of a need

abbrev holds_need : ℕ → ℕ → Bool
holds_need need class = nat_le need (size_of class)

found_from : (need c a n : ℕ) → a ≤ c → c < a + n → need ≤ size_of c → ((lower : ℕ) → a ≤ lower → lower < c → size_of lower < need)
    → find (holds_need need) (range_with_len a n) ≡ Some c
found_from need c a zero l h holds before = absurd (omega arith)
found_from need c a (suc n) l h holds before = elim (cases_eq c a) [
  | inl e ↦
      let t : size_of c ≡ size_of a = ap size_of e in
      let u : nat_le need (size_of a) ≡ true = grind (arith, nat_tests) in
      cond-true _ _ _ u ∙ ap Some (sym e)
  | inr d ↦
      let t : size_of a < need = before a (omega arith) (omega arith) in
      let u : nat_le need (size_of a) ≡ false = grind (arith, nat_tests) in
      cond-false _ _ _ u ∙ found_from need c (a + 1) n (omega arith) (omega arith) holds (λ lower p q. before lower (omega arith) q)
]

none_from : (need a n : ℕ) → ((class : ℕ) → a ≤ class → class < a + n → size_of class < need) → find (holds_need need) (range_with_len a n) ≡ None
none_from need a zero h = refl
none_from need a (suc n) h =
    let t : size_of a < need = h a (omega arith) (omega arith) in
    let u : nat_le need (size_of a) ≡ false = grind (arith, nat_tests) in
    cond-false _ _ _ u ∙ none_from need (a + 1) n (λ class p q. h class (omega arith) (omega arith))

pub class_for-some : (class need : ℕ) → IsLeastClass class need → class_for need ≡ Some class
unfolding class_for
class_for-some class need l = found_from need class 1 44 l.low (let h : class < 1 + 44 = omega (arith, l.high) in h) l.holds (λ lower p q. l.least lower p q)

pub class_for-none : (need : ℕ) → 131072 < need → class_for need ≡ None
unfolding class_for
class_for-none need h = none_from need 1 44 (λ class p q. let s : size_of class ≤ 131072 = (size_of-IsSize class p (omega arith)).most in omega arith)

-- ---- multiples of a size

abbrev reciprocals : List ℕ
reciprocals = 0 ∷ 68719476736 ∷ 34359738368 ∷ 22906492246 ∷ 17179869184 ∷ 13743895348 ∷ 11453246123 ∷ 9817068106 ∷ 8589934592 ∷
    6871947674 ∷ 5726623062 ∷ 4908534053 ∷ 4294967296 ∷ 3435973837 ∷ 2863311531 ∷ 2454267027 ∷ 2147483648 ∷ 1717986919 ∷
    1431655766 ∷ 1227133514 ∷ 1073741824 ∷ 858993460 ∷ 715827883 ∷ 613566757 ∷ 536870912 ∷ 429496730 ∷ 357913942 ∷
    306783379 ∷ 268435456 ∷ 214748365 ∷ 178956971 ∷ 153391690 ∷ 134217728 ∷ 107374183 ∷ 89478486 ∷ 76695845 ∷
    67108864 ∷ 53687092 ∷ 44739243 ∷ 38347923 ∷ 33554432 ∷ 26843546 ∷ 22369622 ∷ 19173962 ∷ 16777216 ∷ []

-- a number that is 2^41 by a size, rounded up
record IsReciprocal (s r : ℕ) : Type 0 where
  low : 2 ^ 41 ≤ r * s
  high : r * s < 2 ^ 41 + 2 ^ 17

reciprocal : (c : ℕ) → 0 < c → c ≤ CLASSES → IsReciprocal (slice_index sizes c) (slice_index reciprocals c)
reciprocal c p b =
    let h : c < 45 = omega arith in
    let a : (c == 0 || nat_le 2199023255552 (slice_index reciprocals c * slice_index sizes c)) ≡ true = below-true 45 (λ k. k == 0 || nat_le 2199023255552 (slice_index reciprocals k * slice_index sizes k)) refl c h in
    let d : nat_lt (slice_index reciprocals c * slice_index sizes c) 2199023386624 ≡ true = below-true 45 (λ k. nat_lt (slice_index reciprocals k * slice_index sizes k) 2199023386624) refl c h in
    record { low = grind (arith, nat_tests); high = grind (arith, nat_tests) }

reciprocal_small : (c : ℕ) → c ≤ CLASSES → slice_index reciprocals c ≤ 2 ^ 36
reciprocal_small c b =
    let h : c < 45 = omega arith in
    let a : nat_le (slice_index reciprocals c) 68719476736 ≡ true = below-true 45 (λ k. nat_le (slice_index reciprocals k) 68719476736) refl c h in
    grind (arith, nat_tests)

number_by : (d s r : ℕ) → 0 < s → IsReciprocal s r → d < 2 ^ 24 → d % s ≡ 0 → d * r / 2 ^ 41 * s ≡ d
number_by d s r p k l e =
    let q = d / s in
    let x = r * s - 2 ^ 41 in
    let low = k.low in
    let high = k.high in
    let a : d ≡ q * s = omega arith in
    let b : d * r ≡ q * (r * s) = ap (λ t. t * r) a ∙ grind arith in
    let f : r * s ≡ 2 ^ 41 + x = omega arith in
    let g : d * r ≡ q * 2 ^ 41 + q * x = b ∙ ap (λ t. q * t) f ∙ grind arith in
    let m : q ≤ 16777215 = let t : q ≤ d = div-le_self d s in omega arith in
    let n : q * x < 2 ^ 41 = let t : q * x ≤ 16777215 * 131071 = mul-le-mul m (let u : x ≤ 131071 = omega arith in u) in omega arith in
    ap (λ t. t / 2 ^ 41 * s) g ∙ ap (λ t. t * s) (div-mul-add q (2 ^ 41) (q * x) n) ∙ sym a

-- the test by the number that the product gives
pub multiple_test : (c d : ℕ) → 0 < c → c ≤ CLASSES → d < 2 ^ 24 → (d * slice_index reciprocals c / 2 ^ 41 * slice_index sizes c == d) ≡ (d % size_of c == 0)
multiple_test c d p h l =
    let s = slice_index sizes c in
    let r = slice_index reciprocals c in
    let k = table-IsSize c p h in
    let least = k.least in
    let size : (d % s == 0) ≡ (d % size_of c == 0) = ap (λ t. d % t == 0) (size_of-table c h) in
    elim (cases_eq (d % s) 0) [
      | inl z ↦ eq-eqb _ _ (number_by d s r (omega arith) (reciprocal c p h) l z) ∙ sym (eq-eqb _ _ z) ∙ size
      | inr n ↦ elim (cases_eq (d * r / 2 ^ 41 * s) d) [
        | inl z ↦ absurd (n (ap (λ t. t % s) (sym z) ∙ mul-mod_left (d * r / 2 ^ 41) s))
        | inr o ↦
            let t : (d * r / 2 ^ 41 * s == d) ≡ false = grind (arith, nat_tests) in
            let u : (d % s == 0) ≡ false = grind (arith, nat_tests) in
            t ∙ sym u ∙ size
      ]
    ]

pub product_fits : (c d : ℕ) → 0 < c → c ≤ CLASSES → d < 2 ^ 24 → (d * slice_index reciprocals c < 2 ^ 64) × (d * slice_index reciprocals c / 2 ^ 41 * slice_index sizes c < 2 ^ 64)
product_fits c d p h l =
    let r = slice_index reciprocals c in
    let k = table-IsSize c p h in
    let most = k.most in
    let a : d * r ≤ 16777216 * 68719476736 = mul-le-mul (let t : d ≤ 16777216 = omega arith in t) (reciprocal_small c h) in
    let b : d * r / 2 ^ 41 * slice_index sizes c ≤ 524288 * 131072 = mul-le-mul (let t : d * r / 2 ^ 41 ≤ 524288 = omega arith in t) most in
    (omega arith, omega arith)
