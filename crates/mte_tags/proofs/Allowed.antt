-- The tags that an exclude mask leaves, by the table of its bytes.
use Rattle.std.proofs.Common.{◌≡◌, ℕ, zero, suc, ◌+◌, ◌-◌, ◌*◌, ◌/◌, ◌%◌, ◌^◌, ◌<◌, ◌≤◌, ◌==◌, ◌&&◌, ◌||◌, Bool, true, false, cond, nat_le, nat_lt, max, List, [], ◌∷◌, ◌++◌, length, map, slice_index, refl, sym, ap, subst, ◌∙◌, inl, inr, arith, length-append}
use Rattle.std.specs.Int.{bit_at}
use Rattle.std.specs.Prelude.{bit_or}
use Rattle.std.specs.List.{range_with_len, filter, count_by}
use Rattle.std.proofs.lemmas.Bool.{cases_eq, cases_lt}
use Rattle.std.proofs.lemmas.Bool.Decides.{nat_tests}
use Rattle.std.proofs.lemmas.Nat.Bits.{bit_at_or, bit_at_mask_inside, bit_at_mask_below, bit_at_cat_low, bit_at_cat_high}
use Rattle.std.proofs.lemmas.List.{get_or-map, get_or_append_left, get_or-append_right, length-map}
use Rattle.std.proofs.lemmas.List.Elements.{filter-append}
use Rattle.std.proofs.lemmas.List.Sums.{count_by-le-length, length-filter}
use Rattle.std.proofs.lemmas.List.FromFn.{length-range_with_len}
use Rattle.mte_tags.specs.TagChoice.{is_allowed, allowed_tags}
use Rattle.mte_tags.specs.declared.tags.TheConstants.{ALLOWED, INVERSES}

-- a test holds of each number below n
abbrev all_below : (ℕ → Bool) → ℕ → Bool
all_below f zero = true
all_below f (suc n) = f n && all_below f n

and_left : (a b : Bool) → (a && b) ≡ true → a ≡ true
and_left true b h = refl
and_left false b h = h

and_right : (a b : Bool) → (a && b) ≡ true → b ≡ true
and_right true b h = h
and_right false b h = cc

below-true : (n : ℕ) (f : ℕ → Bool) → all_below f n ≡ true → (c : ℕ) → c < n → f c ≡ true
below-true zero f h c l = absurd (omega arith)
below-true (suc n) f h c l = elim (cases_eq c n) [
  | inl e ↦ ap f e ∙ and_left (f n) (all_below f n) h
  | inr d ↦ below-true n f (and_right (f n) (all_below f n) h) c (omega arith)
]

-- the tags 0 to 7 that a mask of eight bits leaves
abbrev pub byte_tags : ℕ → List ℕ
byte_tags m = filter (is_allowed m) (range_with_len 0 8)

pub allowed_count : (m : ℕ) → m < 256 → slice_index ALLOWED m / 2 ^ 24 ≡ length (byte_tags m)
allowed_count m h = let t = below-true 256 (λ k. slice_index ALLOWED k / 2 ^ 24 == length (byte_tags k)) refl m h in grind (arith, nat_tests)

pub byte_tags-length : (m : ℕ) → length (byte_tags m) ≤ 8
byte_tags-length m = omega (arith, length-filter (is_allowed m) (range_with_len 0 8), count_by-le-length (is_allowed m) (range_with_len 0 8), length-range_with_len 0 8)

tag_matches : ℕ → ℕ → Bool
tag_matches k i = nat_le (length (byte_tags k)) i || slice_index ALLOWED k / 2 ^ (3 * i) % 8 == slice_index (byte_tags k) i

or_right : (a b : Bool) → (a || b) ≡ true → a ≡ false → b ≡ true
or_right true b h e = absurd (cc)
or_right false b h e = h

pub allowed_tag : (m i : ℕ) → m < 256 → i < length (byte_tags m) → slice_index ALLOWED m / 2 ^ (3 * i) % 8 ≡ slice_index (byte_tags m) i
unfolding tag_matches
allowed_tag m i h l =
    let all : all_below (tag_matches m) 8 ≡ true = below-true 256 (λ k. all_below (tag_matches k) 8) refl m h in
    let one : tag_matches m i ≡ true = below-true 8 (tag_matches m) all i (omega (arith, byte_tags-length m)) in
    let no : nat_le (length (byte_tags m)) i ≡ false = grind (arith, nat_tests) in
    let yes : (slice_index ALLOWED m / 2 ^ (3 * i) % 8 == slice_index (byte_tags m) i) ≡ true = or_right _ _ one no in
    grind (arith, nat_tests)

-- ---- the two bytes of a mask

filter_same : (p q : ℕ → Bool) (a n : ℕ) → ((i : ℕ) → i < n → p (a + i) ≡ q (a + i)) → filter p (range_with_len a n) ≡ filter q (range_with_len a n)
filter_same p q a zero h = refl
filter_same p q a (suc n) h =
    let e : a + 0 ≡ a = omega arith in
    let here : p a ≡ q a = subst (λ k. p k ≡ q k) e (h 0 (omega arith)) in
    let rest : filter p (range_with_len (a + 1) n) ≡ filter q (range_with_len (a + 1) n) =
    filter_same p q (a + 1) n (λ i l. let f : a + suc i ≡ a + 1 + i = omega arith in subst (λ k. p k ≡ q k) f (h (suc i) (omega arith))) in
    λ i. cond (here i) (a ∷ rest i) (rest i)

cond_map : (d : ℕ) (b : Bool) (x : ℕ) (xs ys : List ℕ) → xs ≡ map (λ t. t + d) ys → cond b ((x + d) ∷ xs) xs ≡ map (λ t. t + d) (cond b (x ∷ ys) ys)
cond_map d true x xs ys e = ap (λ l. (x + d) ∷ l) e
cond_map d false x xs ys e = e

shifted : (p : ℕ → Bool) (d a n : ℕ) → filter p (range_with_len (a + d) n) ≡ map (λ t. t + d) (filter (λ t. p (t + d)) (range_with_len a n))
shifted p d a zero = refl
shifted p d a (suc n) =
    let e : a + d + 1 ≡ a + 1 + d = omega arith in
    cond_map d (p (a + d)) a _ _ (ap (λ k. filter p (range_with_len k n)) e ∙ shifted p d (a + 1) n)

low_bit : (e i : ℕ) → i < 8 → bit_at e i ≡ bit_at (e % 256) i
low_bit e i h =
    let f : e ≡ e / 256 * 2 ^ 8 + e % 256 = omega arith in
    ap (λ x. bit_at x i) f ∙ bit_at_cat_low (e / 256) 8 (e % 256) i h

high_bit : (e i : ℕ) → bit_at e (i + 8) ≡ bit_at (e / 256) i
high_bit e i =
    let f : e ≡ e / 256 * 2 ^ 8 + e % 256 = omega arith in
    let g : i + 8 - 8 ≡ i = omega arith in
    ap (λ x. bit_at x (i + 8)) f ∙ bit_at_cat_high (e / 256) 8 (e % 256) (i + 8) (omega arith) (omega arith) ∙ ap (bit_at (e / 256)) g

pub allowed_tags-bytes : (e : ℕ) → allowed_tags e ≡ byte_tags (e % 256) ++ map (λ t. t + 8) (byte_tags (e / 256))
unfolding allowed_tags
allowed_tags-bytes e =
    let low : filter (is_allowed e) (range_with_len 0 8) ≡ byte_tags (e % 256) =
    filter_same (is_allowed e) (is_allowed (e % 256)) 0 8 (λ i l. ap (λ b. b == 0) (low_bit e (0 + i) (omega arith))) in
    let high : filter (λ t. is_allowed e (t + 8)) (range_with_len 0 8) ≡ byte_tags (e / 256) =
    filter_same (λ t. is_allowed e (t + 8)) (is_allowed (e / 256)) 0 8 (λ i l. ap (λ b. b == 0) (high_bit e (0 + i))) in
    filter-append (is_allowed e) (range_with_len 0 8) (range_with_len 8 8)
    ∙ ap (λ l. l ++ filter (is_allowed e) (range_with_len 8 8)) low
    ∙ ap (λ l. byte_tags (e % 256) ++ l) (shifted (is_allowed e) 8 0 8 ∙ ap (map (λ t. t + 8)) high)

pub allowed_tags-length : (e : ℕ) → length (allowed_tags e) ≡ length (byte_tags (e % 256)) + length (byte_tags (e / 256))
allowed_tags-length e =
    ap length (allowed_tags-bytes e) ∙ length-append (byte_tags (e % 256)) (map (λ t. t + 8) (byte_tags (e / 256)))
    ∙ ap (λ n. length (byte_tags (e % 256)) + n) (length-map (byte_tags (e / 256)) (λ t. t + 8))

pub tag_low : (e r : ℕ) → r < length (byte_tags (e % 256)) → slice_index (allowed_tags e) r ≡ slice_index (byte_tags (e % 256)) r
tag_low e r h = ap (λ l. slice_index l r) (allowed_tags-bytes e) ∙ get_or_append_left (byte_tags (e % 256)) (map (λ t. t + 8) (byte_tags (e / 256))) 0 r h

pub tag_high : (e r : ℕ) → length (byte_tags (e % 256)) ≤ r → r < length (allowed_tags e) → slice_index (allowed_tags e) r ≡ slice_index (byte_tags (e / 256)) (r - length (byte_tags (e % 256))) + 8
tag_high e r h l =
    let n = length (byte_tags (e % 256)) in
    ap (λ l. slice_index l r) (allowed_tags-bytes e)
    ∙ get_or-append_right (byte_tags (e % 256)) (map (λ t. t + 8) (byte_tags (e / 256))) n r 0 refl h
    ∙ get_or-map (λ t. t + 8) (byte_tags (e / 256)) (r - n) 0 0 (omega (arith, allowed_tags-length e))

-- ---- those below a bound

or_allowed : (x : ℕ) (b : Bool) → ((x == 0) && b) ≡ (max x (cond b 0 1) == 0)
or_allowed zero true = refl
or_allowed zero false = refl
or_allowed (suc x) true =
    let n : (suc x == 0) ≡ false = grind (arith, nat_tests) in
    let m : (max (suc x) 0 == 0) ≡ false = grind (arith, nat_tests) in
    ap (λ b. b && true) n ∙ sym m
or_allowed (suc x) false =
    let n : (suc x == 0) ≡ false = grind (arith, nat_tests) in
    let m : (max (suc x) 1 == 0) ≡ false = grind (arith, nat_tests) in
    ap (λ b. b && false) n ∙ sym m

other_bit : (b t : ℕ) → b ≤ 16 → t < 16 → bit_at (2 ^ 16 - 2 ^ b) t ≡ cond (nat_lt t b) 0 1
other_bit b t h l = elim (cases_lt t b) [
  | inl p ↦ let k : nat_lt t b ≡ true = grind (arith, nat_tests) in bit_at_mask_below b 16 t p ∙ sym (ap (λ x. cond x 0 1) k)
  | inr p ↦ let k : nat_lt t b ≡ false = grind (arith, nat_tests) in bit_at_mask_inside b 16 t p l ∙ sym (ap (λ x. cond x 0 1) k)
]

filtered_step : (q : ℕ → Bool) (b : Bool) (x : ℕ) (xs ys : List ℕ) → filter q xs ≡ ys → filter q (cond b (x ∷ xs) xs) ≡ cond (b && q x) (x ∷ ys) ys
filtered_step q true x xs ys e = ap (λ l. cond (q x) (x ∷ l) l) e
filtered_step q false x xs ys e = e

filtered : (p q : ℕ → Bool) (xs : List ℕ) → filter q (filter p xs) ≡ filter (λ x. p x && q x) xs
filtered p q [] = refl
filtered p q (x ∷ xs) = filtered_step q (p x) x (filter p xs) (filter (λ x. p x && q x) xs) (filtered p q xs)

pub count_masked : (e b : ℕ) → b ≤ 16 → count_by (λ a. nat_lt a b) (allowed_tags e) ≡ length (allowed_tags (bit_or e (2 ^ 16 - 2 ^ b)))
unfolding allowed_tags
count_masked e b h =
    let p = is_allowed e in
    let q : ℕ → Bool = λ a. nat_lt a b in
    let r = is_allowed (bit_or e (2 ^ 16 - 2 ^ b)) in
    sym (length-filter q (filter p (range_with_len 0 16)))
    ∙ ap length (filtered p q (range_with_len 0 16) ∙ filter_same (λ x. p x && q x) r 0 16
    (λ t l. or_allowed (bit_at e (0 + t)) (nat_lt (0 + t) b)
    ∙ sym (ap (λ n. max (bit_at e (0 + t)) n == 0) (other_bit b (0 + t) h (omega arith)))
    ∙ sym (ap (λ n. n == 0) (bit_at_or e (2 ^ 16 - 2 ^ b) (0 + t)))))

-- ---- a remainder without a division

abbrev pub quotient : ℕ → ℕ → ℕ
quotient r c = r * slice_index INVERSES c / 2 ^ 16

remainder_matches : ℕ → ℕ → Bool
remainder_matches r c = c == 0 || (nat_le (quotient r c * c) r && r - quotient r c * c == r % c) && nat_le (quotient r c) 31

pub record IsRemainder (r c : ℕ) : Type 0 where
  pub below : quotient r c * c ≤ r
  pub left : r - quotient r c * c ≡ r % c
  pub times : quotient r c ≤ 31

pub remainder_by_product : (r c : ℕ) → r < 32 → 0 < c → c ≤ 16 → IsRemainder r c
unfolding remainder_matches
remainder_by_product r c h p m =
    let all : all_below (remainder_matches r) 17 ≡ true = below-true 32 (λ k. all_below (remainder_matches k) 17) refl r h in
    let one : remainder_matches r c ≡ true = below-true 17 (remainder_matches r) all c (omega arith) in
    let no : (c == 0) ≡ false = grind (arith, nat_tests) in
    let both = or_right _ _ one no in
    let first = and_left _ _ both in
    let low : nat_le (quotient r c * c) r ≡ true = and_left _ _ first in
    let same : (r - quotient r c * c == r % c) ≡ true = and_right _ _ first in
    let few : nat_le (quotient r c) 31 ≡ true = and_right _ _ both in
    record { below = grind (arith, nat_tests); left = grind (arith, nat_tests); times = grind (arith, nat_tests) }
