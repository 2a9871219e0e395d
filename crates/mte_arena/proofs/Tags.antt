-- Two tags a byte: one is read, and one is replaced.
use Rattle.std.proofs.lemmas.Bool.Decides.{nat_tests}
use Rattle.std.specs.Prelude.{◌≢◌, ◌⊎◌}
use Rattle.std.proofs.Common.{◌≡◌, ℕ, zero, suc, ◌+◌, ◌*◌, ◌/◌, ◌%◌, ◌<◌, List, [], ◌∷◌, ◌++◌, length, take, drop, get_or, slice_set, replicate, refl, sym, ap, ◌∙◌, inl, inr, arith}
use Rattle.mte_arena.specs.Blocks.{half, tags_of_bytes}

pub length-tags-of-bytes : (bs : List ℕ) → length (tags_of_bytes bs) ≡ length bs + length bs
length-tags-of-bytes [] = refl
length-tags-of-bytes (b ∷ bs) = omega (arith, length-tags-of-bytes bs)

pub tags-of-bytes-small : (bs : List ℕ) (g : ℕ) → get_or (tags_of_bytes bs) g 0 < 16
tags-of-bytes-small [] g = omega arith
tags-of-bytes-small (b ∷ bs) zero = let low : b % 16 < 16 = omega arith in low
tags-of-bytes-small (b ∷ bs) (suc zero) = let low : b / 16 % 16 < 16 = omega arith in low
tags-of-bytes-small (b ∷ bs) (suc (suc g)) = tags-of-bytes-small bs g

pub tags-of-bytes-zero : (n : ℕ) → tags_of_bytes (replicate n 0) ≡ replicate (n * 2) 0
tags-of-bytes-zero zero = refl
tags-of-bytes-zero (suc n) = let more : suc n * 2 ≡ suc (suc (n * 2)) = omega arith in ap (λ l. 0 ∷ 0 ∷ l) (tags-of-bytes-zero n) ∙ ap (λ k. replicate k 0) (sym more)

pub tags-of-bytes-append : (xs ys : List ℕ) → tags_of_bytes (xs ++ ys) ≡ tags_of_bytes xs ++ tags_of_bytes ys
tags-of-bytes-append [] ys = refl
tags-of-bytes-append (x ∷ xs) ys = ap (λ l. x % 16 ∷ x / 16 % 16 ∷ l) (tags-of-bytes-append xs ys)

pub tags-of-bytes-take : (n : ℕ) (xs : List ℕ) → tags_of_bytes (take n xs) ≡ take (n * 2) (tags_of_bytes xs)
tags-of-bytes-take zero xs = refl
tags-of-bytes-take (suc n) [] = let more : suc n * 2 ≡ suc (suc (n * 2)) = omega arith in rw more refl
tags-of-bytes-take (suc n) (x ∷ xs) = let more : suc n * 2 ≡ suc (suc (n * 2)) = omega arith in rw more (ap (λ l. x % 16 ∷ x / 16 % 16 ∷ l) (tags-of-bytes-take n xs))

pub tags-of-bytes-drop : (n : ℕ) (xs : List ℕ) → tags_of_bytes (drop n xs) ≡ drop (n * 2) (tags_of_bytes xs)
tags-of-bytes-drop zero xs = refl
tags-of-bytes-drop (suc n) [] = let more : suc n * 2 ≡ suc (suc (n * 2)) = omega arith in rw more refl
tags-of-bytes-drop (suc n) (x ∷ xs) = let more : suc n * 2 ≡ suc (suc (n * 2)) = omega arith in rw more (tags-of-bytes-drop n xs)

is_even : (g : ℕ) → (g % 2 ≡ 0) ⊎ (g % 2 ≢ 0)
is_even g = number (g % 2)
  where
    number : (n : ℕ) → (n ≡ 0) ⊎ (n ≢ 0)
    number zero = inl refl
    number (suc n) = inr (λ e. absurd (omega (arith, e)))

half-even : (b g : ℕ) → g % 2 ≡ 0 → half b g ≡ b % 16
half-even b g e = grind (arith, nat_tests)

half-odd : (b g : ℕ) → g % 2 ≢ 0 → half b g ≡ b / 16 % 16
half-odd b g n = grind (arith, nat_tests)

-- the tags of the byte k
low_is : (bs : List ℕ) (k g d : ℕ) → g ≡ k * 2 → k < length bs → get_or (tags_of_bytes bs) g 0 ≡ get_or bs k d % 16
low_is [] k g d e h = absurd (omega (arith, h))
low_is (b ∷ bs) zero zero d e h = refl
low_is (b ∷ bs) zero (suc g) d e h = absurd (omega (arith, e))
low_is (b ∷ bs) (suc k) zero d e h = absurd (omega (arith, e))
low_is (b ∷ bs) (suc k) (suc zero) d e h = absurd (omega (arith, e))
low_is (b ∷ bs) (suc k) (suc (suc g)) d e h = low_is bs k g d (omega (arith, e)) (omega (arith, h))

high_is : (bs : List ℕ) (k g d : ℕ) → g ≡ k * 2 + 1 → k < length bs → get_or (tags_of_bytes bs) g 0 ≡ get_or bs k d / 16 % 16
high_is [] k g d e h = absurd (omega (arith, h))
high_is (b ∷ bs) k zero d e h = absurd (omega (arith, e))
high_is (b ∷ bs) zero (suc zero) d e h = refl
high_is (b ∷ bs) zero (suc (suc g)) d e h = absurd (omega (arith, e))
high_is (b ∷ bs) (suc k) (suc zero) d e h = absurd (omega (arith, e))
high_is (b ∷ bs) (suc k) (suc (suc g)) d e h = high_is bs k g d (omega (arith, e)) (omega (arith, h))

pub low_set : (bs : List ℕ) (k g d v : ℕ) → g ≡ k * 2 → k < length bs → v / 16 % 16 ≡ get_or bs k d / 16 % 16 → tags_of_bytes (slice_set bs k v) ≡ slice_set (tags_of_bytes bs) g (v % 16)
low_set [] k g d v e h same = absurd (omega (arith, h))
low_set (b ∷ bs) zero zero d v e h same = ap (λ t. v % 16 ∷ t ∷ tags_of_bytes bs) same
low_set (b ∷ bs) zero (suc g) d v e h same = absurd (omega (arith, e))
low_set (b ∷ bs) (suc k) zero d v e h same = absurd (omega (arith, e))
low_set (b ∷ bs) (suc k) (suc zero) d v e h same = absurd (omega (arith, e))
low_set (b ∷ bs) (suc k) (suc (suc g)) d v e h same = ap (λ l. b % 16 ∷ b / 16 % 16 ∷ l) (low_set bs k g d v (omega (arith, e)) (omega (arith, h)) same)

high_set : (bs : List ℕ) (k g d v : ℕ) → g ≡ k * 2 + 1 → k < length bs → v % 16 ≡ get_or bs k d % 16 → tags_of_bytes (slice_set bs k v) ≡ slice_set (tags_of_bytes bs) g (v / 16 % 16)
high_set [] k g d v e h same = absurd (omega (arith, h))
high_set (b ∷ bs) k zero d v e h same = absurd (omega (arith, e))
high_set (b ∷ bs) zero (suc zero) d v e h same = ap (λ t. t ∷ v / 16 % 16 ∷ tags_of_bytes bs) same
high_set (b ∷ bs) zero (suc (suc g)) d v e h same = absurd (omega (arith, e))
high_set (b ∷ bs) (suc k) (suc zero) d v e h same = absurd (omega (arith, e))
high_set (b ∷ bs) (suc k) (suc (suc g)) d v e h same = ap (λ l. b % 16 ∷ b / 16 % 16 ∷ l) (high_set bs k g d v (omega (arith, e)) (omega (arith, h)) same)

pub tag_of_byte : (bs : List ℕ) (g d : ℕ) → g / 2 < length bs → get_or (tags_of_bytes bs) g 0 ≡ half (get_or bs (g / 2) d) g
tag_of_byte bs g d h = elim (is_even g) [
  | inl even ↦ low_is bs (g / 2) g d (omega (arith, even)) h ∙ sym (half-even (get_or bs (g / 2) d) g even)
  | inr odd ↦ high_is bs (g / 2) g d (let last : g % 2 ≡ 1 = omega (arith, odd) in omega (arith, last)) h ∙ sym (half-odd (get_or bs (g / 2) d) g odd)
]

-- a byte of which one half is t and the other as it was puts t in the place of one tag
pub tag_set : (bs : List ℕ) (g d v t : ℕ) → g / 2 < length bs → half v g ≡ t → half v (g + 1) ≡ half (get_or bs (g / 2) d) (g + 1) → tags_of_bytes (slice_set bs (g / 2) v) ≡ slice_set (tags_of_bytes bs) g t
tag_set bs g d v t h own other = elim (is_even g) [
  | inl even ↦ let next : (g + 1) % 2 ≢ 0 = λ e. absurd (omega (arith, e, even)) in
      low_set bs (g / 2) g d v (omega (arith, even)) h (sym (half-odd v (g + 1) next) ∙ other ∙ half-odd (get_or bs (g / 2) d) (g + 1) next) ∙ ap (slice_set (tags_of_bytes bs) g) (sym (half-even v g even) ∙ own)
  | inr odd ↦ let last : g % 2 ≡ 1 = omega (arith, odd) in let next : (g + 1) % 2 ≡ 0 = omega (arith, last) in
      high_set bs (g / 2) g d v (omega (arith, last)) h (sym (half-even v (g + 1) next) ∙ other ∙ half-even (get_or bs (g / 2) d) (g + 1) next) ∙ ap (slice_set (tags_of_bytes bs) g) (sym (half-odd v g odd) ∙ own)
]
