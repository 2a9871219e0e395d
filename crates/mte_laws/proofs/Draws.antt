-- The tag that a draw gives.
use Rattle.std.proofs.Common.{◌≡◌, ◌≢◌, ℕ, zero, suc, ◌+◌, ◌*◌, ◌/◌, ◌%◌, ◌^◌, ◌<◌, ◌==◌, ◌&&◌, ◌||◌, Bool, true, false, not, List, [], ◌∷◌, length, refl, sym, ap, ◌∙◌, arith}
use Rattle.std.proofs.lemmas.Bool.Decides.{nat_tests}
use Rattle.std.specs.Int.RustNames.{bit_or}
use Rattle.std.specs.Int.{w32, trailing_zeros}
use Rattle.std.specs.List.{range_with_len, All}
use Rattle.std.proofs.lemmas.List.Elements.{All-filter, All-get_or, filter_passes, All-from_get_or}
use Rattle.std.proofs.lemmas.List.FromFn.{get_or-range_with_len, length-range_with_len}
use Rattle.std.specs.Int.Count.{count_trailing_zeros}
use Rattle.std.proofs.Math.Nat.{add-mul-div_left}
use Rattle.std.proofs.lemmas.Nat.{pow_pos}
use Rattle.scudo_primary.specs.Blocks.{IsClass}
use Rattle.mte_tags.specs.TagChoice.{is_allowed, allowed_tags, tag_in_turn, chosen_of, chosen_tag}
use Rattle.mte_tags.specs.RandomTags.{after_draw, drawn_tag, offset_of}
use Rattle.mte_tags.specs.Memory.{Memory, tag_at}
use Rattle.mte_tags.specs.declared.generator.Rgsr.{Rgsr}
use Rattle.scudo_header.proofs.ClassLemmas.{all_below, below-true}
use Rattle.scudo_header.specs.Classes.{size_of}
use Rattle.scudo_heap.specs.declared.chunk.Place.{Place}
use Rattle.scudo_heap.specs.Chunks.{tag_parity, parity_mask, excluded_tags}
use Rattle.mte_laws.specs.LiveChunks.{IsHalfTag}

-- what is drawn is one of the tags that are left
in_turn : (P : ℕ → Type 0) (tags : List ℕ) (rank : ℕ) → 0 < length tags → All P tags → P (tag_in_turn tags rank)
in_turn P [] rank l h = absurd (omega arith)
in_turn P (a ∷ more) rank l h = All-get_or P (a ∷ more) (rank % length (a ∷ more)) 0 (omega arith) h

chosen_in : (P : ℕ → Type 0) (tags : List ℕ) (t k : ℕ) → 0 < length tags → All P tags → P (chosen_of tags t k)
chosen_in P tags t zero l h = in_turn P tags _ l h
chosen_in P tags t (suc k) l h = in_turn P tags _ l h

-- the mask that a half and a present tag give
mask : ℕ → ℕ → ℕ
mask half present = bit_or (bit_or 1 (0x5555 * 2 ^ half)) (2 ^ present)

-- whether a mask leaves a tag; whether a tag that it leaves is fresh, and allowed by the half's mask
leaves : ℕ → Bool
leaves e = not (length (allowed_tags e) == 0)

is_fresh : ℕ → ℕ → ℕ → Bool
is_fresh half present t = not (is_allowed (mask half present) t) || (not (t == 0) && not (t == present) && is_allowed (0x5555 * 2 ^ half) t)

-- the 32 masks, and the 512 cases of a mask and a tag
leaves_table : all_below (λ k. leaves (mask (k % 2) (k / 2))) 32 ≡ true
unfolding leaves mask allowed_tags
leaves_table = refl

fresh_table : all_below (λ k. is_fresh (k % 2) (k / 2 % 16) (k / 32)) 512 ≡ true
unfolding is_fresh mask
fresh_table = refl

some_left : (half present : ℕ) → half < 2 → present < 16 → leaves (mask half present) ≡ true
some_left half present h p =
    let k = half + 2 * present in
    let a : k % 2 ≡ half = omega arith in
    let b : k / 2 ≡ present = omega arith in
    ap (λ x. leaves (mask x present)) (sym a) ∙ ap (λ x. leaves (mask (k % 2) x)) (sym b) ∙ below-true 32 (λ k. leaves (mask (k % 2) (k / 2))) leaves_table k (omega arith)

fresh : (half present t : ℕ) → half < 2 → present < 16 → t < 16 → is_fresh half present t ≡ true
fresh half present t h p l =
    let k = half + 2 * present + 32 * t in
    let a : k % 2 ≡ half = omega arith in
    let b : k / 2 % 16 ≡ present = omega arith in
    let c : k / 32 ≡ t = omega arith in
    ap (λ x. is_fresh x present t) (sym a) ∙ ap (λ x. is_fresh (k % 2) x t) (sym b) ∙ ap (λ x. is_fresh (k % 2) (k / 2 % 16) x) (sym c)
    ∙ below-true 512 (λ k. is_fresh (k % 2) (k / 2 % 16) (k / 32)) fresh_table k (omega arith)

-- a tag that differs from 0 and from the one that is there, and fits the block
pub record IsFresh (m : Memory) (p : Place) (t : ℕ) : Type 0 where
  pub half : IsHalfTag p.class p.block t
  pub some : t ≢ 0
  pub other : t ≢ tag_at m p.user

below : (e : ℕ) → All (λ t. t < 16) (allowed_tags e)
unfolding allowed_tags
below e =
    All-filter (is_allowed e) (λ t. t < 16) (range_with_len 0 16)
    (All-from_get_or (λ t. t < 16) (range_with_len 0 16) 0 (λ i l. let h : i < 16 = omega (arith, length-range_with_len 0 16) in omega (arith, get_or-range_with_len 0 16 i 0 h)))

allowed : (e : ℕ) → All (λ t. is_allowed e t ≡ true) (allowed_tags e)
unfolding allowed_tags
allowed e = filter_passes (is_allowed e) (range_with_len 0 16)

chosen_from : (P : ℕ → Type 0) (t k e : ℕ) → leaves e ≡ true → All P (allowed_tags e) → P (chosen_tag t k e)
unfolding chosen_tag leaves
chosen_from P t k e l h = chosen_in P (allowed_tags e) t k (grind (arith, nat_tests)) h

parts : (a b c d : Bool) → a ≡ true → (not a || (not b && not c && d)) ≡ true → (b ≡ false) × (c ≡ false) × (d ≡ true)
parts true false false d e h = (refl, refl, h)
parts true false true d e h = cc
parts true true c d e h = cc
parts false b c d e h = cc

fresh_of : (m : Memory) (p : Place) (t : ℕ) → tag_at m p.user < 16 → t < 16 → is_allowed (excluded_tags m p) t ≡ true → IsFresh m p t
unfolding mask is_fresh excluded_tags count_trailing_zeros
fresh_of m p t l u a =
    let f = parts (is_allowed (excluded_tags m p) t) (t == 0) (t == tag_at m p.user) (is_allowed (parity_mask p.class p.block) t) a
    (fresh (tag_parity p.class p.block) (tag_at m p.user) t (omega arith) l u) in
    record { half = record { below = u; allowed = f.2 }; some = grind (arith, nat_tests); other = grind (arith, nat_tests) }

pub after-draw-fresh : (m : Memory) (p : Place) (r : Rgsr) → tag_at m p.user < 16 → IsFresh m p (after_draw r (excluded_tags m p)).tag
unfolding after_draw mask excluded_tags count_trailing_zeros
after-draw-fresh m p r l =
    let e = some_left (tag_parity p.class p.block) (tag_at m p.user) (omega arith) l in
    fresh_of m p (drawn_tag r (excluded_tags m p)) l (chosen_from (λ t. t < 16) r.tag (offset_of r.seed 0) (excluded_tags m p) e (below (excluded_tags m p)))
    (chosen_from (λ t. is_allowed (excluded_tags m p) t ≡ true) r.tag (offset_of r.seed 0) (excluded_tags m p) e (allowed (excluded_tags m p)))

-- ---- neighbours

is_odd : ℕ → ℕ → Bool
is_odd half t = not (is_allowed (0x5555 * 2 ^ half) t) || ((t + half) % 2 == 1)

odd_table : all_below (λ k. is_odd (k % 2) (k / 2)) 32 ≡ true
unfolding is_odd
odd_table = refl

-- the size of a class is an odd number times a power of two
is_odd_size : ℕ → Bool
is_odd_size s = (s % 2 ^ trailing_zeros w32 s == 0) && (s / 2 ^ trailing_zeros w32 s % 2 == 1)

size_table : all_below (λ k. (k == 0) || is_odd_size (size_of k)) 45 ≡ true
unfolding is_odd_size size_of count_trailing_zeros
size_table = refl

odd : (half t : ℕ) → half < 2 → t < 16 → is_allowed (0x5555 * 2 ^ half) t ≡ true → (t + half) % 2 ≡ 1
unfolding is_odd
odd half t h l a =
    let k = half + 2 * t in
    let x : k % 2 ≡ half = omega arith in
    let y : k / 2 ≡ t = omega arith in
    let e : is_odd half t ≡ true = ap (λ i. is_odd i t) (sym x) ∙ ap (is_odd (k % 2)) (sym y) ∙ below-true 32 (λ k. is_odd (k % 2) (k / 2)) odd_table k (omega arith) in
    grind (arith, nat_tests)

-- the half's parity says the tag's
pub half-odd : (c b t : ℕ) → IsHalfTag c b t → (t + tag_parity c b) % 2 ≡ 1
half-odd c b t h = odd (tag_parity c b) t (omega arith) h.below h.allowed

next_half : (b s n : ℕ) → 0 < n → s % n ≡ 0 → s / n % 2 ≡ 1 → ((b + s) / n % 2 + b / n % 2) % 2 ≡ 1
next_half b s n p e o =
    let d : s ≡ n * (s / n) = omega arith in
    let f : (b + s) / n ≡ b / n + s / n = ap (λ k. (b + k) / n) d ∙ add-mul-div_left b (s / n) p in
    omega arith

pub half-next : (c b : ℕ) → IsClass c → (tag_parity c (b + size_of c) + tag_parity c b) % 2 ≡ 1
unfolding is_odd_size
half-next c b h =
    let low = h.low in
    let high = h.high in
    let e : ((c == 0) || is_odd_size (size_of c)) ≡ true = below-true 45 (λ k. (k == 0) || is_odd_size (size_of k)) size_table c (omega arith) in
    let f : (size_of c % 2 ^ trailing_zeros w32 (size_of c) ≡ 0) × (size_of c / 2 ^ trailing_zeros w32 (size_of c) % 2 ≡ 1) = (grind (arith, nat_tests), grind (arith, nat_tests)) in
    next_half b (size_of c) (2 ^ trailing_zeros w32 (size_of c)) (pow_pos _) f.0 f.1

-- the tags that two neighbouring blocks may have differ
pub neighbours-differ : (c b s t : ℕ) → IsClass c → IsHalfTag c b s → IsHalfTag c (b + size_of c) t → s ≢ t
neighbours-differ c b s t h x y =
    let e = half-next c b h in
    let f = half-odd c b s x in
    let g = half-odd c (b + size_of c) t y in
    λ k. omega arith
