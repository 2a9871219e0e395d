-- The checksum in two parts, and the fields of a header's word.
use Rattle.std.proofs.Common.{◌≡◌, ℕ, ◌+◌, ◌*◌, ◌/◌, ◌%◌, ◌^◌, ◌<◌, ◌==◌, ◌++◌, List, [], ◌∷◌, Some, true, refl, sym, ap, subst, ◌∙◌, arith, eq-eqb, lit<}
use Rattle.std.specs.Int.{to_le_bytes, w32, w64}
use Rattle.std.specs.List.{fold}
use Rattle.std.proofs.lemmas.Bool.{cond-true}
use Rattle.std.proofs.lemmas.Bool.Decides.{nat_tests}
use Rattle.std.proofs.lemmas.List.Sums.{fold-append}
use Rattle.std.proofs.lemmas.Nat.{mod-pow-add}
use Rattle.a64_bits.specs.Addresses.{plain}
use Rattle.a64_bits.specs.Fields.{field_of}
use Rattle.scudo_header.specs.declared.headers.Header.{Header}
use Rattle.scudo_header.specs.declared.headers.State.{State}
use Rattle.scudo_header.specs.declared.headers.State.TheVariants.{Available, Allocated, Quarantined, Reserved}
use Rattle.scudo_header.specs.declared.headers.Origin.{Origin}
use Rattle.scudo_header.specs.declared.headers.Origin.TheVariants.{Malloc, New, NewArray, Memalign}
use Rattle.scudo_header.specs.Headers.{state_number, state_of, origin_number, origin_of, header_word, header_of, with_byte, checksum_of, packed_header, unpacked_header}
use Rattle.scudo_header.proofs.ClassLemmas.{below-true}

-- ---- the checksum

-- a word's bytes are those of its halves
pub word_halves : (start word lower : ℕ) → lower ≡ fold with_byte start (to_le_bytes w32 (word % 2 ^ 32)) → fold with_byte lower (to_le_bytes w32 (word / 2 ^ 32)) ≡ fold with_byte start (to_le_bytes w64 word)
word_halves start word lower e =
    let a : word % 2 ^ 32 % 256 ≡ word % 256 = omega arith in
    let b : word % 2 ^ 32 / 256 % 256 ≡ word / 256 % 256 = omega arith in
    let c : word % 2 ^ 32 / 65536 % 256 ≡ word / 65536 % 256 = omega arith in
    let d : word % 2 ^ 32 / 16777216 % 256 ≡ word / 16777216 % 256 = omega arith in
    let f : word / 4294967296 / 256 % 256 ≡ word / 1099511627776 % 256 = omega arith in
    let g : word / 4294967296 / 65536 % 256 ≡ word / 281474976710656 % 256 = omega arith in
    let h : word / 4294967296 / 16777216 % 256 ≡ word / 72057594037927936 % 256 = omega arith in
    let low : lower ≡ with_byte (with_byte (with_byte (with_byte start (word % 256)) (word / 256 % 256)) (word / 65536 % 256)) (word / 16777216 % 256) =
    e ∙ (λ i. with_byte (with_byte (with_byte (with_byte start (a i)) (b i)) (c i)) (d i)) in
    λ i. with_byte (with_byte (with_byte (with_byte (low i) (word / 4294967296 % 256)) (f i)) (g i)) (h i)

pub checksum_parts : (cookie pointer word p s : ℕ) → p ≡ plain pointer → s ≡ fold with_byte (cookie % 2 ^ 16) (to_le_bytes w64 p)
    → fold with_byte s (to_le_bytes w64 (word % 2 ^ 48)) ≡ checksum_of cookie pointer word
unfolding checksum_of
checksum_parts cookie pointer word p s e f =
    ap (λ x. fold with_byte x (to_le_bytes w64 (word % 2 ^ 48))) (f ∙ ap (λ x. fold with_byte (cookie % 2 ^ 16) (to_le_bytes w64 x)) e)
    ∙ sym (fold-append with_byte (cookie % 2 ^ 16) (to_le_bytes w64 (plain pointer)) (to_le_bytes w64 (word % 2 ^ 48)))

pub checksum_of-low : (cookie pointer a b : ℕ) → a % 2 ^ 48 ≡ b % 2 ^ 48 → checksum_of cookie pointer a ≡ checksum_of cookie pointer b
unfolding checksum_of
checksum_of-low cookie pointer a b e = ap (λ x. fold with_byte (cookie % 2 ^ 16) (to_le_bytes w64 (plain pointer) ++ to_le_bytes w64 x)) e

fold_small : (s : ℕ) (bytes : List ℕ) → s < 2 ^ 16 → fold with_byte s bytes < 2 ^ 16
fold_small s [] h = h
fold_small s (b ∷ more) h = fold_small (with_byte s b) more (let l : with_byte s b < 2 ^ 16 = omega arith in l)

pub checksum_of-small : (cookie pointer word : ℕ) → checksum_of cookie pointer word < 2 ^ 16
unfolding checksum_of
checksum_of-small cookie pointer word = fold_small (cookie % 2 ^ 16) (to_le_bytes w64 (plain pointer) ++ to_le_bytes w64 (word % 2 ^ 48)) (let l : cookie % 2 ^ 16 < 2 ^ 16 = omega arith in l)

-- ---- states and origins

state_back : (s : State) → state_of (state_number s) ≡ s
state_back Available = refl
state_back Allocated = refl
state_back Quarantined = refl
state_back Reserved = refl

origin_back : (o : Origin) → origin_of (origin_number o) ≡ o
origin_back Malloc = refl
origin_back New = refl
origin_back NewArray = refl
origin_back Memalign = refl

state_small : (s : State) → state_number s < 4
state_small Available = lit< tt
state_small Allocated = lit< tt
state_small Quarantined = lit< tt
state_small Reserved = lit< tt

origin_small : (o : Origin) → origin_number o < 4
origin_small Malloc = lit< tt
origin_small New = lit< tt
origin_small NewArray = lit< tt
origin_small Memalign = lit< tt

state_number-of : (n : ℕ) → n < 4 → state_number (state_of n) ≡ n
state_number-of n h = let t : (state_number (state_of n) == n) ≡ true = below-true 4 (λ k. state_number (state_of k) == k) refl n h in grind (arith, nat_tests)

origin_number-of : (n : ℕ) → n < 4 → origin_number (origin_of n) ≡ n
origin_number-of n h = let t : (origin_number (origin_of n) == n) ≡ true = below-true 4 (λ k. origin_number (origin_of k) == k) refl n h in grind (arith, nat_tests)

-- ---- the fields of a sum of fields

record AreFields (c s o z f : ℕ) : Type 0 where
  class : c < 2 ^ 8
  state : s < 4
  origin : o < 4
  size : z < 2 ^ 20
  offset : f < 2 ^ 16

abbrev sum_of : ℕ → ℕ → ℕ → ℕ → ℕ → ℕ
sum_of c s o z f = c + 2 ^ 8 * s + 2 ^ 10 * o + 2 ^ 12 * z + 2 ^ 32 * f

sum_small : (c s o z f : ℕ) → AreFields c s o z f → sum_of c s o z f < 2 ^ 48
sum_small c s o z f a = omega (arith, a.class, a.state, a.origin, a.size, a.offset)

class_back : (c s o z f k : ℕ) → AreFields c s o z f → (sum_of c s o z f + 2 ^ 48 * k) % 2 ^ 8 ≡ c
class_back c s o z f k a = omega (arith, a.class)

state_field : (c s o z f k : ℕ) → AreFields c s o z f → field_of 8 2 (sum_of c s o z f + 2 ^ 48 * k) ≡ s
state_field c s o z f k a = omega (arith, a.class, a.state)

origin_field : (c s o z f k : ℕ) → AreFields c s o z f → field_of 10 2 (sum_of c s o z f + 2 ^ 48 * k) ≡ o
origin_field c s o z f k a = omega (arith, a.class, a.state, a.origin)

size_field : (c s o z f k : ℕ) → AreFields c s o z f → field_of 12 20 (sum_of c s o z f + 2 ^ 48 * k) ≡ z
size_field c s o z f k a = omega (arith, a.class, a.state, a.origin, a.size)

offset_field : (c s o z f k : ℕ) → AreFields c s o z f → field_of 32 16 (sum_of c s o z f + 2 ^ 48 * k) ≡ f
offset_field c s o z f k a = omega (arith, a.class, a.state, a.origin, a.size, a.offset)

top_field : (w k : ℕ) → w < 2 ^ 48 → k < 2 ^ 16 → field_of 48 16 (w + 2 ^ 48 * k) ≡ k
top_field w k h l = omega arith

low_part : (w k : ℕ) → (w + 2 ^ 48 * k) % 2 ^ 48 ≡ w % 2 ^ 48
low_part w k = omega arith

header_back : (h : Header) (k : ℕ) → AreFields h.class_id (state_number h.state) (origin_number h.origin) h.size_or_unused_bytes h.offset
    → header_of (header_word h + 2 ^ 48 * k) ≡ h
header_back h k a = λ i. record {
  class_id = class_back _ _ _ _ _ k a i;
  state = (ap state_of (state_field _ _ _ _ _ k a) ∙ state_back h.state) i;
  origin = (ap origin_of (origin_field _ _ _ _ _ k a) ∙ origin_back h.origin) i;
  size_or_unused_bytes = size_field _ _ _ _ _ k a i;
  offset = offset_field _ _ _ _ _ k a i;
}

-- what is packed is unpacked
pub unpacked-header-packed-header : (cookie pointer : ℕ) (h : Header) → h.class_id < 2 ^ 8 → h.size_or_unused_bytes < 2 ^ 20 → h.offset < 2 ^ 16
    → unpacked_header cookie pointer (packed_header cookie pointer h) ≡ Some h
unfolding unpacked_header packed_header
unpacked-header-packed-header cookie pointer h c z f =
    let w = header_word h in
    let k = checksum_of cookie pointer w in
    let a : AreFields h.class_id (state_number h.state) (origin_number h.origin) h.size_or_unused_bytes h.offset =
    record { class = c; state = state_small h.state; origin = origin_small h.origin; size = z; offset = f } in
    let e : field_of 48 16 (w + 2 ^ 48 * k) ≡ checksum_of cookie pointer (w + 2 ^ 48 * k) =
    top_field w k (sum_small _ _ _ _ _ a) (checksum_of-small cookie pointer w) ∙ checksum_of-low cookie pointer w (w + 2 ^ 48 * k) (sym (low_part w k)) in
    cond-true _ _ _ (eq-eqb _ _ e) ∙ ap Some (header_back h k a)

sum_fits : (w s k : ℕ) → s ≡ k → k < 2 ^ 16 → w + s * 281474976710656 % 18446744073709551616 ≡ w + 2 ^ 48 * k
sum_fits w s k e l = omega arith

-- the word as the code adds it up
pub packed_sum : (cookie pointer w s k : ℕ) (h : Header) → w ≡ header_word h → w < 2 ^ 48 → k ≡ checksum_of cookie pointer w → s ≡ k → w + s * 281474976710656 % 18446744073709551616 ≡ packed_header cookie pointer h
unfolding packed_header
packed_sum cookie pointer w s k h e l d f =
    let b : k < 2 ^ 16 = subst (λ x. x < 2 ^ 16) (sym d) (checksum_of-small cookie pointer w) in
    let m : w + s * 281474976710656 % 18446744073709551616 ≡ w + 2 ^ 48 * k = sum_fits w s k f b in
    m ∙ ap (λ x. w + 2 ^ 48 * x) d ∙ ap (λ x. x + 2 ^ 48 * checksum_of cookie pointer x) e

-- ---- the word of a word's fields

parts_sum : (a b c d e x y z w : ℕ) → w ≡ e * 4294967296 + z → z ≡ d * 4096 + y → y ≡ c * 1024 + x → x ≡ b * 256 + a
    → a + 2 ^ 8 * b + 2 ^ 10 * c + 2 ^ 12 * d + 2 ^ 32 * e ≡ w
parts_sum a b c d e x y z w p q r s = omega arith

mod_small : (n : ℕ) → n % 4 < 4
mod_small n = omega arith

field_small : (w k : ℕ) → w / 2 ^ k % 4 < 4
field_small w k = mod_small (w / 2 ^ k)

pub header_word-of : (w : ℕ) → header_word (header_of w) ≡ w % 2 ^ 48
header_word-of w =
    let s : state_number (state_of (field_of 8 2 w)) ≡ field_of 8 2 w = state_number-of _ (field_small w 8) in
    let o : origin_number (origin_of (field_of 10 2 w)) ≡ field_of 10 2 w = origin_number-of _ (field_small w 10) in
    (λ i. w % 2 ^ 8 + 2 ^ 8 * s i + 2 ^ 10 * o i + 2 ^ 12 * field_of 12 20 w + 2 ^ 32 * field_of 32 16 w)
    ∙ parts_sum (w % 2 ^ 8) (field_of 8 2 w) (field_of 10 2 w) (field_of 12 20 w) (field_of 32 16 w) (w % 2 ^ 10) (w % 2 ^ 12) (w % 2 ^ 32) (w % 2 ^ 48)
    (mod-pow-add w 16 32) (mod-pow-add w 20 12) (mod-pow-add w 2 10) (mod-pow-add w 2 8)

whole : (w k : ℕ) → k ≡ w / 2 ^ 48 → w % 2 ^ 48 + 2 ^ 48 * k ≡ w
whole w k e = omega arith

mod_twice : (w : ℕ) → w % 2 ^ 48 % 2 ^ 48 ≡ w % 2 ^ 48
mod_twice w = omega arith

-- what is unpacked was packed
pub packed-header-header_of : (cookie pointer w : ℕ) (h : Header) → h ≡ header_of w → w / 2 ^ 48 ≡ checksum_of cookie pointer w → packed_header cookie pointer h ≡ w
unfolding packed_header
packed-header-header_of cookie pointer w h e k =
    let v : header_word h ≡ w % 2 ^ 48 = ap header_word e ∙ header_word-of w in
    let l : checksum_of cookie pointer (w % 2 ^ 48) ≡ checksum_of cookie pointer w = checksum_of-low cookie pointer (w % 2 ^ 48) w (mod_twice w) in
    (λ i. v i + 2 ^ 48 * checksum_of cookie pointer (v i)) ∙ whole w _ (l ∙ sym k)
