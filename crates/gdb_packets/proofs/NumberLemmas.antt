-- Numbers as hexadecimal digits.
use Rattle.std.proofs.Common.{◌≡◌, ℕ, zero, suc, ◌+◌, ◌*◌, ◌/◌, ◌%◌, ◌^◌, ◌<◌, ◌≤◌, ◌==◌, ◌&&◌, nat_lt, nat_le, Bool, true, false, cond}
use Rattle.std.proofs.Common.{List, [], ◌∷◌, length, get_or, Option, Some, None, refl, ap, sym, ◌∙◌, arith, SomeIff, add-one}
use Rattle.std.proofs.Math.Nat.{pow-suc, pow-le-pow_right}
use Rattle.std.proofs.lemmas.Nat.{div_below}
use Rattle.std.proofs.lemmas.Bool.{eqb-false}
use Rattle.std.proofs.lemmas.Fmt.{digits_is_IsNumeral}
use Rattle.std.specs.Char.{digit_value}
use Rattle.std.specs.Str.Parse.{AllDigits, digits_value}
use Rattle.std.specs.Fmt.{digits, digits_onto, digit_glyph}
use Rattle.std.specs.Char.{is_digit}
use Rattle.std.specs.List.{list_all}
use Rattle.std.specs.Str.Parse.{IsNumeral}
use Rattle.std.proofs.lemmas.Bool.{lt-ltb, le-leb, ltb-true, leb-true}
use Rattle.gdb_packets.specs.Digits.{number_of}

-- A number of at most 64 bits is 1 to 16 digits.
pub record IsNumber (text : List ℕ) : Type 0 where
  pub numeral : IsNumeral 16 text
  pub short : length text ≤ 16

-- Each byte of a numeral is a digit.
pub AllDigits-at : (text : List ℕ) (i : ℕ) → i < length text → AllDigits 16 text → digit_value (get_or text i 0) < 16
AllDigits-at [] i below all = absurd (omega arith)
AllDigits-at (b ∷ text) zero below all = all.0
AllDigits-at (b ∷ text) (suc i) below all = AllDigits-at text i (omega arith) all.1

-- One more digit.
pub next_small : (value digit i : ℕ) → value < 16 ^ i → digit < 16 → value * 16 + digit < 16 ^ (i + 1)
next_small value digit i small low = rw (add-one, pow-suc 16 i) (omega arith)

pub next_fits : (value digit i : ℕ) → value < 16 ^ i → digit < 16 → i < 16 → value * 16 + digit < 2 ^ 64
next_fits value digit i small low below =
    let more = next_small value digit i small low in
    let within : i + 1 ≤ 16 = omega arith in
    let most : 16 ^ (i + 1) ≤ 16 ^ 16 = pow-le-pow_right (omega arith) within in
    omega arith

-- More room for digits than a number has changes nothing of its digits.
same_choice : (t : Bool) (x y z : List ℕ) → (t ≡ false → y ≡ z) → cond t x y ≡ cond t x z
same_choice true x y z h = refl
same_choice false x y z h = h refl

no_digits : (n : ℕ) (j : ℕ) → n < 16 ^ j → (n ≡ 0 → ⊥) → 0 < j
no_digits n zero small other = absurd (other (omega arith))
no_digits n (suc j) small other = omega arith

digits_room : (j k n : ℕ) (after : List ℕ) → 0 < j → j ≤ k → n < 16 ^ j → digits_onto j 16 false n after ≡ digits_onto k 16 false n after
digits_room zero k n after some fits small = absurd (omega arith)
digits_room (suc j) zero n after some fits small = absurd (omega arith)
digits_room (suc j) (suc k) n after some fits small =
    let next : n / 16 < 16 ^ j = div_below n 16 (16 ^ j) (omega arith) (rw (← pow-suc 16 j) small) in
    let digit = digit_glyph false (n % 16) in
    same_choice (n / 16 == 0) (digit ∷ after) (digits_onto j 16 false (n / 16) (digit ∷ after)) (digits_onto k 16 false (n / 16) (digit ∷ after))
    (λ t. digits_room j k (n / 16) (digit ∷ after) (no_digits (n / 16) j next (eqb-false (n / 16) 0 t)) (omega arith) next)

pub digits-sixteen : (n : ℕ) → n < 2 ^ 64 → digits_onto 16 16 false n [] ≡ digits 16 false n
unfolding digits
digits-sixteen n small = digits_room 16 64 n [] (omega arith) (omega arith) small

length-digits_onto : (k n : ℕ) (after : List ℕ) → length (digits_onto k 16 false n after) ≤ k + length after
length-digits_onto zero n after = omega arith
length-digits_onto (suc k) n after = by (n / 16 == 0) (length-digits_onto k (n / 16) (digit_glyph false (n % 16) ∷ after)) where
  by : (t : Bool) → length (digits_onto k 16 false (n / 16) (digit_glyph false (n % 16) ∷ after)) ≤ k + length (digit_glyph false (n % 16) ∷ after)
      → length (cond t (digit_glyph false (n % 16) ∷ after) (digits_onto k 16 false (n / 16) (digit_glyph false (n % 16) ∷ after))) ≤ suc k + length after
  by true h = omega arith
  by false h = omega arith

pub digits_number : (n : ℕ) → n < 2 ^ 64 → IsNumber (digits 16 false n) × (digits_value 16 (digits 16 false n) ≡ n)
digits_number n small =
    let large : n < 16 ^ 64 = omega arith in
    let both = digits_is_IsNumeral 16 false (omega arith) (omega arith) n large in
    let len : length (digits 16 false n) ≤ 16 = rw (← digits-sixteen n small) (omega (arith, length-digits_onto 16 n [])) in
    (record { numeral = both.0; short = len }, both.1)

both_true : (a b : Bool) → (a && b) ≡ true → (a ≡ true) × (b ≡ true)
both_true true b h = (refl, h)
both_true false b h = cc

all_digits : (text : List ℕ) → AllDigits 16 text → list_all (λ c. is_digit c 16) text ≡ true
all_digits [] h = refl
all_digits (c ∷ text) h =
    let first : is_digit c 16 ≡ true = lt-ltb (digit_value c) 16 h.0 in
    rw (first, all_digits text h.1) refl

each_digit : (text : List ℕ) → list_all (λ c. is_digit c 16) text ≡ true → AllDigits 16 text
each_digit [] h = tt
each_digit (c ∷ text) h =
    let both = both_true (is_digit c 16) (list_all (λ d. is_digit d 16) text) h in
    (ltb-true (digit_value c) 16 both.0, each_digit text both.1)

number_if : (text : List ℕ) (t : Bool) → t ≡ (nat_lt 0 (length text) && nat_le (length text) 16 && list_all (λ c. is_digit c 16) text)
    → t ≡ true → IsNumber text
number_if text t e h =
    let all = both_true (nat_lt 0 (length text) && nat_le (length text) 16) (list_all (λ c. is_digit c 16) text) (sym e ∙ h) in
    let sizes = both_true (nat_lt 0 (length text)) (nat_le (length text) 16) all.0 in
    record {
      numeral = (ltb-true 0 (length text) sizes.0, each_digit text all.1);
      short = leb-true (length text) 16 sizes.1;
    }

none_if : (t : Bool) (v : ℕ) → (t ≡ true → ⊥) → None ≡ cond t (Some v) None
none_if true v h = absurd (h refl)
none_if false v h = refl

pub number_is : (text : List ℕ) (r : Option ℕ) → SomeIff r (IsNumber text) (digits_value 16 text) → r ≡ number_of text
unfolding number_of
number_is text None h =
    let t = nat_lt 0 (length text) && nat_le (length text) 16 && list_all (λ c. is_digit c 16) text in
    none_if t (digits_value 16 text) (λ e. h (number_if text t refl e))
number_is text (Some v) h =
    let number = h.0 in
    let first : nat_lt 0 (length text) ≡ true = lt-ltb 0 (length text) number.numeral.0 in
    let second : nat_le (length text) 16 ≡ true = le-leb (length text) 16 number.short in
    rw (first, second, all_digits text number.numeral.1, h.1) refl

some_by : (r : Option ℕ) (P : Type 0) (v : ℕ) → SomeIff r P v → P → r ≡ Some v
some_by None P v h p = absurd (h p)
some_by (Some x) P v h p = ap Some h.1

-- What was written is read again.
pub number_again : (text : List ℕ) (r : Option ℕ) → SomeIff r (IsNumber text) (digits_value 16 text)
    → (n : ℕ) → n < 2 ^ 64 → text ≡ digits 16 false n → r ≡ Some n
number_again text r h n small e =
    let both = digits_number n small in
    some_by r (IsNumber text) (digits_value 16 text) h (rw e both.0) ∙ ap Some (ap (digits_value 16) e ∙ both.1)

pub number_by : (text : List ℕ) (r : Option ℕ) → SomeIff r (AllDigits 16 text) (digits_value 16 text) → 0 < length text → length text ≤ 16
    → SomeIff r (IsNumber text) (digits_value 16 text)
number_by text None h some short = λ n. h n.numeral.1
number_by text (Some v) h some short = (record { numeral = (some, h.0); short = short }, h.1)
