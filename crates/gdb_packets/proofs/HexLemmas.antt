-- Bytes and registers as hexadecimal digits.
use Rattle.std.proofs.Common.{◌≡◌, ℕ, zero, suc, ◌+◌, ◌-◌, ◌*◌, ◌/◌, ◌%◌, ◌^◌, ◌<◌, ◌≤◌, ◌==◌, ◌&&◌, Bool, true, false, cond, nat_lt, nat_le}
use Rattle.std.proofs.Common.{List, ◌∷◌, ◌++◌, length, take, drop, get_or, replicate, Option, Some, None, Result, Ok, Err, refl, ap, sym, ◌∙◌, arith, add-zero}
use Rattle.std.proofs.Common.{MatchResult, option_map, inl, inr}
use Rattle.std.proofs.lemmas.List.{take_at, get_or-take, get_or-drop, get_or_append_left, get_or-append_right, get_or_past, get_or-replicate}
use Rattle.std.proofs.lemmas.List.Sums.{AllPass-from_list_all, list_all-from_AllPass}
use Rattle.std.proofs.lemmas.Bool.{eq-eqb, eqb-true, cases_lt, lt-ltb, le-leb, ltb-true, leb-true}
use Rattle.std.proofs.lemmas.Nat.{from_le_bytes-to_le_bytes_8, div_below}
use Rattle.std.proofs.Math.Nat.{pow-le-pow_right}
use Rattle.std.specs.List.{list_all}
use Rattle.std.specs.Result.{result_ok}
use Rattle.std.specs.Int.{from_le_bytes, to_le_bytes, w64, bytes_low_first, byte_at}
use Rattle.hex.specs.Hex.{decode_of, decode_sized, encode_lower, is_hex_digit, IsBytes, lower_digits}
use Rattle.hex.specs.declared.FromHexError.{FromHexError}
use Rattle.hex.proofs.HexLemmas.{decode_of-ok, decode_of-digits, decode_sized-twice, decode_of-encode_lower, length-encode_with}
use Rattle.gdb_packets.specs.Digits.{hex_bytes, is_hex_text, Puts, register_of}

both_true : (a b : Bool) → (a && b) ≡ true → (a ≡ true) × (b ≡ true)
both_true true b h = (refl, h)
both_true false b h = cc

not_hex_by : (text : List ℕ) (r : Result (List ℕ) FromHexError) → decode_of text ≡ r → is_hex_text text ≡ false → hex_bytes text ≡ None
not_hex_by text (Err e) h other = ap result_ok h
not_hex_by text (Ok bytes) h other =
    let ok = decode_of-ok text bytes h in
    let even : (length text % 2 == 0) ≡ true = eq-eqb (length text % 2) 0 ok.0 in
    let digits = list_all-from_AllPass is_hex_digit text ok.1 in
    let both : is_hex_text text ≡ true = rw (even, digits) refl in
    cc

pub not_hex : (text : List ℕ) → is_hex_text text ≡ false → hex_bytes text ≡ None
not_hex text other = not_hex_by text (decode_of text) refl other

-- What a text of digits decodes to.
pub hex_put : (text out old : List ℕ) (n m : ℕ) (r : Result (Unit {0}) FromHexError) → is_hex_text text ≡ true → n ≡ length text / 2
    → m ≡ n → MatchResult (decode_sized text m) (λ bytes. (r ≡ Ok tt) × (out ≡ bytes)) (λ e. r ≡ Err e)
    → Puts (hex_bytes text) old (out ++ drop n old) (Some n)
hex_put text out old n m r digits half same h =
    let both = both_true (length text % 2 == 0) (list_all is_hex_digit text) digits in
    let even = eqb-true (length text % 2) 0 both.0 in
    let bytes = decode_of-digits text even (AllPass-from_list_all is_hex_digit text both.1) in
    let ok = decode_of-ok text bytes.0 bytes.1 in
    let twice : length text ≡ 2 * n = omega arith in
    let k = rw (same, decode_sized-twice text n twice, bytes.1) at h in
    let len : n ≡ length bytes.0 = omega (arith, ok.2) in
    rw bytes.1 (ap Some len, rw (k.1, ← len) refl)

pub hex_again : (text old new : List ℕ) (r : Option ℕ) → Puts (hex_bytes text) old new r → (bytes : List ℕ) → IsBytes bytes → text ≡ encode_lower bytes
    → (r ≡ Some (length bytes)) × (take (length bytes) new ≡ bytes)
hex_again text old new r h bytes small e =
    let some : hex_bytes text ≡ Some bytes = ap hex_bytes e ∙ ap result_ok (decode_of-encode_lower bytes small) in
    let k = rw some at h in
    (k.0, ap (take (length bytes)) k.1 ∙ take_at bytes (drop (length bytes) old) (length bytes) refl)

-- The value of a register. Zeros after its bytes change nothing.
from_le_same : (a b : List ℕ) → ((i : ℕ) → get_or a i 0 ≡ get_or b i 0) → from_le_bytes w64 a ≡ from_le_bytes w64 b
from_le_same a b h = rw (h 0, h 1, h 2, h 3, h 4, h 5, h 6, h 7) refl

abbrev pub zeros : List ℕ
zeros = replicate 8 0

zeros_at : (i : ℕ) → get_or zeros i 0 ≡ 0
zeros_at i = elim (cases_lt i 8) [
  | inl below ↦ get_or-replicate 8 i 0 0 below
  | inr past ↦ get_or_past zeros i 0 past
]

padded_at : (bytes : List ℕ) (n i : ℕ) → get_or (bytes ++ drop n zeros) i 0 ≡ get_or bytes i 0
padded_at bytes n i = elim (cases_lt i (length bytes)) [
  | inl below ↦ get_or_append_left bytes (drop n zeros) 0 i below
  | inr past ↦ get_or-append_right bytes (drop n zeros) (length bytes) i 0 refl past
      ∙ get_or-drop n zeros (i - length bytes) 0 ∙ zeros_at (n + (i - length bytes)) ∙ sym (get_or_past bytes i 0 past)
]

register_by : (text bytes new : List ℕ) (n : ℕ) → hex_bytes text ≡ Some bytes → new ≡ bytes ++ drop (length bytes) zeros
    → 0 < length text → length text ≤ 16 → Some (from_le_bytes w64 new) ≡ register_of text
register_by text bytes new n e put some short =
    let first : nat_lt 0 (length text) ≡ true = lt-ltb 0 (length text) some in
    let second : nat_le (length text) 16 ≡ true = le-leb (length text) 16 short in
    rw (first, second, e, put) (ap Some (from_le_same (bytes ++ drop (length bytes) zeros) bytes (padded_at bytes (length bytes))))

pub register_read : (text new : List ℕ) (o : Option (List ℕ)) (n : ℕ) → hex_bytes text ≡ o → Puts o zeros new (Some n)
    → 0 < length text → length text ≤ 16 → Some (from_le_bytes w64 new) ≡ register_of text
register_read text new None n e h some short = cc h.0
register_read text new (Some bytes) n e h some short = register_by text bytes new n e h.1 some short

-- The low bytes of a value.
low_bytes : (i size k n : ℕ) → size ≤ k → take size (bytes_low_first i k n) ≡ bytes_low_first i size n
low_bytes i zero k n fits = refl
low_bytes i (suc size) zero n fits = absurd (omega arith)
low_bytes i (suc size) (suc k) n fits = ap (λ z. byte_at i n ∷ z) (low_bytes (suc i) size k n (omega arith))

length-low : (i k n : ℕ) → length (bytes_low_first i k n) ≡ k
length-low i zero n = refl
length-low i (suc k) n = ap suc (length-low (suc i) k n)

byte_at-small : (i n : ℕ) → byte_at i n < 256
byte_at-small zero n = omega arith
byte_at-small (suc i) n = omega arith

low_small : (i k n j : ℕ) → get_or (bytes_low_first i k n) j 0 < 256
low_small i zero n j = omega arith
low_small i (suc k) n zero = byte_at-small i n
low_small i (suc k) n (suc j) = low_small (suc i) k n j

byte_at-zero : (i n : ℕ) → n < 256 ^ i → byte_at i n ≡ 0
byte_at-zero zero n small = omega arith
byte_at-zero (suc i) n small =
    let p = 256 ^ suc i in
    let some : 0 < p = omega arith in
    let none = div_below n p 1 some (omega arith) in
    omega arith

high_zero : (i k n j : ℕ) → n < 256 ^ (i + j) → get_or (bytes_low_first i k n) j 0 ≡ 0
high_zero i zero n j small = refl
high_zero i (suc k) n zero small = byte_at-zero i n (rw add-zero at small)
high_zero i (suc k) n (suc j) small =
    let e : i + suc j ≡ suc i + j = omega arith in
    high_zero (suc i) k n j (rw e at small)

below_power : (n i j : ℕ) → i ≤ j → n < 256 ^ i → n < 256 ^ j
below_power n i j h small =
    let more : 256 ^ i ≤ 256 ^ j = pow-le-pow_right (omega arith) h in
    omega arith

low_at : (size n i : ℕ) → size ≤ 8 → n < 256 ^ size → get_or (bytes_low_first 0 size n) i 0 ≡ get_or (bytes_low_first 0 8 n) i 0
low_at size n i fits small = elim (cases_lt i size) [
  | inl below ↦
      ap (λ z. get_or z i 0) (sym (low_bytes 0 size 8 n fits)) ∙ get_or-take size (bytes_low_first 0 8 n) i 0 below
  | inr past ↦
      let over : length (bytes_low_first 0 size n) ≤ i = omega (arith, length-low 0 size n) in
      let high : n < 256 ^ (0 + i) = below_power n size (0 + i) (omega arith) small in
      get_or_past (bytes_low_first 0 size n) i 0 over ∙ sym (high_zero 0 8 n i high)
]

low_value : (size n : ℕ) → size ≤ 8 → n < 256 ^ size → from_le_bytes w64 (bytes_low_first 0 size n) ≡ n
low_value size n fits small =
    let whole : n < 2 ^ 64 = below_power n size 8 fits small in
    from_le_same (bytes_low_first 0 size n) (bytes_low_first 0 8 n) (λ i. low_at size n i fits small) ∙ from_le_bytes-to_le_bytes_8 n whole

register_value : (text bytes : List ℕ) → hex_bytes text ≡ Some bytes → 0 < length text → length text ≤ 16
    → register_of text ≡ Some (from_le_bytes w64 bytes)
register_value text bytes e some short =
    let first : nat_lt 0 (length text) ≡ true = lt-ltb 0 (length text) some in
    let second : nat_le (length text) 16 ≡ true = le-leb (length text) 16 short in
    rw (first, second, e) refl

-- What was written is read again.
pub register_again : (text : List ℕ) (r : Option ℕ) → r ≡ register_of text → (value size : ℕ) → 0 < size → size ≤ 8 → value < 256 ^ size
    → text ≡ encode_lower (take size (to_le_bytes w64 value)) → r ≡ Some value
register_again text r e value size some fits small same =
    let low = bytes_low_first 0 size value in
    let written : text ≡ encode_lower low = same ∙ ap encode_lower (low_bytes 0 size 8 value fits) in
    let read : hex_bytes text ≡ Some low = ap hex_bytes written ∙ ap result_ok (decode_of-encode_lower low (low_small 0 size value)) in
    let len : length text ≡ 2 * size = ap length written ∙ length-encode_with lower_digits low ∙ ap (λ k. 2 * k) (length-low 0 size value) in
    e ∙ register_value text low read (omega arith) (omega arith) ∙ ap Some (low_value size value fits small)

none_by : (t u : Bool) (o : Option ℕ) → (t ≡ true → u ≡ true → ⊥) → None ≡ cond (t && u) o None
none_by true true o h = absurd (h refl refl)
none_by true false o h = refl
none_by false u o h = refl

pub register_none : (text : List ℕ) → (0 < length text → length text ≤ 16 → ⊥) → None ≡ register_of text
register_none text h =
    none_by (nat_lt 0 (length text)) (nat_le (length text) 16) (option_map (from_le_bytes w64) (hex_bytes text))
    (λ t u. h (ltb-true 0 (length text) t) (leb-true (length text) 16 u))
