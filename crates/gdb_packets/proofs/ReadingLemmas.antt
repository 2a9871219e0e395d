-- What the bytes that came are: laws.
use Rattle.std.proofs.Common.{◌≡◌, ◌≢◌, ℕ, zero, suc, ◌+◌, ◌-◌, ◌/◌, ◌%◌, ◌<◌, ◌≤◌, ◌==◌, ◌||◌, not, nat_lt, Bool, true, false, cond}
use Rattle.std.proofs.Common.{List, [], ◌∷◌, ◌++◌, length, take, drop, get_or, Some, refl, ap, sym, ◌∙◌, arith}
use Rattle.std.proofs.Common.{length-append, length-drop, append_assoc, slice_index, bit_xor, inl, inr}
use Rattle.std.proofs.lemmas.List.{take_at, drop_at, take-append-le, drop-append-le, length-take-le, drop_all, take_all}
use Rattle.std.proofs.lemmas.Bool.{lt-ltb, le-ltb, eq-eqb, ltb-true, ltb-false, cases_lt}
use Rattle.std.proofs.lemmas.List.Sums.{prefix_len-le-length}
use Rattle.std.specs.List.{prefix_len}
use Rattle.hex.specs.Hex.{encode_lower, encode_with, lower_digits}
use Rattle.hex.proofs.HexLemmas.{decode_sized-encode_lower}
use Rattle.gdb_packets.specs.Framing.{escape_of, with_escapes, frame_of_payload, is_reserved, checksum_of}
use Rattle.gdb_packets.specs.Reading.{Reading, packet, bad, more, is_data, is_value, digits_byte, check_packet, after_data, after_dollar, reading_of, Takes}
use Rattle.gdb_packets.specs.declared.input.TheConstants.{PACKET_SIZE}
use Rattle.gdb_packets.proofs.EscapeLemmas.{reserved_cases}
use Rattle.gdb_packets.proofs.FrameLemmas.{length-frame_of}
use Rattle.gdb_packets.proofs.DigitLemmas.{first_of, digits_byte-decode_sized}

turned_is_data : (b : ℕ) → is_reserved b ≡ true → is_data (bit_xor b 32) ≡ true
turned_is_data = reserved_cases (λ b. is_data (bit_xor b 32) ≡ true) refl refl refl refl

plain_is_data : (b : ℕ) → is_reserved b ≡ false → is_data b ≡ true
plain_is_data b h = by (b == 35) (b == 36) refl refl h where
  by : (t u : Bool) → (b == 35) ≡ t → (b == 36) ≡ u → (t || u || (b == 125) || (b == 42)) ≡ false → not (t || u) ≡ true
  by true u e f all = cc
  by false true e f all = cc
  by false false e f all = refl

-- All data of an escaped payload stand before the `#` that follows them.
data_before : (b : ℕ) (rest : List ℕ) (n : ℕ) → is_data b ≡ true → prefix_len is_data rest ≡ n → prefix_len is_data (b ∷ rest) ≡ 1 + n
data_before b rest n h e = rw (h, e) refl

escaped_more : (b : ℕ) (t : Bool) → is_reserved b ≡ t → (rest : List ℕ) (n : ℕ) → prefix_len is_data rest ≡ n
    → prefix_len is_data (escape_of b ++ rest) ≡ length (escape_of b) + n
escaped_more b true h rest n e = rw h (data_before 125 (bit_xor b 32 ∷ rest) (1 + n) refl (data_before (bit_xor b 32) rest n (turned_is_data b h) e) ∙ omega arith)
escaped_more b false h rest n e = rw h (data_before b rest n (plain_is_data b h) e)

pub escaped_prefix : (payload rest : List ℕ) → prefix_len is_data (with_escapes payload ++ 35 ∷ rest) ≡ length (with_escapes payload)
escaped_prefix [] rest = refl
escaped_prefix (b ∷ payload) rest =
    ap (prefix_len is_data) (append_assoc (escape_of b) (with_escapes payload) (35 ∷ rest))
    ∙ escaped_more b (is_reserved b) refl (with_escapes payload ++ 35 ∷ rest) (length (with_escapes payload)) (escaped_prefix payload rest)
    ∙ sym (length-append (escape_of b) (with_escapes payload))

-- The digits of a checksum are read as the checksum.
small_byte : (n i : ℕ) → n < 256 → get_or (n ∷ []) i 0 < 256
small_byte n zero h = h
small_byte n (suc i) h = omega arith

closed_by : (bytes rest : List ℕ) (high low : ℕ) → digits_byte high low ≡ Some (checksum_of bytes)
    → check_packet bytes (high ∷ low ∷ rest) ≡ packet bytes (length bytes + 4)
closed_by bytes rest high low e =
    let n = checksum_of bytes in
    let same : is_value (digits_byte high low) n ≡ true = ap (λ v. is_value v n) e ∙ eq-eqb n n refl in
    ap (λ t. cond t (packet bytes (length bytes + 4)) (bad (length bytes + 4))) same

digits_again : (bytes rest : List ℕ) → check_packet bytes (encode_lower (checksum_of bytes ∷ []) ++ rest) ≡ packet bytes (length bytes + 4)
unfolding encode_with
digits_again bytes rest =
    let n = checksum_of bytes in
    let high = slice_index lower_digits (n / 16) in
    let low = slice_index lower_digits (n % 16) in
    let small : n < 256 = omega arith in
    let read = decode_sized-encode_lower (n ∷ []) 1 refl (λ i. small_byte n i small) in
    closed_by bytes rest high low (digits_byte-decode_sized high low ∙ ap first_of read)

after_dollar-data : (bytes rest : List ℕ) → prefix_len is_data (bytes ++ rest) ≡ length bytes → length bytes ≤ PACKET_SIZE
    → after_dollar (bytes ++ rest) ≡ after_data bytes rest
after_dollar-data bytes rest e fits =
    let short : nat_lt PACKET_SIZE (length bytes) ≡ false = le-ltb PACKET_SIZE (length bytes) fits in
    rw (e, take_at bytes rest (length bytes) refl, drop_at bytes rest (length bytes) refl, short) refl

pub read_again : (payload rest : List ℕ) → length (with_escapes payload) ≤ PACKET_SIZE
    → reading_of (frame_of_payload payload ++ rest) ≡ packet (with_escapes payload) (length (frame_of_payload payload))
read_again payload rest fits =
    let bytes = with_escapes payload in
    let digits = encode_lower (checksum_of bytes ∷ []) in
    ap after_dollar (append_assoc bytes (35 ∷ digits) rest)
    ∙ after_dollar-data bytes (35 ∷ (digits ++ rest)) (escaped_prefix payload (digits ++ rest)) fits
    ∙ digits_again bytes rest
    ∙ ap (packet bytes) (sym (length-frame_of bytes))

-- What an input takes.
takes_choice : (bytes : List ℕ) (t : Bool) (x y : Reading) → (t ≡ true → Takes bytes x) → (t ≡ false → Takes bytes y) → Takes bytes (cond t x y)
takes_choice bytes true x y p q = p refl
takes_choice bytes false x y p q = q refl

takes_closed : (all bytes rest : List ℕ) → length all ≡ length bytes + 2 + length rest → length bytes ≤ PACKET_SIZE → Takes all (check_packet bytes rest)
takes_closed all bytes [] e fits = omega arith
takes_closed all bytes (high ∷ []) e fits = omega arith
takes_closed all bytes (high ∷ low ∷ rest) e fits =
    takes_choice all (is_value (digits_byte high low) (checksum_of bytes)) (packet bytes (length bytes + 4)) (bad (length bytes + 4))
    (λ _. (omega arith, omega arith)) (λ _. (omega arith, omega arith))

takes_data : (all bytes rest : List ℕ) → length all ≡ length bytes + 1 + length rest → length bytes ≤ PACKET_SIZE → Takes all (after_data bytes rest)
takes_data all bytes [] e fits = omega arith
takes_data all bytes (b ∷ rest) e fits =
    takes_choice all (b == 36) (bad (length bytes + 1)) (check_packet bytes rest)
    (λ _. (omega arith, omega arith)) (λ _. takes_closed all bytes rest (omega arith) fits)

takes_dollar : (b : ℕ) (rest : List ℕ) → Takes (b ∷ rest) (after_dollar rest)
takes_dollar b rest =
    let n = prefix_len is_data rest in
    let within : n ≤ length rest = prefix_len-le-length is_data rest in
    let len : length (take n rest) ≡ n = length-take-le n rest within in
    let left : length (drop n rest) ≡ length rest - n = length-drop n rest in
    takes_choice (b ∷ rest) (nat_lt PACKET_SIZE (length (take n rest))) (bad (PACKET_SIZE + 2)) (after_data (take n rest) (drop n rest))
    (λ t. let long = ltb-true PACKET_SIZE (length (take n rest)) t in (omega arith, omega arith))
    (λ t. let short = ltb-false PACKET_SIZE (length (take n rest)) t in takes_data (b ∷ rest) (take n rest) (drop n rest) (omega arith) short)

pub takes : (bytes : List ℕ) → Takes bytes (reading_of bytes)
takes [] = omega arith
takes (b ∷ rest) =
    takes_choice (b ∷ rest) (b == 36) (after_dollar rest) _ (λ _. takes_dollar b rest)
    (λ _. takes_choice (b ∷ rest) (b == 43) _ _ (λ _. (omega arith, omega arith))
    (λ _. takes_choice (b ∷ rest) (b == 45) _ _ (λ _. (omega arith, omega arith))
    (λ _. takes_choice (b ∷ rest) (b == 3) _ _ (λ _. (omega arith, omega arith)) (λ _. (omega arith, omega arith)))))

-- What comes later changes nothing.
one_more : (t : Bool) (m n k : ℕ) → (n < k → m ≡ n) → cond t (1 + n) 0 < 1 + k → cond t (1 + m) 0 ≡ cond t (1 + n) 0
one_more true m n k h below = ap (λ z. 1 + z) (h (omega arith))
one_more false m n k h below = refl

prefix_stop : (p : ℕ → Bool) (xs ys : List ℕ) → prefix_len p xs < length xs → prefix_len p (xs ++ ys) ≡ prefix_len p xs
prefix_stop p [] ys h = absurd (omega arith)
prefix_stop p (x ∷ xs) ys h =
    one_more (p x) (prefix_len p (xs ++ ys)) (prefix_len p xs) (length xs) (prefix_stop p xs ys) (omega arith)

all_more : (t : Bool) (m n k : ℕ) → (k ≤ n → k ≤ m) → 1 + k ≤ cond t (1 + n) 0 → 1 + k ≤ cond t (1 + m) 0
all_more true m n k h long = let more : k ≤ m = h (omega arith) in omega arith
all_more false m n k h long = absurd (omega arith)

prefix_all : (p : ℕ → Bool) (xs ys : List ℕ) → length xs ≤ prefix_len p xs → length xs ≤ prefix_len p (xs ++ ys)
prefix_all p [] ys h = omega arith
prefix_all p (x ∷ xs) ys h =
    let all = all_more (p x) (prefix_len p (xs ++ ys)) (prefix_len p xs) (length xs) (prefix_all p xs ys) (omega arith) in
    omega arith

settled_closed : (bytes rest later : List ℕ) → check_packet bytes rest ≢ more → check_packet bytes (rest ++ later) ≡ check_packet bytes rest
settled_closed bytes [] later known = absurd (known refl)
settled_closed bytes (high ∷ []) later known = absurd (known refl)
settled_closed bytes (high ∷ low ∷ rest) later known = refl

settled_choice : (t : Bool) (x y z : Reading) → (y ≢ more → z ≡ y) → cond t x y ≢ more → cond t x z ≡ cond t x y
settled_choice true x y z h known = refl
settled_choice false x y z h known = h known

settled_data : (bytes rest later : List ℕ) → after_data bytes rest ≢ more → after_data bytes (rest ++ later) ≡ after_data bytes rest
settled_data bytes [] later known = absurd (known refl)
settled_data bytes (b ∷ rest) later known =
    settled_choice (b == 36) (bad (length bytes + 1)) (check_packet bytes rest) (check_packet bytes (rest ++ later)) (settled_closed bytes rest later) known

settled_begun : (rest later : List ℕ) (n m : ℕ) → n ≡ prefix_len is_data rest → m ≡ prefix_len is_data (rest ++ later) → n < length rest
    → after_dollar rest ≢ more → after_dollar (rest ++ later) ≡ after_dollar rest
settled_begun rest later n m e f below known =
    let same : m ≡ n = f ∙ prefix_stop is_data rest later (omega arith) ∙ sym e in
    let bytes = take-append-le n rest later (omega arith) in
    let left = drop-append-le n rest later (omega arith) in
    let k = rw (← e) at known in
    rw (← f, ← e, same, bytes, left)
    (settled_choice (nat_lt PACKET_SIZE (length (take n rest))) (bad (PACKET_SIZE + 2)) (after_data (take n rest) (drop n rest))
    (after_data (take n rest) (drop n rest ++ later)) (settled_data (take n rest) (drop n rest) later) k)

long_dollar : (rest : List ℕ) → PACKET_SIZE < prefix_len is_data rest → after_dollar rest ≡ bad (PACKET_SIZE + 2)
long_dollar rest long =
    let n = prefix_len is_data rest in
    let len : length (take n rest) ≡ n = length-take-le n rest (prefix_len-le-length is_data rest) in
    let test : nat_lt PACKET_SIZE (length (take n rest)) ≡ true = lt-ltb PACKET_SIZE (length (take n rest)) (omega arith) in
    rw test refl

short_dollar : (rest : List ℕ) → length rest ≤ prefix_len is_data rest → length rest ≤ PACKET_SIZE → after_dollar rest ≡ more
short_dollar rest all short =
    let n = prefix_len is_data rest in
    let whole : take n rest ≡ rest = take_all n rest all in
    let none : drop n rest ≡ [] = drop_all n rest all in
    let test : nat_lt PACKET_SIZE (length rest) ≡ false = le-ltb PACKET_SIZE (length rest) short in
    rw (whole, none, test) refl

settled_all : (rest later : List ℕ) → length rest ≤ prefix_len is_data rest → after_dollar rest ≢ more
    → after_dollar (rest ++ later) ≡ after_dollar rest
settled_all rest later all known = elim (cases_lt PACKET_SIZE (length rest)) [
  | inl long ↦
      let more = prefix_all is_data rest later all in
      long_dollar (rest ++ later) (omega arith) ∙ sym (long_dollar rest (omega arith))
  | inr short ↦ absurd (known (short_dollar rest all short))
]

settled_dollar : (rest later : List ℕ) → after_dollar rest ≢ more → after_dollar (rest ++ later) ≡ after_dollar rest
settled_dollar rest later known = elim (cases_lt (prefix_len is_data rest) (length rest)) [
  | inl below ↦ settled_begun rest later (prefix_len is_data rest) (prefix_len is_data (rest ++ later)) refl refl below known
  | inr all ↦ settled_all rest later all known
]

settled_first : (t : Bool) (x y z : Reading) → (x ≢ more → z ≡ x) → cond t x y ≢ more → cond t z y ≡ cond t x y
settled_first true x y z h known = h known
settled_first false x y z h known = refl

pub settled : (bytes later : List ℕ) → reading_of bytes ≢ more → reading_of (bytes ++ later) ≡ reading_of bytes
settled [] later known = absurd (known refl)
settled (b ∷ rest) later known =
    settled_first (b == 36) (after_dollar rest) _ (after_dollar (rest ++ later)) (settled_dollar rest later) known
