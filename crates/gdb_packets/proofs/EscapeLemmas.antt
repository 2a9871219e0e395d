-- Escapes, and texts put into a room piece by piece.
use Rattle.std.proofs.Common.{◌≡◌, ℕ, ◌+◌, ◌-◌, ◌<◌, ◌≤◌, ◌==◌, ◌||◌, Bool, true, false, List, [], ◌∷◌, ◌++◌}
use Rattle.std.proofs.Common.{length, take, drop, get_or, set, Option, Some, None, refl, ap, sym, ◌∙◌, arith, append_assoc}
use Rattle.std.proofs.Common.{length-append, length-drop, bit_xor, option_map, IfSome, subst}
use Rattle.std.proofs.lemmas.List.{drop_more, nil_from_length, append-nil, take_at, drop_at, take-append-drop, drop-drop}
use Rattle.std.proofs.lemmas.List.{length-take-le}
use Rattle.std.proofs.lemmas.List.{take_rest, drop_all, drop-set-lt, take_more_set}
use Rattle.std.proofs.lemmas.Bool.{eqb-true}
use borrow.Rule.Slice.PartMut.{put_mid}
use Rattle.gdb_packets.specs.Framing.{escape_of, with_escapes, is_reserved, payload_of, with_first}

-- One more byte of a payload.
pub with-escapes-drop : (payload : List ℕ) (i d : ℕ) → i < length payload
    → with_escapes (drop i payload) ≡ escape_of (get_or payload i d) ++ with_escapes (drop (i + 1) payload)
with-escapes-drop payload i d below = ap with_escapes (drop_more payload i d below)

pub escaped_end : (payload : List ℕ) (i : ℕ) → length payload ≤ i → with_escapes (drop i payload) ≡ []
escaped_end payload i over = ap with_escapes (nil_from_length (drop i payload) (rw length-drop (omega arith)))

-- A piece after the first n bytes of a room, whose end was lent for it.
front_long : (room piece : List ℕ) (n : ℕ) → n ≤ length room → length (take n room ++ piece) ≡ n + length piece
front_long room piece n fits = rw length-append (rw (length-take-le n room fits) refl)

piece_put : (room piece new : List ℕ) (n : ℕ) → n ≤ length room
    → new ≡ piece ++ drop (length piece) (take (length room - n) (drop n room))
    → put_mid n (length room - n) room new ≡ (take n room ++ piece) ++ drop (length piece) (drop n room)
piece_put room piece new n fits put =
    let none : drop (length room - n) (drop n room) ≡ [] = drop_all (length room - n) (drop n room) (rw length-drop (omega arith)) in
    let same = rw (take_rest room n) at put in
    rw (none, append-nil new, same, append_assoc (take n room)) refl

pub put_front : (room piece new : List ℕ) (n k : ℕ) → n ≤ length room → k ≡ length piece
    → new ≡ piece ++ drop (length piece) (take (length room - n) (drop n room))
    → take (n + k) (put_mid n (length room - n) room new) ≡ take n room ++ piece
put_front room piece new n k fits e put =
    let long : length (take n room ++ piece) ≡ n + k = front_long room piece n fits ∙ ap (λ z. n + z) (sym e) in
    ap (take (n + k)) (piece_put room piece new n fits put) ∙ take_at (take n room ++ piece) (drop (length piece) (drop n room)) (n + k) long

pub put_behind : (room piece new old : List ℕ) (n k : ℕ) → n ≤ length room → k ≡ length piece
    → new ≡ piece ++ drop (length piece) (take (length room - n) (drop n room)) → drop n room ≡ drop n old
    → drop (n + k) (put_mid n (length room - n) room new) ≡ drop (n + k) old
put_behind room piece new old n k fits e put rest =
    let long : length (take n room ++ piece) ≡ n + k = front_long room piece n fits ∙ ap (λ z. n + z) (sym e) in
    ap (drop (n + k)) (piece_put room piece new n fits put) ∙ drop_at (take n room ++ piece) (drop (length piece) (drop n room)) (n + k) long
    ∙ ap (λ z. drop z (drop n room)) (sym e) ∙ ap (drop k) rest ∙ drop-drop k n old

-- A text at the front of a room, and what stood after it.
pub whole_room : (text new old : List ℕ) (n : ℕ) → take n new ≡ text → drop n new ≡ drop n old → new ≡ text ++ drop n old
whole_room text new old n front rest = rw (← front, ← rest) (sym (take-append-drop n new))

-- What is left of some data, with the `}` of an escape that has begun.
abbrev pub pending : Bool → List ℕ → List ℕ
pending true rest = 125 ∷ rest
pending false rest = rest

abbrev pub pending_len : Bool → ℕ
pending_len true = 1
pending_len false = 0

abbrev pub after_front : List ℕ → Option (List ℕ) → Option (List ℕ)
after_front front (Some more) = Some (front ++ more)
after_front front None = None

-- A byte that begins no escape.
pub payload_of-plain : (b : ℕ) (more : List ℕ) → (b == 125) ≡ false → payload_of (b ∷ more) ≡ with_first b (payload_of more)
unfolding payload_of
payload_of-plain b [] plain = rw plain refl
payload_of-plain b (c ∷ more) plain = rw plain refl

after_front-with_first : (front : List ℕ) (b : ℕ) (o : Option (List ℕ)) → after_front front (with_first b o) ≡ after_front (front ++ b ∷ []) o
after_front-with_first front b (Some more) = ap Some (sym (append_assoc front (b ∷ []) more))
after_front-with_first front b None = refl

-- What was put so far and the payload of the rest are the whole.
pub record IsUnescaped (bytes old room : List ℕ) (len i : ℕ) (begun : Bool) : Type 0 where
  pub fits : len + pending_len begun ≤ i
  pub payload : after_front (take len room) (payload_of (pending begun (drop i bytes))) ≡ payload_of bytes
  pub rest : drop len room ≡ drop len old

module _ (bytes old room : List ℕ) (len i : ℕ) (below : i < length bytes) where
  rest_step : (v : ℕ) → drop len room ≡ drop len old → drop (len + 1) (set room len v) ≡ drop (len + 1) old
  rest_step v h =
      let less : len < len + 1 = omega arith in
      drop-set-lt (len + 1) room len v less ∙ sym (drop-drop 1 len room) ∙ ap (drop 1) h ∙ drop-drop 1 len old

  front_step : (v : ℕ) (o : Option (List ℕ)) → len < length room
      → after_front (take len room) (with_first v o) ≡ after_front (take (len + 1) (set room len v)) o
  front_step v o within =
      after_front-with_first (take len room) v o ∙ ap (λ z. after_front z o) (sym (take_more_set room len v within))

  pub plain_step : len < length room → (get_or bytes i 0 == 125) ≡ false → IsUnescaped bytes old room len i false
      → IsUnescaped bytes old (set room len (get_or bytes i 0)) (len + 1) (i + 1) false
  plain_step within plain h =
      let b = get_or bytes i 0 in
      let more = drop (i + 1) bytes in
      record {
        fits = omega (arith, h.fits);
        payload = sym (front_step b (payload_of more) within)
            ∙ ap (after_front (take len room)) (sym (payload_of-plain b more plain) ∙ ap payload_of (sym (drop_more bytes i 0 below)))
            ∙ h.payload;
        rest = rest_step b h.rest;
      }

  pub escape_step : get_or bytes i 0 ≡ 125 → IsUnescaped bytes old room len i false → IsUnescaped bytes old room len (i + 1) true
  escape_step same h = record {
    fits = omega (arith, h.fits);
    payload = ap (λ z. after_front (take len room) (payload_of (z ∷ drop (i + 1) bytes))) (sym same)
        ∙ ap (λ z. after_front (take len room) (payload_of z)) (sym (drop_more bytes i 0 below)) ∙ h.payload;
    rest = h.rest;
  }

  pub turned_step : len < length room → IsUnescaped bytes old room len i true
      → IsUnescaped bytes old (set room len (bit_xor (get_or bytes i 0) 32)) (len + 1) (i + 1) false
  unfolding payload_of
  turned_step within h =
      let b = bit_xor (get_or bytes i 0) 32 in
      let more = drop (i + 1) bytes in
      record {
        fits = omega (arith, h.fits);
        payload = sym (front_step b (payload_of more) within)
            ∙ ap (λ z. after_front (take len room) (payload_of (125 ∷ z))) (sym (drop_more bytes i 0 below)) ∙ h.payload;
        rest = rest_step b h.rest;
      }

-- The four bytes that are escaped.
pub reserved_cases : (P : ℕ → Type 0) → P 35 → P 36 → P 125 → P 42 → (b : ℕ) → is_reserved b ≡ true → P b
reserved_cases P p q r s b h = by (b == 35) (b == 36) (b == 125) (b == 42) refl refl refl refl h where
  by : (t u v w : Bool) → (b == 35) ≡ t → (b == 36) ≡ u → (b == 125) ≡ v → (b == 42) ≡ w → (t || u || v || w) ≡ true → P b
  by true u v w e f g k all = subst P (sym (eqb-true b 35 e)) p
  by false true v w e f g k all = subst P (sym (eqb-true b 36 f)) q
  by false false true w e f g k all = subst P (sym (eqb-true b 125 g)) r
  by false false false true e f g k all = subst P (sym (eqb-true b 42 k)) s
  by false false false false e f g k all = cc

-- What was escaped comes back.
twice_turned : (b : ℕ) → is_reserved b ≡ true → bit_xor (bit_xor b 32) 32 ≡ b
twice_turned = reserved_cases (λ b. bit_xor (bit_xor b 32) 32 ≡ b) refl refl refl refl

no_escape : (b : ℕ) → is_reserved b ≡ false → (b == 125) ≡ false
no_escape b h = by (b == 35) (b == 36) (b == 125) refl h where
  by : (t u v : Bool) → (b == 125) ≡ v → (t || u || v || (b == 42)) ≡ false → v ≡ false
  by true u v e all = cc
  by false true v e all = cc
  by false false true e all = cc
  by false false false e all = refl

again_by : (b : ℕ) (t : Bool) → is_reserved b ≡ t → (rest payload : List ℕ) → payload_of rest ≡ Some payload
    → payload_of (escape_of b ++ rest) ≡ Some (b ∷ payload)
unfolding payload_of
again_by b true h rest payload e = rw (h, e, twice_turned b h) refl
again_by b false h rest payload e = rw h (payload_of-plain b rest (no_escape b h) ∙ ap (with_first b) e)

pub payload_of-with-escapes : (payload : List ℕ) → payload_of (with_escapes payload) ≡ Some payload
unfolding payload_of
payload_of-with-escapes [] = refl
payload_of-with-escapes (b ∷ payload) = again_by b (is_reserved b) refl (with_escapes payload) payload (payload_of-with-escapes payload)

pub escaped_again : (bytes new : List ℕ) (r : Option ℕ) → payload_of bytes ≡ option_map (λ n. take n new) r → IfSome r (λ n. n ≤ length new)
    → (payload : List ℕ) → bytes ≡ with_escapes payload → (r ≡ Some (length payload)) × (take (length payload) new ≡ payload)
escaped_again bytes new None e fits payload h =
    let none : Some payload ≡ None = sym (payload_of-with-escapes payload) ∙ ap payload_of (sym h) ∙ e in cc
escaped_again bytes new (Some n) e fits payload h =
    let some : Some payload ≡ Some (take n new) = sym (payload_of-with-escapes payload) ∙ ap payload_of (sym h) ∙ e in
    let same : payload ≡ take n new = cc in
    let len : length payload ≡ n = ap length same ∙ length-take-le n new fits in
    (ap Some (sym len), ap (λ k. take k new) len ∙ sym same)

-- The end of the data.
pub plain_end : (bytes front : List ℕ) (i : ℕ) (whole : Option (List ℕ)) → length bytes ≤ i
    → after_front front (payload_of (drop i bytes)) ≡ whole → whole ≡ Some front
unfolding payload_of
plain_end bytes front i whole over h =
    let none : drop i bytes ≡ [] = drop_all i bytes over in
    let k = rw none at h in
    sym k ∙ ap Some (append-nil front)

pub turned_end : (bytes front : List ℕ) (i : ℕ) (whole : Option (List ℕ)) → length bytes ≤ i
    → after_front front (payload_of (125 ∷ drop i bytes)) ≡ whole → whole ≡ None
unfolding payload_of
turned_end bytes front i whole over h =
    let none : drop i bytes ≡ [] = drop_all i bytes over in
    let k = rw none at h in
    sym k
