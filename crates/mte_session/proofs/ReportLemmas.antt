-- Texts that are written in parts.
use Rattle.std.proofs.Common.{◌≡◌, ℕ, ◌+◌, ◌<◌, List, [], ◌∷◌, ◌++◌, length, take, drop, get_or}
use Rattle.std.proofs.Common.{map, Result, Ok, Err, refl, ap, sym, ◌∙◌, arith, append_assoc}
use Rattle.std.proofs.Common.{slice_index, ◌/◌, ◌%◌, codes}
use Rattle.mte_session.specs.Report.{line, number_line, status_line, output_line, long_output_line, calls_text}
use Rattle.mte_svc.specs.declared.record.Record.{Record}
use Rattle.std.specs.List.{concat}
use Rattle.std.proofs.lemmas.List.{append-nil, take-append-drop, take_more, map-append}
use Rattle.mte_streams.specs.declared.writing.WriteFault.{WriteFault}
use Rattle.mte_streams.specs.Known.{append_known, add_known}
use Rattle.mte_streams.specs.Writing.{WriteLog, WroteAll, WrotePart, Writes}
use Rattle.mte_streams.proofs.KnownLemmas.{append-known-append-known, append-known-nil}
use Rattle.hex.specs.Hex.{encode_lower, encode_with, lower_digits}
use Rattle.std.proofs.Math.Seq.{take-add}

pub then_all : (a b c : WriteLog) (s t : List ℕ) → WroteAll a b s → WroteAll b c t → WroteAll a c (s ++ t)
then_all a b c s t p q = record {
  taken = q.taken ∙ ap (λ k. append_known k t) p.taken ∙ append-known-append-known a.taken s t;
  failures = q.failures ∙ p.failures;
}

pub then_part : (a b c : WriteLog) (s t : List ℕ) → WroteAll a b s → WrotePart b c t → WrotePart a c (s ++ t)
then_part a b c s t p q = record {
  done = s ++ q.done;
  rest = q.rest;
  whole = ap (λ k. s ++ k) q.whole ∙ sym (append_assoc s q.done q.rest);
  taken = q.taken ∙ ap (λ k. append_known k q.done) p.taken ∙ append-known-append-known a.taken s q.done;
  failures = q.failures ∙ ap (λ k. add_known k 1) p.failures;
}

-- A text after one that was written, by the second's result.
pub then_writes : (a b c : WriteLog) (r : Result (Unit {0}) WriteFault) (s t : List ℕ) → WroteAll a b s → Writes b c r t → Writes a c r (s ++ t)
then_writes a b c (Ok done) s t p q = then_all a b c s t p q
then_writes a b c (Err fault) s t p q = then_part a b c s t p q

pub err_writes : (a c : WriteLog) (r : Result (Unit {0}) WriteFault) (e : WriteFault) (t : List ℕ) → r ≡ Err e → WrotePart a c t → Writes a c r t
err_writes a c r e t same part = rw same part

-- A prefix of a text is a prefix of a longer one.
pub part_more : (a c : WriteLog) (s u : List ℕ) → WrotePart a c s → WrotePart a c (s ++ u)
part_more a c s u p = record {
  done = p.done;
  rest = p.rest ++ u;
  whole = ap (λ k. k ++ u) p.whole ∙ append_assoc p.done p.rest u;
  taken = p.taken;
  failures = p.failures;
}

pub concat-append : (xs ys : List (List ℕ)) → concat (xs ++ ys) ≡ concat xs ++ concat ys
concat-append [] ys = refl
concat-append (x ∷ xs) ys = ap (λ k. x ++ k) (concat-append xs ys) ∙ sym (append_assoc x (concat xs) (concat ys))

pub concat_more : {X : Type 0} (f : X → List ℕ) (xs : List X) (i : ℕ) (d : X) → i < length xs
    → concat (map f (take (i + 1) xs)) ≡ concat (map f (take i xs)) ++ f (get_or xs i d)
concat_more f xs i d below =
    ap (λ k. concat (map f k)) (take_more xs i d below)
    ∙ ap concat (map-append f (take i xs) (get_or xs i d ∷ []))
    ∙ concat-append (map f (take i xs)) (f (get_or xs i d) ∷ [])
    ∙ ap (λ k. concat (map f (take i xs)) ++ k) (append-nil (f (get_or xs i d)))

pub concat_split : {X : Type 0} (f : X → List ℕ) (xs : List X) (i : ℕ) → concat (map f xs) ≡ concat (map f (take i xs)) ++ concat (map f (drop i xs))
concat_split f xs i =
    ap (λ k. concat (map f k)) (sym (take-append-drop i xs))
    ∙ ap concat (map-append f (take i xs) (drop i xs))
    ∙ concat-append (map f (take i xs)) (map f (drop i xs))

-- The i-th of some parts, after those before it.
pub then_all_more : {X : Type 0} (a b c : WriteLog) (f : X → List ℕ) (xs : List X) (i : ℕ) (d : X) → i < length xs
    → WroteAll a b (concat (map f (take i xs))) → WroteAll b c (f (get_or xs i d)) → WroteAll a c (concat (map f (take (i + 1) xs)))
then_all_more a b c f xs i d below p q =
    rw (concat_more f xs i d below) (then_all a b c (concat (map f (take i xs))) (f (get_or xs i d)) p q)

pub then_part_more : {X : Type 0} (a b c : WriteLog) (f : X → List ℕ) (xs : List X) (i : ℕ) (d : X) → i < length xs
    → WroteAll a b (concat (map f (take i xs))) → WrotePart b c (f (get_or xs i d)) → WrotePart a c (concat (map f xs))
then_part_more a b c f xs i d below p q =
    let whole : concat (map f xs) ≡ (concat (map f (take i xs)) ++ f (get_or xs i d)) ++ concat (map f (drop (i + 1) xs)) =
    concat_split f xs (i + 1) ∙ ap (λ k. k ++ concat (map f (drop (i + 1) xs))) (concat_more f xs i d below) in
    rw whole (part_more a c _ (concat (map f (drop (i + 1) xs))) (then_part a b c (concat (map f (take i xs))) (f (get_or xs i d)) p q))

pub wrote_none : (a : WriteLog) → WroteAll a a []
wrote_none a = record { taken = sym (append-known-nil a.taken); failures = refl }

pub encode_lower-append : (xs ys : List ℕ) → encode_lower (xs ++ ys) ≡ encode_lower xs ++ encode_lower ys
unfolding encode_with
encode_lower-append [] ys = refl
encode_lower-append (x ∷ xs) ys = ap (λ k. slice_index lower_digits (x / 16) ∷ slice_index lower_digits (x % 16) ∷ k) (encode_lower-append xs ys)

-- The digits of some bytes after those of the first d.
pub hex_more : (a b c : WriteLog) (bytes : List ℕ) (d e k : ℕ) → e ≡ d + k
    → WroteAll a b (encode_lower (take d bytes)) → WroteAll b c (encode_lower (take k (drop d bytes))) → WroteAll a c (encode_lower (take e bytes))
hex_more a b c bytes d e k same p q =
    rw (same, take-add d k bytes, encode_lower-append (take d bytes) (take k (drop d bytes)))
    (then_all a b c (encode_lower (take d bytes)) (encode_lower (take k (drop d bytes))) p q)

pub hex_part : (a b c : WriteLog) (bytes : List ℕ) (d k : ℕ)
    → WroteAll a b (encode_lower (take d bytes)) → WrotePart b c (encode_lower (take k (drop d bytes))) → WrotePart a c (encode_lower bytes)
hex_part a b c bytes d k p q =
    let whole : encode_lower bytes ≡ (encode_lower (take d bytes) ++ encode_lower (take k (drop d bytes))) ++ encode_lower (drop (d + k) bytes) =
    ap encode_lower (sym (take-append-drop (d + k) bytes)) ∙ encode_lower-append (take (d + k) bytes) (drop (d + k) bytes)
    ∙ ap (λ z. encode_lower z ++ encode_lower (drop (d + k) bytes)) (take-add d k bytes)
    ∙ ap (λ z. z ++ encode_lower (drop (d + k) bytes)) (encode_lower-append (take d bytes) (take k (drop d bytes))) in
    rw whole (part_more a c _ (encode_lower (drop (d + k) bytes)) (then_part a b c (encode_lower (take d bytes)) (encode_lower (take k (drop d bytes))) p q))

pub wrote_no_digits : (a : WriteLog) → WroteAll a a (encode_lower [])
unfolding encode_with
wrote_no_digits a = wrote_none a

pub bytes_line : (bytes : List ℕ) → 0 < length bytes → output_line bytes ≡ long_output_line bytes
bytes_line [] some = absurd (omega arith)
bytes_line (b ∷ more) some = simp (append_assoc, append-nil)

-- A tenant's lines one by one, and those up to each.
abbrev pub line_1 : Record → List ℕ
line_1 r = number_line (codes "tenant ") r.id

abbrev pub line_2 : Record → List ℕ
line_2 r = status_line r.status

abbrev pub line_3 : Record → List ℕ
line_3 r = number_line (codes "steps ") r.steps

abbrev pub line_4 : Record → List ℕ
line_4 r = output_line r.output.bytes

abbrev pub line_5 : Record → List ℕ
line_5 r = calls_text r.calls

abbrev pub line_6 : Record → List ℕ
line_6 r = line (codes "end" ∷ [])

abbrev pub lines_1 : Record → List ℕ
lines_1 r = line_1 r

abbrev pub lines_2 : Record → List ℕ
lines_2 r = lines_1 r ++ line_2 r

abbrev pub lines_3 : Record → List ℕ
lines_3 r = lines_2 r ++ line_3 r

abbrev pub lines_4 : Record → List ℕ
lines_4 r = lines_3 r ++ line_4 r

abbrev pub lines_5 : Record → List ℕ
lines_5 r = lines_4 r ++ line_5 r

abbrev pub lines_6 : Record → List ℕ
lines_6 r = lines_5 r ++ line_6 r
