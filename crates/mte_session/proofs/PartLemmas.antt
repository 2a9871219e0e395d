-- Parts that are collected before they are written.
use Rattle.std.proofs.Common.{◌≡◌, ℕ, ◌+◌, ◌<◌, List, [], ◌++◌, length, take, drop, get_or, map}
use Rattle.std.specs.Prelude.{OnOk, OnErr}
use Rattle.std.proofs.Common.{Result, Ok, Err, ap, sym, ◌∙◌, append_assoc}
use Rattle.std.specs.List.{concat}
use Rattle.std.proofs.lemmas.List.{append-nil}
use Rattle.mte_streams.specs.declared.writing.WriteFault.{WriteFault}
use Rattle.mte_streams.specs.Writing.{WriteLog, WroteAll, WrotePart, Writes}
use Rattle.mte_session.specs.Parts.{WroteBut}
use Rattle.mte_session.proofs.ReportLemmas.{then_all, then_part, then_writes, part_more, concat_more, concat_split}

-- What is written then, of a text and a part of which an end was still to be written.
pub but_part : (a b c : WriteLog) (text line part end : List ℕ) → WroteBut a b text line → WroteBut b c (line ++ part) end → WroteBut a c (text ++ part) end
but_part a b c text line part end p q = record {
  start = p.start ++ q.start;
  whole = ap (λ t. t ++ part) p.whole ∙ append_assoc p.start line part ∙ ap (λ t. p.start ++ t) q.whole ∙ sym (append_assoc p.start q.start end);
  wrote = then_all a b c p.start q.start p.wrote q.wrote;
}

-- The i-th of some parts, after those before it.
pub but_more : {X : Type 0} (a b c : WriteLog) (f : X → List ℕ) (xs : List X) (i : ℕ) (d : X) (line end : List ℕ) → i < length xs
    → WroteBut a b (concat (map f (take i xs))) line → WroteBut b c (line ++ f (get_or xs i d)) end → WroteBut a c (concat (map f (take (i + 1) xs))) end
but_more a b c f xs i d line end below p q =
    rw (concat_more f xs i d below) (but_part a b c (concat (map f (take i xs))) line (f (get_or xs i d)) end p q)

pub part_of_more : {X : Type 0} (a b c : WriteLog) (f : X → List ℕ) (xs : List X) (i : ℕ) (d : X) (line : List ℕ) → i < length xs
    → WroteBut a b (concat (map f (take i xs))) line → WrotePart b c (line ++ f (get_or xs i d)) → WrotePart a c (concat (map f xs))
part_of_more a b c f xs i d line below p q =
    let whole : concat (map f xs) ≡ p.start ++ ((line ++ f (get_or xs i d)) ++ concat (map f (drop (i + 1) xs))) =
    concat_split f xs (i + 1) ∙ ap (λ k. k ++ concat (map f (drop (i + 1) xs))) (concat_more f xs i d below ∙ ap (λ t. t ++ f (get_or xs i d)) p.whole ∙ append_assoc p.start line (f (get_or xs i d)))
    ∙ append_assoc p.start (line ++ f (get_or xs i d)) (concat (map f (drop (i + 1) xs))) in
    rw whole (then_part a b c p.start _ p.wrote (part_more b c _ (concat (map f (drop (i + 1) xs))) q))

-- The end is written too.
pub but_whole : (a b c : WriteLog) (r : Result (Unit {0}) WriteFault) (text end : List ℕ) → WroteBut a b text end → Writes b c r end → Writes a c r text
but_whole a b c r text end p q = rw p.whole (then_writes a b c r p.start end p.wrote q)

-- ---- one part

-- It does not fit, and what was collected could not be written.
pub on_err : (r : Result (Unit {0}) WriteFault) (P : Type 0) → P → OnErr r P
on_err (Ok done) P p = tt
on_err (Err fault) P p = p

-- It never fits.
pub but_none : (a b c : WriteLog) (line part end : List ℕ) → WroteAll a b line → WroteAll b c part → end ≡ [] → WroteBut a c (line ++ part) end
but_none a b c line part end p q e = record {
  start = line ++ part;
  whole = sym (append-nil (line ++ part)) ∙ ap (λ t. (line ++ part) ++ t) (sym e);
  wrote = then_all a b c line part p q;
}

pub last_ok : (a b c : WriteLog) (r : Result (Unit {0}) WriteFault) (line part end : List ℕ) → WroteAll a b line → Writes b c r part → end ≡ []
    → OnOk r (WroteBut a c (line ++ part) end)
last_ok a b c (Ok done) line part end p q e = but_none a b c line part end p q e
last_ok a b c (Err fault) line part end p q e = tt

pub last_err : (a b c : WriteLog) (r : Result (Unit {0}) WriteFault) (line part : List ℕ) → WroteAll a b line → Writes b c r part
    → OnErr r (WrotePart a c (line ++ part))
last_err a b c (Ok done) line part p q = tt
last_err a b c (Err fault) line part p q = then_part a b c line part p q
