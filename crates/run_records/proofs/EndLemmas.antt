-- The first call that ends a chunk, looked for from call to call.
use Rattle.std.proofs.Common.{◌≡◌, ◌∙◌, ℕ, suc, ◌+◌, ◌<◌, ◌≤◌, List, ◌∷◌, Some, None, true, false, drop, length, ap, sym, arith, if◌then◌else◌, ⊎_elim}
use Rattle.std.proofs.Math.Seq.{drop-cons}
use Rattle.std.proofs.lemmas.Option.{get_or_from_slice_get}
use Rattle.std.specs.List.{slice_get}
use Rattle.std.proofs.Math.ListN.{drop_of_length-le}
use Rattle.std.proofs.lemmas.Option.{slice_get_within, slice_get_cases}
use Rattle.heap_bounds.specs.Chunks.{ended_chunk}
use Rattle.run_records.specs.declared.book.BookEntry.{BookEntry}
use Rattle.run_records.specs.Ends.{is_at, ending_call}

next_entry : (n : ℕ) (es : List BookEntry) (e : BookEntry) → slice_get es n ≡ Some e → drop n es ≡ e ∷ drop (suc n) es
next_entry n es e h = drop-cons es n e (slice_get_within es n e h) ∙ ap (λ x. x ∷ drop (suc n) es) (get_or_from_slice_get es n e e h)

some_is_none : (e : BookEntry) → Some e ≡ None → ⊥
some_is_none e h = cc

more : (n : ℕ) → suc n ≡ n + 1
more n = omega arith

past : (es : List BookEntry) (n : ℕ) → slice_get es n ≡ None → length es ≤ n
past es n h = ⊎_elim (λ s. absurd (some_is_none s.0 (sym s.2 ∙ h))) (λ s. s.0) (slice_get_cases es n).1

-- A call that ends another chunk, or none, is passed over.
pub passed_over : (start n : ℕ) (es : List BookEntry) (e : BookEntry) → slice_get es n ≡ Some e → is_at start (ended_chunk e.call) ≡ false
    → ending_call start (drop n es) ≡ ending_call start (drop (n + 1) es)
passed_over start n es e h other =
    ap (ending_call start) (next_entry n es e h) ∙ ap (λ b. if b then Some e else ending_call start (drop (suc n) es)) other
    ∙ ap (λ k. ending_call start (drop k es)) (more n)

-- A call that ends it is the first.
pub is_found : (start n : ℕ) (es : List BookEntry) (e : BookEntry) → slice_get es n ≡ Some e → is_at start (ended_chunk e.call) ≡ true
    → ending_call start (drop n es) ≡ Some e
is_found start n es e h ends =
    ap (ending_call start) (next_entry n es e h) ∙ ap (λ b. if b then Some e else ending_call start (drop (suc n) es)) ends

-- After the last call there is none.
pub none_left : (start n : ℕ) (es : List BookEntry) → slice_get es n ≡ None → ending_call start (drop n es) ≡ None
none_left start n es h = ap (ending_call start) (drop_of_length-le es (past es n h))

-- Whether a chunk's call comes before the last is told by its place.
pub within : (es : List BookEntry) (n : ℕ) (e : BookEntry) → slice_get es n ≡ Some e → n < length es
within es n e h = slice_get_within es n e h
