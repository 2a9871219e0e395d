-- What a text that is written in parts leaves.
use Rattle.std.proofs.Common.{◌≡◌, ℕ, ◌+◌, ◌-◌, ◌<◌, ◌≤◌, List, [], length, take, drop, Ok, Err, ap}
use Rattle.std.proofs.Common.{sym, ◌∙◌, arith, take-take, length-drop, length-take, ◌≢◌}
use Rattle.std.proofs.lemmas.List.{take-append-drop}
use Rattle.std.proofs.Math.Seq.{take-add}
use Rattle.mte_streams.specs.declared.error.StreamError.{StreamError}
use Rattle.mte_streams.specs.Known.{append_known, add_known}
use Rattle.mte_streams.specs.Writing.{WriteLog, WroteAll, WrotePart, after_write}
use Rattle.mte_streams.proofs.KnownLemmas.{append-known-append-known, append-known-nil, none_counts}
use Rattle.mte_streams.proofs.KnownLemmas.{some_counts}

-- A write that fails after the first d bytes of a text.
pub part_after : (old mid new : WriteLog) (text : List ℕ) (d : ℕ) (e : StreamError)
    → WroteAll old mid (take d text) → new ≡ after_write mid (Err e) [] → WrotePart old new text
part_after old mid new text d e before same = record {
  done = take d text;
  rest = drop d text;
  whole = sym (take-append-drop d text);
  taken = rw same before.taken;
  failures = rw same (ap (λ f. add_known f 1) before.failures);
}

-- What is left of a text after its first d bytes.
abbrev pub left_after : List ℕ → ℕ → List ℕ
left_after text d = take (length text - d) (drop d text)

-- A write of some bytes that takes none has failed.
pub none_after : (old mid new : WriteLog) (text : List ℕ) (d n : ℕ) → n ≡ 0 → d < length text
    → WroteAll old mid (take d text) → new ≡ after_write mid (Ok n) (left_after text d) → WrotePart old new text
none_after old mid new text d n none left before same =
    let long : 0 < length (left_after text d) = simp (length-take, length-drop) (omega arith) in
    record {
      done = take d text;
      rest = drop d text;
      whole = sym (take-append-drop d text);
      taken = rw (same, none) (append-known-nil mid.taken ∙ before.taken);
      failures = rw same (none_counts mid.failures n (left_after text d) none long ∙ ap (λ f. add_known f 1) before.failures);
    }

-- A write that takes n more bytes.
pub more_after : (old mid new : WriteLog) (text : List ℕ) (d n : ℕ) → n ≢ 0 → n ≤ length text - d
    → WroteAll old mid (take d text) → new ≡ after_write mid (Ok n) (left_after text d)
    → WroteAll old new (take (d + n) text)
more_after old mid new text d n some fits before same =
    let short : take n (left_after text d) ≡ take n (drop d text) = take-take n (length text - d) (drop d text) fits in
    record {
      taken = rw same (ap (append_known mid.taken) short ∙ ap (λ k. append_known k (take n (drop d text))) before.taken
          ∙ append-known-append-known old.taken (take d text) (take n (drop d text)) ∙ ap (append_known old.taken) (sym (take-add d n text)));
      failures = rw same (some_counts mid.failures n (left_after text d) some ∙ before.failures);
    }
