-- What a reader that gives a file in parts leaves.
use Rattle.std.proofs.Common.{◌≡◌, ℕ, ◌+◌, ◌<◌, List, [], ◌++◌, length, take, Ok, refl, ap, sym}
use Rattle.std.proofs.Common.{◌∙◌, arith, ◌≢◌}
use Rattle.mte_streams.specs.Known.{append_known, add_known}
use Rattle.mte_streams.specs.Reading.{ReadLog, after_read, ReadAll, MadeAtMost}
use Rattle.mte_streams.proofs.KnownLemmas.{append-known-append-known, append-known-nil, add-known-add-known}
use Rattle.mte_streams.proofs.KnownLemmas.{add-known-zero, none_counts, some_counts}

-- These reads gave these bytes; none failed, and none was the end.
pub record Gave (old new : ReadLog) (bytes : List ℕ) (reads : ℕ) : Type 0 where
  pub given : new.given ≡ append_known old.given bytes
  pub calls : new.calls ≡ add_known old.calls reads
  pub failures : new.failures ≡ old.failures
  pub ends : new.ends ≡ old.ends

pub gave_none : (log : ReadLog) → Gave log log [] 0
gave_none log = record { given = sym (append-known-nil log.given); calls = sym (add-known-zero log.calls); failures = refl; ends = refl }

-- One more read, which gave some bytes.
pub gave_more : (old mid new : ReadLog) (bytes buffer : List ℕ) (reads n : ℕ) → n ≢ 0
    → Gave old mid bytes reads → new ≡ after_read mid (Ok n) buffer → Gave old new (bytes ++ take n buffer) (reads + 1)
gave_more old mid new bytes buffer reads n some before same = record {
  given = rw same (ap (λ k. append_known k (take n buffer)) before.given ∙ append-known-append-known old.given bytes (take n buffer));
  calls = rw same (ap (λ k. add_known k 1) before.calls ∙ add-known-add-known old.calls reads 1);
  failures = rw same before.failures;
  ends = rw same (some_counts mid.ends n buffer some ∙ before.ends);
}

-- One more read, the end.
pub gave_end : (old mid new : ReadLog) (bytes buffer : List ℕ) (reads n : ℕ) → n ≡ 0 → 0 < length buffer
    → Gave old mid bytes reads → new ≡ after_read mid (Ok n) buffer → ReadAll old new bytes
gave_end old mid new bytes buffer reads n none long before same = record {
  given = rw (same, none) (append-known-nil mid.given ∙ before.given);
  ended = rw same (none_counts mid.ends n buffer none long ∙ ap (λ k. add_known k 1) before.ends);
}

-- One more read, whatever it gives, of so few that were made.
pub one_more_read : (old mid new : ReadLog) (bytes : List ℕ) (reads limit : ℕ) → reads < limit
    → Gave old mid bytes reads → new.calls ≡ add_known mid.calls 1 → MadeAtMost old new limit
one_more_read old mid new bytes reads limit few before next = record {
  made = reads + 1;
  most = omega arith;
  calls = next ∙ ap (λ k. add_known k 1) before.calls ∙ add-known-add-known old.calls reads 1;
}
