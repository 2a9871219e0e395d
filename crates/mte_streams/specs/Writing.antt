-- The bytes that writes took, where they are known (as std's Write means them).
use Rattle.std.specs.Prelude.{◌≡◌, ℕ, List, ◌++◌, take, Option, None, Result, Ok, Err}
use Rattle.std.specs.Prelude.{if◌then◌else◌}
use Rattle.mte_streams.specs.declared.error.StreamError.{StreamError}
use Rattle.mte_streams.specs.declared.writing.WriteFault.{WriteFault}
use Rattle.mte_streams.specs.Known.{append_known, add_known, none_passed}

-- The bytes that writes took; how many writes were made; and how many of them failed: returned an
-- error, or took none of some bytes.
pub record WriteLog : Type 0 where
  pub taken : Option (List ℕ)
  pub calls : Option ℕ
  pub failures : Option ℕ

-- The log of a writer of which nothing is known.
abbrev pub unknown_writes : WriteLog
unknown_writes = record { taken = None; calls = None; failures = None }

-- A write takes the first of its bytes, or fails.
abbrev pub after_write : WriteLog → Result ℕ StreamError → List ℕ → WriteLog
after_write log (Ok n) bytes = record {
  taken = append_known log.taken (take n bytes);
  calls = add_known log.calls 1;
  failures = add_known log.failures (if none_passed n bytes then 1 else 0);
}
after_write log (Err e) bytes =
    record log { calls = add_known log.calls 1; failures = add_known log.failures 1 }

-- All of a text was written, and no write failed.
pub record WroteAll (old new : WriteLog) (text : List ℕ) : Type 0 where
  pub taken : new.taken ≡ append_known old.taken text
  pub failures : new.failures ≡ old.failures

-- A write failed, and what was written is a prefix of a text.
pub record WrotePart (old new : WriteLog) (text : List ℕ) : Type 0 where
  pub done : List ℕ
  pub rest : List ℕ
  pub whole : text ≡ done ++ rest
  pub taken : new.taken ≡ append_known old.taken done
  pub failures : new.failures ≡ add_known old.failures 1

-- The writer after a text was written, by the result.
abbrev pub Writes : WriteLog → WriteLog → Result (Unit {0}) WriteFault → List ℕ → Type 0
Writes old new (Ok done) text = WroteAll old new text
Writes old new (Err fault) text = WrotePart old new text
