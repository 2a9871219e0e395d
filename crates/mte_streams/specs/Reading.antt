-- The bytes that reads gave, where they are known (as std's Read means them).
use Rattle.std.specs.Prelude.{◌≡◌, ℕ, ◌≤◌, ◌<◌, List, take, length, Option, None, Result, Ok, Err}
use Rattle.std.specs.Prelude.{if◌then◌else◌}
use Rattle.mte_streams.specs.declared.error.StreamError.{StreamError}
use Rattle.mte_streams.specs.Known.{append_known, add_known, none_passed}

-- The bytes that reads gave; how many reads were made; how many of them failed; and how many gave
-- none of some bytes that were asked for, which is the end.
pub record ReadLog : Type 0 where
  pub given : Option (List ℕ)
  pub calls : Option ℕ
  pub failures : Option ℕ
  pub ends : Option ℕ

-- The log of a reader of which nothing is known.
abbrev pub unknown_reads : ReadLog
unknown_reads = record { given = None; calls = None; failures = None; ends = None }

-- A read gives the first bytes of its buffer, or fails.
abbrev pub after_read : ReadLog → Result ℕ StreamError → List ℕ → ReadLog
after_read log (Ok n) buffer = record {
  given = append_known log.given (take n buffer);
  calls = add_known log.calls 1;
  failures = log.failures;
  ends = add_known log.ends (if none_passed n buffer then 1 else 0);
}
after_read log (Err e) buffer =
    record log { calls = add_known log.calls 1; failures = add_known log.failures 1 }

-- The reader gave these bytes, and then its end.
pub record ReadAll (old new : ReadLog) (bytes : List ℕ) : Type 0 where
  pub given : new.given ≡ append_known old.given bytes
  pub ended : new.ends ≡ add_known old.ends 1

-- The reader gave more than `limit` bytes.
pub record GaveMore (old new : ReadLog) (limit : ℕ) : Type 0 where
  pub bytes : List ℕ
  pub given : new.given ≡ append_known old.given bytes
  pub more : limit < length bytes

-- The reader gave at most `limit` bytes.
pub record GaveAtMost (old new : ReadLog) (limit : ℕ) : Type 0 where
  pub bytes : List ℕ
  pub given : new.given ≡ append_known old.given bytes
  pub most : length bytes ≤ limit

-- No read failed.
abbrev pub NoneFailed : ReadLog → ReadLog → Type 0
NoneFailed old new = new.failures ≡ old.failures

-- One read failed.
abbrev pub FailedOnce : ReadLog → ReadLog → Type 0
FailedOnce old new = new.failures ≡ add_known old.failures 1

-- At most `limit` reads were made.
pub record MadeAtMost (old new : ReadLog) (limit : ℕ) : Type 0 where
  pub made : ℕ
  pub most : made ≤ limit
  pub calls : new.calls ≡ add_known old.calls made
