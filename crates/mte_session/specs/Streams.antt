-- The outcome for a count of bytes, or for an error of any kind.
use Rattle.std.specs.Prelude.{ℕ, Result, Ok, Err}
use Rattle.mte_streams.specs.declared.error.StreamError.{StreamError}

-- A count, or a failure without its reason.
abbrev pub count_or_failure : {E : Type 0} → Result ℕ E → Result ℕ StreamError
count_or_failure (Ok count) = Ok count
count_or_failure (Err e) = Err (record {})
