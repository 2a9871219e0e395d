-- The newest of the calls that are kept has the last place.
use Rattle.std.proofs.Common.{◌≡◌, ◌∙◌, ◌-◌, List, [], ◌∷◌, Some, None, length, ap, arith, refl}
use Rattle.std.specs.List.{slice_get}
use Rattle.mte_svc.specs.declared.calls.AnsweredCall.{AnsweredCall}
use Rattle.run_records.specs.Books.{last_or}

last_behind : (call : AnsweredCall) (later : List AnsweredCall)
    → last_or (Some call) later ≡ slice_get (call ∷ later) (length later)
last_behind call [] = refl
last_behind call (next ∷ later) = last_behind next later

before_length : (call : AnsweredCall) (later : List AnsweredCall)
    → length later ≡ length (call ∷ later) - 1
before_length call later = omega arith

pub newest_is_last : (calls : List AnsweredCall)
    → last_or None calls ≡ slice_get calls (length calls - 1)
newest_is_last [] = refl
newest_is_last (call ∷ later) =
    last_behind call later ∙ ap (slice_get (call ∷ later)) (before_length call later)
