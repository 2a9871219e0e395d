-- The machines that a watch is shown of a slice.
use Rattle.std.specs.Prelude.{ℕ, zero, suc, List, [], ◌∷◌, ◌++◌, Option, option_map, if◌then◌else◌}
use Rattle.mte_tenant.specs.Machines.{Machine, runs, after_attempt}

-- The machine before an attempted instruction, or after it.
pub data Shown : Type 0 where
  Before : Machine → Shown
  After : Machine → Shown

-- All that it was shown so far, the first one first; None where nobody can know.
abbrev pub WatchLog : Type 0
WatchLog = Option (List Shown)

-- A log with more that was shown.
abbrev pub with_shown : WatchLog → List Shown → WatchLog
with_shown log more = option_map (λ shown. shown ++ more) log

-- The machines of a slice of n steps: each attempt once, in order.
unfoldable pub shown_of : ℕ → Machine → List Shown
shown_of zero m = []
shown_of (suc n) m =
    let a = after_attempt n m in
    if runs m
    then Before m ∷ After a.machine ∷ (if a.goes_on then shown_of n a.machine else [])
    else []
