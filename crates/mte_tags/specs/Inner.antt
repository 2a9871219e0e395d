-- Definitions for the code's own clauses.
use Rattle.std.specs.Prelude.{◌≡◌, ℕ, ◌+◌, ◌%◌, ◌^◌, ◌<◌, ◌≤◌, Bool, IsTrue, if◌then◌else◌}
use Rattle.std.specs.Prelude.{List, [], ◌∷◌, length, Option, Some, None, is_none, Result, is_ok}
use Rattle.std.specs.List.{range_with_len}
use Rattle.mte_tags.specs.Memory.{Memory, Page}
use Rattle.mte_tags.specs.Accesses.{or_else, fault_cases, result_of, access_fault, after_access}
use Rattle.mte_tags.specs.Accesses.{first_fault, addresses, bytes_at, with_bytes}
use Rattle.mte_tags.specs.declared.access.Access.{Access}
use Rattle.mte_tags.specs.declared.fault.MemFault.{MemFault}

-- Bytes from a plain address on that one page holds, at least one.
pub record IsPageRun (at count : ℕ) : Type 0 where
  pub some : 0 < count
  pub inside : at % 4096 + count ≤ 4096
  pub plain : at < 2 ^ 56

-- How the first of a list of bytes fails in a page.
unfoldable pub first_in : Access → Option Page → List ℕ → Option MemFault
first_in x p [] = None
first_in x p (a ∷ more) = or_else (fault_cases x p a) (first_in x p more)

-- How the first of `count` bytes from an address on fails in a page.
abbrev pub run_fault_in : Access → Page → ℕ → ℕ → Option MemFault
run_fault_in x p at count = first_in x (Some p) (range_with_len at count)

-- Whether none of them fails.
abbrev pub run_passes_in : Access → Page → ℕ → ℕ → Bool
run_passes_in x p at count = is_none (run_fault_in x p at count)

-- The answer of a read from a plain address on, and the memory and the buffer after it.
pub record IsRead (m after : Memory) (x : Access) (at : ℕ) (old new : List ℕ)
    (r : Result (Unit {0}) MemFault) : Type 0 where
  pub answer : r ≡ result_of (access_fault m x (addresses at (length old)))
  pub bytes : new ≡ (if is_ok r then bytes_at m (addresses at (length old)) else old)
  pub memory : after ≡ (if is_ok r then after_access m x (addresses at (length old)) else m)

-- The answer of a write from a plain address on, and the memory after it.
pub record IsWritten (m after : Memory) (x : Access) (at : ℕ) (bytes : List ℕ)
    (r : Result (Unit {0}) MemFault) : Type 0 where
  pub answer : r ≡ result_of (access_fault m x (addresses at (length bytes)))
  pub memory :
      after
      ≡ (if is_ok r
      then with_bytes (after_access m x (addresses at (length bytes)))
      (addresses at (length bytes)) bytes
      else m)

-- The same of a read that may be left to another one: where it was made, no byte fails.
pub record IsReadOrLeft (m after : Memory) (x : Access) (at : ℕ) (old new : List ℕ) (made : Bool)
    : Type 0 where
  pub passed : IsTrue made → first_fault m x (addresses at (length old)) ≡ None
  pub bytes : new ≡ (if made then bytes_at m (addresses at (length old)) else old)
  pub memory : after ≡ m

-- The same of a write.
pub record IsWrittenOrLeft (m after : Memory) (x : Access) (at : ℕ) (bytes : List ℕ) (made : Bool)
    : Type 0 where
  pub passed : IsTrue made → first_fault m x (addresses at (length bytes)) ≡ None
  pub memory : after ≡ (if made then with_bytes m (addresses at (length bytes)) bytes else m)
