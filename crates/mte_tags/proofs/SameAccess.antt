-- What is said of an access from an address holds of the same access from the same address.
use Rattle.std.proofs.Common.{◌≡◌, ℕ, List, Bool, Result, subst}
use Rattle.mte_tags.specs.Memory.{Memory}
use Rattle.mte_tags.specs.Inner.{IsRead, IsWritten, IsReadOrLeft, IsWrittenOrLeft}
use Rattle.mte_tags.specs.declared.access.Access.{Access}
use Rattle.mte_tags.specs.declared.fault.MemFault.{MemFault}

module _ (m n : Memory) (x y : Access) (a b : ℕ) (same : x ≡ y) (place : a ≡ b) where
  pub read_as : (old new : List ℕ) (r : Result (Unit {0}) MemFault) → IsRead m n x a old new r → IsRead m n y b old new r
  read_as old new r h = subst (λ k. IsRead m n y k old new r) place (subst (λ z. IsRead m n z a old new r) same h)

  pub written_as : (bytes : List ℕ) (r : Result (Unit {0}) MemFault) → IsWritten m n x a bytes r → IsWritten m n y b bytes r
  written_as bytes r h = subst (λ k. IsWritten m n y k bytes r) place (subst (λ z. IsWritten m n z a bytes r) same h)

  pub read_or_left_as : (old new : List ℕ) (made : Bool) → IsReadOrLeft m n x a old new made → IsReadOrLeft m n y b old new made
  read_or_left_as old new made h = subst (λ k. IsReadOrLeft m n y k old new made) place (subst (λ z. IsReadOrLeft m n z a old new made) same h)

  pub written_or_left_as : (bytes : List ℕ) (made : Bool) → IsWrittenOrLeft m n x a bytes made → IsWrittenOrLeft m n y b bytes made
  written_or_left_as bytes made h = subst (λ k. IsWrittenOrLeft m n y k bytes made) place (subst (λ z. IsWrittenOrLeft m n z a bytes made) same h)
