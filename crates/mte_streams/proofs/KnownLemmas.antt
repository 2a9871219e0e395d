-- Bytes and counts that are known, or not.
use Rattle.std.proofs.Common.{◌≡◌, ℕ, ◌+◌, ◌<◌, List, [], ◌++◌, length, Option, Some, None, refl}
use Rattle.std.proofs.Common.{ap, append_assoc, add_assoc, add-zero, true, false, if◌then◌else◌}
use Rattle.std.proofs.Common.{◌≢◌, ◌==◌, nat_lt}
use Rattle.std.proofs.lemmas.List.{append-nil}
use Rattle.std.proofs.lemmas.Bool.{lt-ltb, ne_eqb}
use Rattle.mte_streams.specs.Known.{append_known, add_known, none_passed}

pub append-known-append-known : (known : Option (List ℕ)) (a b : List ℕ) → append_known (append_known known a) b ≡ append_known known (a ++ b)
append-known-append-known None a b = refl
append-known-append-known (Some bytes) a b = ap (λ z. Some z) (append_assoc bytes a b)

pub append-known-nil : (known : Option (List ℕ)) → append_known known [] ≡ known
append-known-nil None = refl
append-known-nil (Some bytes) = ap (λ z. Some z) (append-nil bytes)

pub add-known-add-known : (known : Option ℕ) (a b : ℕ) → add_known (add_known known a) b ≡ add_known known (a + b)
add-known-add-known None a b = refl
add-known-add-known (Some n) a b = ap (λ z. Some z) (add_assoc n a b)

pub add-known-zero : (known : Option ℕ) → add_known known 0 ≡ known
add-known-zero None = refl
add-known-zero (Some n) = ap (λ z. Some z) (add-zero n)

-- None of some bytes passed.
pub none_counts : (known : Option ℕ) (n : ℕ) (bytes : List ℕ) → n ≡ 0 → 0 < length bytes
    → add_known known (if none_passed n bytes then 1 else 0) ≡ add_known known 1
none_counts known n bytes none long =
    let some : nat_lt 0 (length bytes) ≡ true = lt-ltb _ _ long in
    rw (none, some) refl

-- And some of them.
pub some_counts : (known : Option ℕ) (n : ℕ) (bytes : List ℕ) → n ≢ 0
    → add_known known (if none_passed n bytes then 1 else 0) ≡ known
some_counts known n bytes some =
    let differ : (n == 0) ≡ false = ne_eqb n 0 some in
    rw differ (add-known-zero known)
