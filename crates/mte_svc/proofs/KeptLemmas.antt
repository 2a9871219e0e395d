-- A list in two parts that has room is kept whole.
use Rattle.std.proofs.Common.{◌≡◌, ◌∙◌, ◌≤◌, ◌++◌, ◌-◌, ℕ, List, [], length, drop, ap, arith}
use Rattle.std.proofs.lemmas.List.{length-append}
use Rattle.circular_buffer.specs.Buffer.{keep_last}

all_kept : {A : Type 0} (n : ℕ) (xs : List A) → length xs ≤ n → keep_last n xs ≡ xs
all_kept n xs few =
    let none : length xs - n ≡ 0 = omega (arith, few) in
    ap (λ k. drop k xs) none

pub both_kept :
    {A : Type 0} (n : ℕ) (a b : List A) → length (a ++ b) ≤ n
    → keep_last n (keep_last n ([] ++ a) ++ b) ≡ a ++ b
both_kept n a b few =
    let sum = length-append a b in
    let first : length a ≤ n = omega (arith, few, sum) in
    ap (λ t. keep_last n (t ++ b)) (all_kept n a first) ∙ all_kept n (a ++ b) few
