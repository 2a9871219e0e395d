-- A part of a block of bytes, and what it is replaced by.
use Rattle.std.proofs.Common.{◌≡◌, ℕ, ◌+◌, ◌≤◌, List, ◌++◌, length, take, drop, ap, arith, length-take, length-drop, length-append}
use Rattle.std.specs.List.{refill}
use Rattle.mte_arena.specs.Blocks.{with_part}
use lib.Seq.{take_at}

pub length-part : (xs : List ℕ) (i n : ℕ) → i + n ≤ length xs → length (take n (drop i xs)) ≡ n
length-part xs i n within = omega (arith, within, length-take n (drop i xs), length-drop i xs)

-- a replacement of the same length is taken as it is
pub refill-same : (n : ℕ) (old ws : List ℕ) → length ws ≡ n → refill n old ws ≡ ws
refill-same n old ws long = take_at ws (drop (length ws) old) n long

pub length-refill : (n : ℕ) (old ws : List ℕ) → length old ≡ n → length (refill n old ws) ≡ n
length-refill n old ws long = omega (arith, long, length-take n (ws ++ drop (length ws) old), length-append ws (drop (length ws) old), length-drop (length ws) old)

pub with_part-same : (xs : List ℕ) (i n : ℕ) (ws : List ℕ) → length ws ≡ n → with_part xs i n ws ≡ take i xs ++ (ws ++ drop (i + n) xs)
with_part-same xs i n ws long = ap (λ l. take i xs ++ (l ++ drop (i + n) xs)) (refill-same n (take n (drop i xs)) ws long)

pub length-with_part : (xs : List ℕ) (i n : ℕ) (ws : List ℕ) → i + n ≤ length xs → length (with_part xs i n ws) ≡ length xs
length-with_part xs i n ws within =
    let mid = refill n (take n (drop i xs)) ws in
    let long : length mid ≡ n = length-refill n (take n (drop i xs)) ws (length-part xs i n within) in
    omega (arith, within, long, length-append (take i xs) (mid ++ drop (i + n) xs), length-append mid (drop (i + n) xs), length-take i xs, length-drop (i + n) xs)
