-- A LEB128 number from its last byte to its first.
use Rattle.std.proofs.Common.{◌≡◌, ℕ, suc, ◌+◌, ◌*◌, ◌%◌, ◌^◌, ◌<◌, List, [], ◌∷◌, length, drop, get_or, arith, ap, sym, ◌∙◌, add-one, add-zero, zero-add, drop-cons, true, false, ◌-◌}
use Rattle.std.proofs.Math.Nat.{mod-add-mod, pow-succ', mod-eq_of_lt, one-mul, mul-zero}
use Rattle.std.proofs.Math.Seq.{drop-length}
use Rattle.std.proofs.lemmas.Nat.{mul-mod_first}
use Rattle.debug_lines.specs.Numbers.{bits_of, is_negative, unsigned_of, signed_of}

-- the number of some bytes below higher bits, modulo 2^64
unfoldable pub bits_below : List ℕ → ℕ → ℕ
bits_below number above = (bits_of number + 128 ^ length number * above) % 2 ^ 64

turned : (x b : ℕ) → ((x % 2 ^ 64 * 128) % 2 ^ 64 + b) % 2 ^ 64 ≡ (x * 128 + b) % 2 ^ 64
turned x b = rw (mul-mod_first x 128 (2 ^ 64)) (mod-add-mod (x * 128) (2 ^ 64) b)

-- one byte more in front
rearranged : (b n p a q : ℕ) → q ≡ 128 * p → (n + p * a) * 128 + b ≡ b + 128 * n + q * a
rearranged b n p a q e = rw e (grind arith)

bits_below-cons : (b : ℕ) (more : List ℕ) (above : ℕ) → ((bits_below more above * 128) % 2 ^ 64 + b % 128) % 2 ^ 64 ≡ bits_below (b ∷ more) above
unfolding bits_below bits_of
bits_below-cons b more above =
    turned (bits_of more + 128 ^ length more * above) (b % 128)
    ∙ ap (λ n. n % 2 ^ 64) (rearranged (b % 128) (bits_of more) (128 ^ length more) above (128 ^ suc (length more)) (pow-succ' 128 (length more)))

pub bits_below-step : (xs : List ℕ) (j i above v d : ℕ) → j ≡ i + 1 → i < length xs → v ≡ bits_below (drop j xs) above → d ≡ get_or xs i 0 % 128 → ((v * 128) % 2 ^ 64 + d) % 2 ^ 64 ≡ bits_below (drop i xs) above
bits_below-step xs j i above v d next inside e digit =
    let whole : drop i xs ≡ get_or xs i 0 ∷ drop (suc i) xs = drop-cons xs i 0 inside in
    let rest : v ≡ bits_below (drop (suc i) xs) above = e ∙ ap (λ n. bits_below (drop n xs) above) (next ∙ add-one i) in
    rw (digit, rest, whole) (bits_below-cons (get_or xs i 0) (drop (suc i) xs) above)

-- no byte yet
pub bits_below-none : (xs : List ℕ) (above : ℕ) → above < 2 ^ 64 → above ≡ bits_below (drop (length xs) xs) above
unfolding bits_below bits_of
bits_below-none xs above fits =
    let none : drop (length xs) xs ≡ [] = drop-length xs in
    rw none (sym (rw (one-mul above, zero-add above) (mod-eq_of_lt fits)))

-- all of them
pub bits_below-all : (xs : List ℕ) (i above v : ℕ) → i ≡ 0 → v ≡ bits_below (drop i xs) above → v ≡ (bits_of xs + 128 ^ length xs * above) % 2 ^ 64
unfolding bits_below
bits_below-all xs i above v e h = rw e at h

-- an unsigned and a signed number
pub unsigned_of-bits : (xs : List ℕ) (v : ℕ) → v ≡ (bits_of xs + 128 ^ length xs * 0) % 2 ^ 64 → v ≡ unsigned_of xs
unfolding unsigned_of
unsigned_of-bits xs v e = e ∙ ap (λ n. n % 2 ^ 64) (rw (mul-zero (128 ^ length xs)) (add-zero (bits_of xs)))

pub signed_of-negative : (xs : List ℕ) (v : ℕ) → is_negative xs ≡ true → v ≡ (bits_of xs + 128 ^ length xs * (2 ^ 64 - 1)) % 2 ^ 64 → v ≡ signed_of xs
unfolding signed_of
signed_of-negative xs v e h = rw e h

pub signed_of-positive : (xs : List ℕ) (v : ℕ) → is_negative xs ≡ false → v ≡ (bits_of xs + 128 ^ length xs * 0) % 2 ^ 64 → v ≡ signed_of xs
unfolding signed_of unsigned_of
signed_of-positive xs v e h = rw e (unsigned_of-bits xs v h)
