-- How often a number stands in a list, how many frames a quota has out, and sums.
use Rattle.std.proofs.lemmas.Bool.Decides.{nat_tests}
use Rattle.std.proofs.lemmas.List.Sums.{sum_by-cons}
use Rattle.std.specs.Prelude.{if◌then◌else◌, nat_eq, nat_lt, ◌≢◌, sum, get_or, slice_set}
use Rattle.std.proofs.Common.{◌≡◌, ℕ, zero, suc, ◌+◌, ◌<◌, ◌≤◌, List, [], ◌∷◌, ◌++◌, length, Option, Some, None, refl, ap, ◌∙◌, arith, replicate, ◌⊎◌, inl, inr}
use Rattle.mte_frames.specs.Pool.{is_owned, owned_by}
use Rattle.mte_frames.specs.Whole.{times, vacant}

pub same_or_not : (m n : ℕ) → (m ≡ n) ⊎ (m ≢ n)
same_or_not zero zero = inl refl
same_or_not zero (suc n) = inr (λ e. absurd (omega (arith, e)))
same_or_not (suc m) zero = inr (λ e. absurd (omega (arith, e)))
same_or_not (suc m) (suc n) = elim (same_or_not m n) [ inl e ↦ inl (ap suc e) | inr d ↦ inr (λ e. d (omega (arith, e))) ]

-- ---- how often
pub times-push : (x y : ℕ) (xs : List ℕ) → times x (xs ++ y ∷ []) ≡ times x xs + (if nat_eq x y then 1 else 0)
times-push x y [] = omega arith
times-push x y (z ∷ xs) = omega (arith, times-push x y xs)

pub once : (g f : ℕ) → g ≡ f → ◌≡◌ {A = ℕ} (if nat_eq g f then 1 else 0) 1
once g f e = grind (arith, nat_tests)

pub never : (g f : ℕ) → g ≢ f → ◌≡◌ {A = ℕ} (if nat_eq g f then 1 else 0) 0
never g f n = grind (arith, nat_tests)

-- ---- whose
pub owned_by-set : (q : ℕ) (os : List (Option ℕ)) (f : ℕ) (c : Option ℕ) → f < length os → owned_by q (slice_set os f c) + is_owned q (get_or os f (Some 0)) ≡ owned_by q os + is_owned q c
owned_by-set q [] f c h = absurd (omega (arith, h))
owned_by-set q (d ∷ os) zero c h = omega arith
owned_by-set q (d ∷ os) (suc f) c h = omega (arith, owned_by-set q os f c (omega (arith, h)))

pub self_owned : (q : ℕ) → is_owned q (Some q) ≡ 1
self_owned q = grind (arith, nat_tests)

pub owned_by-some : (q : ℕ) (os : List (Option ℕ)) (f : ℕ) → get_or os f None ≡ Some q → 0 < owned_by q os
owned_by-some q [] f e = cc
owned_by-some q (None ∷ os) zero e = cc
owned_by-some q (Some k ∷ os) zero e = let same : is_owned q (Some k) ≡ 1 = ap (is_owned q) e ∙ self_owned q in omega (arith, same)
owned_by-some q (c ∷ os) (suc f) e = omega (arith, owned_by-some q os f e)

pub owner_within : (os : List (Option ℕ)) (f q : ℕ) → get_or os f None ≡ Some q → f < length os
owner_within [] f q e = cc
owner_within (c ∷ os) zero q e = omega arith
owner_within (c ∷ os) (suc f) q e = omega (arith, owner_within os f q e)

pub vacant_within : (os : List (Option ℕ)) (f : ℕ) → get_or os f (Some 0) ≡ None → f < length os
vacant_within [] f e = cc
vacant_within (c ∷ os) zero e = omega arith
vacant_within (c ∷ os) (suc f) e = omega (arith, vacant_within os f e)

pub vacant_none : (c : Option ℕ) → 0 < vacant c → c ≡ None
vacant_none None h = refl
vacant_none (Some k) h = absurd (omega (arith, h))

-- ---- what stands at an index doesn't depend on what is answered past the end
pub any_default : {X : Type 0} (xs : List X) (i : ℕ) (d e : X) → i < length xs → get_or xs i d ≡ get_or xs i e
any_default [] i d e h = absurd (omega (arith, h))
any_default (x ∷ xs) zero d e h = refl
any_default (x ∷ xs) (suc i) d e h = any_default xs i d e (omega (arith, h))

pub within_of : (rs : List ℕ) (q : ℕ) → 0 < get_or rs q 0 → q < length rs
within_of [] q h = absurd (omega (arith, h))
within_of (r ∷ rs) zero h = omega arith
within_of (r ∷ rs) (suc q) h = omega (arith, within_of rs q h)

-- ---- sums
sum-cons : (t : ℕ) (ts : List ℕ) → sum (t ∷ ts) ≡ t + sum ts
sum-cons t ts = sum_by-cons (λ x. x) t ts

pub sum-set : (ts : List ℕ) (q v : ℕ) → q < length ts → sum (slice_set ts q v) + get_or ts q 0 ≡ sum ts + v
sum-set [] q v h = absurd (omega (arith, h))
sum-set (t ∷ ts) zero v h =
    let was : get_or (t ∷ ts) 0 0 ≡ t = refl in let now : sum (slice_set (t ∷ ts) 0 v) ≡ sum (v ∷ ts) = refl in omega (arith, was, now, sum-cons v ts, sum-cons t ts)
sum-set (t ∷ ts) (suc q) v h = omega (arith, sum-set ts q v (omega (arith, h)), sum-cons t (slice_set ts q v), sum-cons t ts)

pub sum-zeros : (n : ℕ) → sum (replicate n 0) ≡ 0
sum-zeros zero = refl
sum-zeros (suc n) = omega (arith, sum-zeros n, sum-cons 0 (replicate n 0))

sum-le : (ts rs : List ℕ) → ((k : ℕ) → get_or ts k 0 ≤ get_or rs k 0) → sum ts ≤ sum rs
sum-le [] rs h = omega arith
sum-le (t ∷ ts) [] h = let first : t ≤ 0 = h 0 in omega (arith, first, sum-cons t ts, sum-le ts [] (λ k. h (suc k)))
sum-le (t ∷ ts) (r ∷ rs) h = let first : t ≤ r = h 0 in omega (arith, first, sum-cons t ts, sum-cons r rs, sum-le ts rs (λ k. h (suc k)))

pub sum-less : (ts rs : List ℕ) (q : ℕ) → ((k : ℕ) → get_or ts k 0 ≤ get_or rs k 0) → get_or ts q 0 < get_or rs q 0 → sum ts < sum rs
sum-less [] [] q h l = absurd (omega (arith, l))
sum-less [] (r ∷ rs) zero h l = let less : 0 < r = l in omega (arith, less, sum-cons r rs)
sum-less [] (r ∷ rs) (suc q) h l = omega (arith, sum-cons r rs, sum-less [] rs q (λ k. h (suc k)) l)
sum-less (t ∷ ts) [] q h l = absurd (omega (arith, l))
sum-less (t ∷ ts) (r ∷ rs) zero h l = let less : t < r = l in omega (arith, less, sum-cons t ts, sum-cons r rs, sum-le ts rs (λ k. h (suc k)))
sum-less (t ∷ ts) (r ∷ rs) (suc q) h l = let first : t ≤ r = h 0 in omega (arith, first, sum-cons t ts, sum-cons r rs, sum-less ts rs q (λ k. h (suc k)) l)

pub some_sum : (ts : List ℕ) (q : ℕ) → 0 < get_or ts q 0 → 0 < sum ts
some_sum [] q h = absurd (omega (arith, h))
some_sum (t ∷ ts) zero h = let more : 0 < t = h in omega (arith, more, sum-cons t ts)
some_sum (t ∷ ts) (suc q) h = omega (arith, some_sum ts q h, sum-cons t ts)

-- where each number is some quota's, as much is reserved as there are numbers
pub all_used : (rs : List ℕ) → ((k : ℕ) → k < length rs → 0 < get_or rs k 0) → length rs ≤ sum rs
all_used [] h = omega arith
all_used (r ∷ rs) h = let first : 0 < r = h 0 (omega arith) in omega (arith, first, all_used rs (λ k l. h (suc k) (omega (arith, l))), sum-cons r rs)

-- ---- a pool of which nothing is reserved
pub below_more : (g f : ℕ) → ◌≡◌ {A = ℕ} ((if nat_lt g f then 1 else 0) + (if nat_eq g f then 1 else 0)) (if nat_lt g (f + 1) then 1 else 0)
below_more g f = grind (arith, nat_tests)

pub zero_at : (n q : ℕ) → ◌≡◌ {A = ℕ} (get_or (replicate n 0) q 0) 0
zero_at zero q = refl
zero_at (suc n) zero = refl
zero_at (suc n) (suc q) = zero_at n q

pub none_owned : (q n : ℕ) → owned_by q (replicate n None) ≡ 0
none_owned q zero = refl
none_owned q (suc n) = omega (arith, none_owned q n)

pub none_at : (n f : ℕ) → ◌≡◌ {A = Option ℕ} (get_or (replicate n None) f None) None
none_at zero f = refl
none_at (suc n) zero = refl
none_at (suc n) (suc f) = none_at n f

pub vacant_at : (n f : ℕ) → ◌≡◌ {A = ℕ} (if nat_lt f n then 1 else 0) (vacant (get_or (replicate n None) f (Some 0)))
vacant_at zero f = grind (arith, nat_tests)
vacant_at (suc n) zero = grind (arith, nat_tests)
vacant_at (suc n) (suc f) = let step : ◌≡◌ {A = ℕ} (if nat_lt (suc f) (suc n) then 1 else 0) (if nat_lt f n then 1 else 0) = grind (arith, nat_tests) in step ∙ vacant_at n f
