-- How new blocks are cut into batches.
use Rattle.std.proofs.Common.{◌≡◌, ℕ, zero, suc, ◌+◌, ◌-◌, ◌*◌, ◌/◌, ◌%◌, ◌<◌, ◌≤◌, ◌==◌, ◌||◌, Bool, true, false, cond, min, List, [], ◌∷◌, ◌++◌, replicate, refl, sym, ap, subst, ◌∙◌, inl, inr, arith}
use Rattle.std.proofs.lemmas.Bool.{cases_eq, cases_lt, cond-true, cond-false}
use Rattle.std.proofs.lemmas.Bool.Decides.{nat_tests}
use Rattle.std.proofs.Math.Nat.{zero-div}
use Rattle.std.proofs.lemmas.Nat.{div-add-mod', div-mul-add, mod-mul-add, mod_below}
use Rattle.scudo_primary.specs.Batches.{cut_sizes}
use Rattle.scudo_primary.specs.Inner.{Each, sizes_after_push, one_more, is_last_at}

-- the sizes of the batches of the r highest of n new blocks
pub cut : ℕ → ℕ → ℕ → List ℕ
cut half n zero = []
cut half n (suc r) = sizes_after_push (is_last_at half n (n - suc r)) (cut half n r)

pub cut-zero : (half n : ℕ) → cut half n 0 ≡ []
unfolding cut
cut-zero half n = refl

pub cut-suc : (half n r : ℕ) → cut half n (suc r) ≡ sizes_after_push (is_last_at half n (n - suc r)) (cut half n r)
unfolding cut
cut-suc half n r = refl

-- one more
mod-next : (i h : ℕ) → i % h + 1 < h → (i + 1) % h ≡ i % h + 1
mod-next i h l =
    let d = div-add-mod' i h in
    let e : i + 1 ≡ i / h * h + (i % h + 1) = omega arith in
    ap (λ t. t % h) e ∙ mod-mul-add (i / h) h (i % h + 1) l

mod-end : (i h : ℕ) → i % h + 1 ≡ h → (i + 1) % h ≡ 0
mod-end i h l =
    let d = div-add-mod' i h in
    let m : (i / h + 1) * h ≡ i / h * h + h = grind arith in
    let e : i + 1 ≡ (i / h + 1) * h + 0 = omega arith in
    ap (λ t. t % h) e ∙ mod-mul-add (i / h + 1) h 0 (omega arith)

zero-mod : (h : ℕ) → 0 < h → 0 % h ≡ 0
zero-mod h p = let e : 0 ≡ 0 * h + 0 = omega arith in ap (λ t. t % h) e ∙ mod-mul-add 0 h 0 p

cut-sizes-zero : (half : ℕ) → 0 < half → cut_sizes half 0 ≡ []
cut-sizes-zero half p =
    let d : 0 / half ≡ 0 = zero-div half in
    let m = zero-mod half p in
    let t : (0 % half == 0) ≡ true = grind (arith, nat_tests) in
    ap (λ k. replicate k half ++ cond (0 % half == 0) [] ((0 % half) ∷ [])) d ∙ cond-true _ _ _ t

-- the first batch and the others
cut-sizes-first : (half m : ℕ) → 0 < half → 0 < m → cut_sizes half m ≡ min half m ∷ cut_sizes half (m - min half m)
cut-sizes-first half m p q = elim (cases_lt m half) [
  | inl s ↦
      (let e : m ≡ 0 * half + m = omega arith in
      let d : m / half ≡ 0 = ap (λ t. t / half) e ∙ div-mul-add 0 half m s in
      let r : m % half ≡ m = ap (λ t. t % half) e ∙ mod-mul-add 0 half m s in
      let t : (m % half == 0) ≡ false = grind (arith, nat_tests) in
      let least : min half m ≡ m = omega arith in
      let none : m - min half m ≡ 0 = omega arith in
      ap (λ k. replicate k half ++ cond (m % half == 0) [] ((m % half) ∷ [])) d ∙ cond-false _ _ _ t ∙ ap (λ k. k ∷ []) (r ∙ sym least)
      ∙ ap (λ l. min half m ∷ l) (sym (ap (cut_sizes half) none ∙ cut-sizes-zero half p)))
  | inr s ↦
      (let a = m - half in
      let da = div-add-mod' a half in
      let la = mod_below a half p in
      let f : (a / half + 1) * half ≡ a / half * half + half = grind arith in
      let e : m ≡ (a / half + 1) * half + a % half = omega arith in
      let d : m / half ≡ suc (a / half) = ap (λ t. t / half) e ∙ div-mul-add (a / half + 1) half (a % half) la ∙ (let z : a / half + 1 ≡ suc (a / half) = omega arith in z) in
      let r : m % half ≡ a % half = ap (λ t. t % half) e ∙ mod-mul-add (a / half + 1) half (a % half) la in
      let least : half ≡ min half m = omega arith in
      let rest : a ≡ m - min half m = omega arith in
      ap (λ k. replicate k half ++ cond (m % half == 0) [] ((m % half) ∷ [])) d
      ∙ ap (λ k. half ∷ (replicate (a / half) half ++ cond (k == 0) [] (k ∷ []))) r
      ∙ ap (λ k. k ∷ cut_sizes half a) least ∙ ap (λ k. min half m ∷ cut_sizes half k) rest)
]

-- the batch of the lowest of the r blocks, and those above
pub cut-first : (half n r : ℕ) → 0 < half → suc r ≤ n → cut half n (suc r) ≡ min (half - (n - suc r) % half) (suc r) ∷ cut_sizes half (suc r - min (half - (n - suc r) % half) (suc r))
unfolding cut
cut-first half n zero p l =
    let i = n - 1 in
    let x = mod_below i half p in
    let t : (i + 1 == n) ≡ true = grind (arith, nat_tests) in
    let least : 1 ≡ min (half - i % half) 1 = omega arith in
    let none : 1 - min (half - i % half) 1 ≡ 0 = omega arith in
    ap (λ b. sizes_after_push (b || ((i + 1) % half == 0)) []) t ∙ ap (λ k. k ∷ []) least ∙ ap (λ t. min (half - i % half) 1 ∷ t) (sym (ap (cut_sizes half) none ∙ cut-sizes-zero half p))
cut-first half n (suc r) p l =
    let i = n - suc (suc r) in
    let x = mod_below i half p in
    let next : n - suc r ≡ i + 1 = omega arith in
    let more = cut-first half n r p (omega arith) in
    let a : (i + 1 == n) ≡ false = grind (arith, nat_tests) in
    elim (cases_eq (i % half + 1) half) [
      | inl s ↦
          (let z : (i + 1) % half ≡ 0 = mod-end i half s in
          let b : ((i + 1) % half == 0) ≡ true = grind (arith, nat_tests) in
          let zn : (n - suc r) % half ≡ 0 = ap (λ t. t % half) next ∙ z in
          let first : min (half - (n - suc r) % half) (suc r) ≡ min half (suc r) = omega arith in
          let tail : cut half n (suc r) ≡ cut_sizes half (suc r) = more ∙ ap (λ t. t ∷ cut_sizes half (suc r - t)) first ∙ sym (cut-sizes-first half (suc r) p (omega arith)) in
          let one : 1 ≡ min (half - i % half) (suc (suc r)) = omega arith in
          let rest : suc r ≡ suc (suc r) - min (half - i % half) (suc (suc r)) = omega arith in
          ap (λ t. sizes_after_push (t || ((i + 1) % half == 0)) (cut half n (suc r))) a ∙ ap (λ t. sizes_after_push t (cut half n (suc r))) b ∙ ap (λ t. 1 ∷ t) tail
          ∙ ap (λ t. t ∷ cut_sizes half (suc r)) one ∙ ap (λ t. min (half - i % half) (suc (suc r)) ∷ cut_sizes half t) rest)
      | inr s ↦
          (let z : (i + 1) % half ≡ i % half + 1 = mod-next i half (omega arith) in
          let b : ((i + 1) % half == 0) ≡ false = grind (arith, nat_tests) in
          let zn : (n - suc r) % half ≡ i % half + 1 = ap (λ t. t % half) next ∙ z in
          let first : min (half - (n - suc r) % half) (suc r) + 1 ≡ min (half - i % half) (suc (suc r)) = omega arith in
          let rest : suc r - min (half - (n - suc r) % half) (suc r) ≡ suc (suc r) - min (half - i % half) (suc (suc r)) = omega arith in
          ap (λ t. sizes_after_push (t || ((i + 1) % half == 0)) (cut half n (suc r))) a ∙ ap (λ t. sizes_after_push t (cut half n (suc r))) b ∙ ap one_more more
          ∙ ap (λ t. t ∷ cut_sizes half (suc r - min (half - (n - suc r) % half) (suc r))) first ∙ ap (λ t. min (half - i % half) (suc (suc r)) ∷ cut_sizes half t) rest)
    ]

-- all of them
pub cut-all : (half n : ℕ) → 0 < half → cut half n n ≡ cut_sizes half n
unfolding cut
cut-all half zero p = sym (cut-sizes-zero half p)
cut-all half (suc n) p =
    let none : suc n - suc n ≡ 0 = omega arith in
    let z : (suc n - suc n) % half ≡ 0 = ap (λ t. t % half) none ∙ zero-mod half p in
    let first : min (half - (suc n - suc n) % half) (suc n) ≡ min half (suc n) = omega arith in
    cut-first half (suc n) n p (omega arith) ∙ ap (λ t. t ∷ cut_sizes half (suc n - t)) first ∙ sym (cut-sizes-first half (suc n) p (omega arith))

pub Each-append : (xs ys : List ℕ) (P : ℕ → Type 0) → Each P xs → Each P ys → Each P (xs ++ ys)
Each-append [] ys P h k = k
Each-append (x ∷ xs) ys P h k = (h.0, Each-append xs ys P h.1 k)

Each-replicate : (n x : ℕ) (P : ℕ → Type 0) → P x → Each P (replicate n x)
Each-replicate zero x P h = tt
Each-replicate (suc n) x P h = (h, Each-replicate n x P h)

cut-sizes-below : (half m : ℕ) → 0 < half → Each (λ k. k ≤ half) (cut_sizes half m)
cut-sizes-below half m p =
    let l = mod_below m half p in
    Each-append (replicate (m / half) half) _ _ (Each-replicate (m / half) half (λ k. k ≤ half) (omega arith))
    (elim (m % half == 0) as (λ b. Each (λ k. k ≤ half) (cond b [] ((m % half) ∷ []))) [ true ↦ tt | false ↦ (omega arith, tt) ])

pub cut-below : (half n r : ℕ) → 0 < half → r ≤ n → Each (λ k. k ≤ half) (cut half n r)
unfolding cut
cut-below half n zero p l = tt
cut-below half n (suc r) p l = subst (Each (λ k. k ≤ half)) (sym (cut-first half n r p l)) (omega arith, cut-sizes-below half _ p)

-- the sizes below the new ones have no part in it
pub cut-step : (half n r : ℕ) (sizes : List ℕ) → 0 < half → suc r ≤ n → sizes_after_push (is_last_at half n (n - suc r)) (cut half n r ++ sizes) ≡ cut half n (suc r) ++ sizes
unfolding cut
cut-step half n zero sizes p l =
    let i = n - 1 in
    let t : (i + 1 == n) ≡ true = grind (arith, nat_tests) in
    ap (λ b. sizes_after_push (b || ((i + 1) % half == 0)) sizes) t ∙ sym (ap (λ b. sizes_after_push (b || ((i + 1) % half == 0)) [] ++ sizes) t)
cut-step half n (suc r) sizes p l =
    sizes-after-push-append (is_last_at half n (n - suc (suc r))) (cut half n (suc r)) _ _ sizes (cut-first half n r p (omega arith))
  where
    sizes-after-push-cons : (last : Bool) (k : ℕ) (more sizes : List ℕ) → sizes_after_push last ((k ∷ more) ++ sizes) ≡ sizes_after_push last (k ∷ more) ++ sizes
    sizes-after-push-cons true k more sizes = refl
    sizes-after-push-cons false k more sizes = refl

    sizes-after-push-append : (last : Bool) (xs : List ℕ) (k : ℕ) (more sizes : List ℕ) → xs ≡ k ∷ more → sizes_after_push last (xs ++ sizes) ≡ sizes_after_push last xs ++ sizes
    sizes-after-push-append last xs k more sizes e = ap (λ t. sizes_after_push last (t ++ sizes)) e ∙ sizes-after-push-cons last k more sizes ∙ sym (ap (λ t. sizes_after_push last t ++ sizes) e)
