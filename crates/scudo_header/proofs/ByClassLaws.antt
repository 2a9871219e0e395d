-- The laws of a value for each size class.
use Rattle.std.proofs.Common.{◌≡◌, ◌≢◌, ℕ, zero, suc, ◌+◌, ◌<◌, ◌≤◌, true, false, ◌⊎◌, map, Some, None, refl, sym, ap, subst, ◌∙◌, inl, inr, arith, unwrap_or, eq-eqb}
use Rattle.std.proofs.lemmas.Bool.{cases_eq, cases_lt, cond-true, cond-false}
use Rattle.std.specs.List.{range_with_len}
use Rattle.std.specs.Ordering.{nat_cmp, eq_by_cmp}
use Rattle.std.specs.Cmp.{unsigned_tied, nat_cmp_total}
use Rattle.std.specs.FinMap as finite
use Rattle.std.specs.FinMap.{find, get-insert, get-from_entries, same_map, nat_cmp-IsAntisymmetric}
use Rattle.scudo_header.specs.declared.config.TheConstants.{CLASSES}
use Rattle.scudo_header.specs.Classes.{IsClass}
use Rattle.scudo_header.specs.ByClass.{ByClass, by_class, value_of, with_value}

pub is-class : (c : ℕ) → IsClass c ⊎ (IsClass c → ⊥)
is-class c = elim (cases_lt 0 c) [
  | inl p ↦ elim (cases_lt CLASSES c) [
    | inl q ↦ inr (λ h. let b = h.high in omega arith)
    | inr q ↦ inl (record { low = p; high = q })
  ]
  | inr q ↦ inr (λ h. let a = h.low in omega arith)
]

tied-same : (q : ℕ) → eq_by_cmp nat_cmp q q ≡ true
tied-same q = unsigned_tied q q ∙ eq-eqb q q refl

tied-other : (q r : ℕ) → q ≢ r → eq_by_cmp nat_cmp q r ≡ false
tied-other q r n = unsigned_tied q r ∙ grind arith

entries-in : {X : Type 0} (f : ℕ → X) (n a q : ℕ) → a ≤ q → q < a + n → find nat_cmp q (map (λ c. (c, f c)) (range_with_len a n)) ≡ Some (f q)
entries-in f zero a q l h = absurd (omega arith)
entries-in f (suc n) a q l h = elim (cases_eq q a) [
  | inl s ↦ ap (λ t. find nat_cmp t (map (λ c. (c, f c)) (range_with_len a (suc n)))) s ∙ cond-true _ _ _ (tied-same a) ∙ ap (λ t. Some (f t)) (sym s)
  | inr o ↦ cond-false _ _ _ (tied-other q a o) ∙ entries-in f n (a + 1) q (omega arith) (omega arith)
]

entries-out : {X : Type 0} (f : ℕ → X) (n a q : ℕ) → ((a ≤ q) × (q < a + n) → ⊥) → find nat_cmp q (map (λ c. (c, f c)) (range_with_len a n)) ≡ None
entries-out f zero a q h = refl
entries-out f (suc n) a q h =
    let o : q ≢ a = λ e. h (omega arith, omega arith) in
    cond-false _ _ _ (tied-other q a o) ∙ entries-out f n (a + 1) q (λ t. let l = t.0 in let u = t.1 in h (omega arith, omega arith))

get-in : {X : Type 0} (f : ℕ → X) (c : ℕ) → IsClass c → finite.get (by_class f) c ≡ Some (f c)
unfolding by_class
get-in f c h = let a = h.low in let b = h.high in get-from_entries nat_cmp_total (map (λ d. (d, f d)) (range_with_len 1 CLASSES)) c ∙ entries-in f CLASSES 1 c (omega arith) (omega arith)

get-out : {X : Type 0} (f : ℕ → X) (c : ℕ) → (IsClass c → ⊥) → finite.get (by_class f) c ≡ None
unfolding by_class
get-out f c h =
    get-from_entries nat_cmp_total (map (λ d. (d, f d)) (range_with_len 1 CLASSES)) c ∙ entries-out f CLASSES 1 c (λ t. let l = t.0 in let u = t.1 in h (record { low = omega arith; high = omega arith }))

pub value_of-by_class : {X : Type 0} (f : ℕ → X) (none : X) (c : ℕ) → IsClass c → value_of (by_class f) none c ≡ f c
unfolding value_of
value_of-by_class f none c h = ap (λ o. unwrap_or o none) (get-in f c h)

pub value_of-with_value : {X : Type 0} (m : ByClass X) (none : X) (c : ℕ) (x : X) → value_of (with_value m c x) none c ≡ x
unfolding value_of with_value
value_of-with_value m none c x = ap (λ o. unwrap_or o none) (get-insert nat_cmp_total m c x c ∙ cond-true _ _ _ (tied-same c))

pub value_of-with_value_other : {X : Type 0} (m : ByClass X) (none : X) (c : ℕ) (x : X) (d : ℕ) → d ≢ c → value_of (with_value m c x) none d ≡ value_of m none d
unfolding value_of with_value
value_of-with_value_other m none c x d n = ap (λ o. unwrap_or o none) (get-insert nat_cmp_total m c x d ∙ cond-false _ _ _ (tied-other d c n))

pub by_class-same : {X : Type 0} (f g : ℕ → X) → ((c : ℕ) → IsClass c → f c ≡ g c) → by_class f ≡ by_class g
by_class-same f g h = same_map nat_cmp_total nat_cmp-IsAntisymmetric _ _ (λ q. elim (is-class q) [
  | inl hq ↦ get-in f q hq ∙ ap Some (h q hq) ∙ sym (get-in g q hq)
  | inr o ↦ get-out f q o ∙ sym (get-out g q o)
])

-- one class has another value
pub by_class-with_value : {X : Type 0} (f g : ℕ → X) (c : ℕ) (x : X) → IsClass c → g c ≡ x → ((d : ℕ) → IsClass d → d ≢ c → g d ≡ f d) → by_class g ≡ with_value (by_class f) c x
unfolding with_value
by_class-with_value f g c x h own other = same_map nat_cmp_total nat_cmp-IsAntisymmetric _ _ (λ q. (elim (is-class q) [
  | inl hq ↦ get-in g q hq ∙ elim (cases_eq q c) [
    | inl s ↦ ap Some (ap g s ∙ own) ∙ sym (cond-true _ _ _ (ap (λ t. eq_by_cmp nat_cmp t c) s ∙ tied-same c))
    | inr n ↦ ap Some (other q hq n) ∙ sym (get-in f q hq) ∙ sym (cond-false _ _ _ (tied-other q c n))
  ]
  | inr o ↦ get-out g q o ∙ sym (get-out f q o) ∙ sym (cond-false _ _ _ (tied-other q c (λ e. o (subst IsClass (sym e) h))))
]) ∙ sym (get-insert nat_cmp_total (by_class f) c x q))
