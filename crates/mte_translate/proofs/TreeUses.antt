-- A sound tree gives each of its frames one use.
use Rattle.std.proofs.Common.{◌≡◌, ◌≢◌, ℕ, zero, suc, ◌+◌, ◌<◌, ◌≤◌, ◌==◌, ◌&&◌, Bool, true, false, cond, refl, sym, ap, subst, ◌∙◌, inl, inr, arith, eq-eqb}
use Rattle.std.proofs.lemmas.Bool.{cases_eq, cond-true, cond-false}
use Rattle.mte_frames.specs.Pool.{Pool}
use Rattle.mte_translate.specs.Tables.{entry_at, is_valid, leaf_in, IsTreeOf, IsSoundTree}
use Rattle.mte_translate.proofs.TreeLemmas.{page-apart, leaf-root}

is_leaf : Pool → ℕ → ℕ → ℕ → Bool
is_leaf p root f s = is_valid (entry_at p root s) && (leaf_in (entry_at p root s) == f)

-- the first n entries of the root are looked at
slot_of : Pool → ℕ → ℕ → ℕ → ℕ
slot_of p root f zero = 513
slot_of p root f (suc n) = cond (is_leaf p root f n) (1 + n) (slot_of p root f n)

use_in : Pool → ℕ → ℕ → ℕ
use_in p root f = cond (f == root) 0 (slot_of p root f 512)

bool_cases : (b : Bool) {Y : Type 0} → (b ≡ true → Y) → (b ≡ false → Y) → Y
bool_cases true a c = a refl
bool_cases false a c = c refl

both : (a b : Bool) → (a && b) ≡ true → (a ≡ true) × (b ≡ true)
both true b e = (refl, e)
both false b e = absurd cc

same : (m n : ℕ) → (m == n) ≡ true → m ≡ n
same m n e = grind arith

module _ (p : Pool) (k root : ℕ) (h : IsSoundTree p k root) where
  slot-leaf : (n s : ℕ) → n ≤ 512 → s < n → is_valid (entry_at p root s) ≡ true → slot_of p root (leaf_in (entry_at p root s)) n ≡ 1 + s
  unfolding slot_of is_leaf
  slot-leaf zero s few l v = absurd (omega (arith, l))
  slot-leaf (suc n) s few l v =
      let f = leaf_in (entry_at p root s) in
      bool_cases (is_leaf p root f n)
      (λ t.
      let is = both _ _ t in
      let e : n ≡ s = h.differ n s (omega (arith, few)) (omega (arith, few, l)) is.0 v (same _ _ is.1) in
      cond-true _ _ _ t ∙ ap (λ i. 1 + i) e)
      (λ b. cond-false _ _ _ b ∙ slot-leaf n s (omega (arith, few)) (earlier b) v)
    where
      earlier : is_leaf p root (leaf_in (entry_at p root s)) n ≡ false → s < n
      earlier b = elim (cases_eq s n) [
        | inl e ↦
            let yes : is_leaf p root (leaf_in (entry_at p root s)) n ≡ true = subst (λ i. is_leaf p root (leaf_in (entry_at p root s)) i ≡ true) e (ap (λ x. x && (leaf_in (entry_at p root s) == leaf_in (entry_at p root s))) v ∙ eq-eqb _ _ refl) in
            absurd (let no = sym b ∙ yes in cc)
        | inr d ↦ omega (arith, l, d)
      ]

  slot-none : (n f : ℕ) → ((s : ℕ) → s < n → is_valid (entry_at p root s) ≡ true → f ≢ leaf_in (entry_at p root s)) → slot_of p root f n ≡ 513
  unfolding slot_of is_leaf
  slot-none zero f away = refl
  slot-none (suc n) f away = bool_cases (is_leaf p root f n)
      (λ t. let is = both _ _ t in absurd (away n (omega arith) is.0 (sym (same _ _ is.1))))
      (λ b. cond-false _ _ _ b ∙ slot-none n f (λ s l. away s (omega (arith, l))))

  not-root : (f : ℕ) → f ≢ root → use_in p root f ≡ slot_of p root f 512
  unfolding use_in
  not-root f d = let e : (f == root) ≡ false = grind (arith, d) in cond-false _ _ _ e

  use-root : use_in p root root ≡ 0
  unfolding use_in
  use-root = cond-true _ _ _ (eq-eqb root root refl)

  pub tree-of : IsTreeOf p k root
  tree-of = record {
    use_of = use_in p root;
    tree = record {
      own_root = record { out = h.root_out; use_is = use-root };
      leaves = λ s b v. record { out = h.leaves_out s b v; use_is = not-root _ (h.no_root s b v) ∙ slot-leaf 512 s (omega arith) b v };
      pages = λ q b v. let a = h.pages_apart q b v in record { out = h.pages_out q b v; use_is = not-root _ a.no_root ∙ slot-none 512 _ a.no_leaf };
      clean = h.clean;
      counted = h.counted;
    };
  }

pub sound-tree : (p : Pool) (k root : ℕ) → IsTreeOf p k root → IsSoundTree p k root
sound-tree p k root h = record {
  root_out = h.tree.own_root.out;
  leaves_out = λ s b v. (h.tree.leaves s b v).out;
  no_root = λ s b v. leaf-root p k root s h.use_of h.tree b v;
  differ = λ s r b c v w e. omega (arith, (h.tree.leaves s b v).use_is, (h.tree.leaves r c w).use_is, ap h.use_of e);
  pages_out = λ q b v. (h.tree.pages q b v).out;
  pages_apart = λ q b v. page-apart p k root q h.use_of h.tree b v;
  clean = h.tree.clean;
  counted = h.tree.counted;
}
