-- Mappings by user address.
use Rattle.std.proofs.Common.{◌≡◌, ◌≢◌, ℕ, ◌+◌, ◌%◌, ◌<◌, ◌≤◌, ◌⊎◌, ◌==◌, Bool, true, false, cond, not, nat_lt, eq-eqb, Option, Some, None, List, [], ◌∷◌, refl, sym, ap, subst, ◌∙◌, inl, inr, arith}
use Rattle.std.proofs.lemmas.Bool.{cases_eq, cond-true, cond-false}
use Rattle.std.proofs.lemmas.Bool.Decides.{nat_tests}
use Rattle.std.specs.Ordering.{nat_cmp, eq_by_cmp}
use Rattle.std.specs.Cmp.{nat_cmp_total}
use Rattle.std.specs.FinMap.{get-insert, get-remove}
use Rattle.mte_tags.proofs.Pages.{tied_same, tied_other}
use Rattle.common.specs.declared.limits.TheConstants.{PAGE_SIZE}
use Rattle.common.specs.declared.ranges.TheConstants.{SECONDARY_START}
use Rattle.scudo_secondary.specs.Mappings.{AreMappings, AreFrom, mapping_of, end_of, with_mapping}
use Rattle.scudo_secondary.specs.declared.mappings.Mapping.{Mapping}
use Rattle.mte_laws.specs.LivePages.{IsLargeHeaderOf, PageChunk, LivePages, large_at, AreLarge, with_large, without_large}
use Rattle.scudo_heap.proofs.MapLemmas.{others_of}

-- what is found by a user address has it, and begins at the least address or above
pub record IsFound (least u : ℕ) (x : Mapping) : Type 0 where
  pub user : x.user ≡ u
  pub above : least ≤ x.start
  pub first : x.start ≤ u
  pub last : u < end_of x
  pub aligned : x.start % PAGE_SIZE ≡ 0

found : (ms : List Mapping) (least u : ℕ) (x : Mapping) → AreFrom least ms → mapping_of ms u ≡ Some x → IsFound least u x
found [] least u x h e = cc
found (m ∷ ms) least u x h e = elim (cases_eq m.user u) [
  | inl q ↦
      let t : (m.user == u) ≡ true = eq-eqb _ _ q in
      let f : Some m ≡ Some x = sym (cond-true _ _ _ t) ∙ e in
      let g : m ≡ x = cc in
      let k = h.0 in
      let first = k.first in
      let last = k.last in
      subst (IsFound least u) g (record { user = q; above = k.above; first = omega arith; last = omega arith; aligned = k.aligned })
  | inr n ↦
      let t : (m.user == u) ≡ false = grind (arith, nat_tests) in
      let k = h.0 in
      let above = k.above in
      let r = found ms (end_of m + PAGE_SIZE) u x h.1 (sym (cond-false _ _ _ t) ∙ e) in
      let ra = r.above in
      record { user = r.user; above = omega arith; first = r.first; last = r.last; aligned = r.aligned }
]

-- two mappings don't meet
apart_from : (ms : List Mapping) (least u v : ℕ) (x y : Mapping) → AreFrom least ms → mapping_of ms u ≡ Some x → mapping_of ms v ≡ Some y → u ≢ v → (end_of x + PAGE_SIZE ≤ y.start) ⊎ (end_of y + PAGE_SIZE ≤ x.start)
apart_from [] least u v x y h e f n = cc
apart_from (m ∷ ms) least u v x y h e f n = elim (cases_eq m.user u) [
  | inl q ↦
      let t : (m.user == u) ≡ true = eq-eqb _ _ q in
      let no : (m.user == v) ≡ false = grind (arith, nat_tests) in
      let s : Some m ≡ Some x = sym (cond-true _ _ _ t) ∙ e in
      let g : m ≡ x = cc in
      let r = found ms (end_of m + PAGE_SIZE) v y h.1 (sym (cond-false _ _ _ no) ∙ f) in
      inl (subst (λ (z : Mapping). end_of z + PAGE_SIZE ≤ y.start) g r.above)
  | inr k ↦
      let t : (m.user == u) ≡ false = grind (arith, nat_tests) in
      let e' = sym (cond-false _ _ _ t) ∙ e in
      elim (cases_eq m.user v) [
        | inl q ↦
            let w : (m.user == v) ≡ true = eq-eqb _ _ q in
            let s : Some m ≡ Some y = sym (cond-true _ _ _ w) ∙ f in
            let g : m ≡ y = cc in
            let r = found ms (end_of m + PAGE_SIZE) u x h.1 e' in
            inr (subst (λ (z : Mapping). end_of z + PAGE_SIZE ≤ x.start) g r.above)
        | inr j ↦
            let w : (m.user == v) ≡ false = grind (arith, nat_tests) in
            apart_from ms (end_of m + PAGE_SIZE) u v x y h.1 e' (sym (cond-false _ _ _ w) ∙ f) n
      ]
]

pub mappings-apart : (ms : List Mapping) (u v : ℕ) (x y : Mapping) → AreMappings ms → mapping_of ms u ≡ Some x → mapping_of ms v ≡ Some y → u ≢ v → (end_of x + PAGE_SIZE ≤ y.start) ⊎ (end_of y + PAGE_SIZE ≤ x.start)
unfolding AreMappings
mappings-apart ms u v x y h e f n = apart_from ms (SECONDARY_START + PAGE_SIZE) u v x y h e f n

-- no two live chunks with pages of their own overlap, the granule before each taken along
pub large-apart : (ms : List Mapping) (g : LivePages) (u v : ℕ) (x y : PageChunk) → AreMappings ms → AreLarge ms g → large_at g u ≡ Some x → large_at g v ≡ Some y → u ≢ v → (u + x.size + 16 ≤ v) ⊎ (v + y.size + 16 ≤ u)
large-apart ms g u v x y o k e f n =
    let xa = k.above u x e in
    let xw = k.within u x e in
    let ya = k.above v y f in
    let yw = k.within v y f in
    elim (mappings-apart ms u v x.mapping y.mapping o (k.place u x e) (k.place v y f) n) [ inl r ↦ inl (omega arith) | inr r ↦ inr (omega arith) ]

-- the mappings without one
pub mapping_of-without : (ms : List Mapping) (v u : ℕ) → u ≢ v → mapping_of (others_of v ms) u ≡ mapping_of ms u
mapping_of-without [] v u n = refl
mapping_of-without (m ∷ ms) v u n = elim (cases_eq m.user v) [
  | inl q ↦
      let a : not (m.user == v) ≡ false = ap not (eq-eqb _ _ q) in
      let b : (m.user == u) ≡ false = grind (arith, nat_tests) in
      ap (λ xs. mapping_of xs u) (cond-false _ _ _ a) ∙ mapping_of-without ms v u n ∙ sym (cond-false _ _ _ b)
  | inr k ↦
      let c : (m.user == v) ≡ false = grind (arith, nat_tests) in
      let a : not (m.user == v) ≡ true = ap not c in
      ap (λ xs. mapping_of xs u) (cond-true _ _ _ a) ∙ ap (cond (m.user == u) (Some m)) (mapping_of-without ms v u n)
]

pub check-pointer-of : (ms : List Mapping) (u : ℕ) (x : Mapping) → AreMappings ms → mapping_of ms u ≡ Some x → IsFound (SECONDARY_START + PAGE_SIZE) u x
unfolding AreMappings
check-pointer-of ms u x h e = found ms (SECONDARY_START + PAGE_SIZE) u x h e

-- ---- the free of a chunk with pages of its own

pub large-removed : (g : LivePages) (v u : ℕ) (y : PageChunk) → large_at (without_large g v) u ≡ Some y → (u ≢ v) × (large_at g u ≡ Some y)
unfolding large_at without_large
large-removed g v u y e = elim (cases_eq u v) [
  | inl q ↦ let f : None ≡ Some y = sym (get-remove nat_cmp_total g v u ∙ cond-true _ _ _ (ap (λ t. eq_by_cmp nat_cmp t v) q ∙ tied_same v)) ∙ e in cc
  | inr n ↦ (n, sym (get-remove nat_cmp_total g v u ∙ cond-false _ _ _ (tied_other u v n)) ∙ e)
]

pub large-freed : (ms : List Mapping) (g : LivePages) (v : ℕ) → AreLarge ms g → AreLarge (others_of v ms) (without_large g v)
large-freed ms g v k = record {
  place = λ u y h. let o = large-removed g v u y h in mapping_of-without ms v u o.0 ∙ k.place u y o.1;
  aligned = λ u y h. k.aligned u y (large-removed g v u y h).1;
  above = λ u y h. k.above u y (large-removed g v u y h).1;
  within = λ u y h. k.within u y (large-removed g v u y h).1;
  header = λ u y h. k.header u y (large-removed g v u y h).1;
}

-- ---- a new chunk with pages of its own

swap : (a b : Bool) (x y z : Option Mapping) → (a ≡ true → b ≡ true → ⊥) → cond a x (cond b y z) ≡ cond b y (cond a x z)
swap true true x y z n = absurd (n refl refl)
swap true false x y z n = refl
swap false b x y z n = refl

of_branch : (b : Bool) (xs ys : List Mapping) (u : ℕ) (o : Option Mapping) → mapping_of xs u ≡ o → mapping_of ys u ≡ o → mapping_of (cond b xs ys) u ≡ o
of_branch true xs ys u o e f = e
of_branch false xs ys u o e f = f

pub mapping_of-with : (ms : List Mapping) (n : Mapping) (u : ℕ) → mapping_of ms n.user ≡ None → mapping_of (with_mapping ms n) u ≡ cond (n.user == u) (Some n) (mapping_of ms u)
unfolding with_mapping
mapping_of-with [] n u e = refl
mapping_of-with (m ∷ more) n u e = elim (cases_eq m.user n.user) [
  | inl q ↦ let t : (m.user == n.user) ≡ true = eq-eqb _ _ q in let f : Some m ≡ None = sym (cond-true _ _ _ t) ∙ e in cc
  | inr k ↦
      let t : (m.user == n.user) ≡ false = grind (arith, nat_tests) in
      let rest = mapping_of-with more n u (sym (cond-false _ _ _ t) ∙ e) in
      let no : (m.user == u) ≡ true → (n.user == u) ≡ true → ⊥ = λ a b. k (grind (arith, nat_tests)) in
      of_branch (nat_lt m.start n.start) (m ∷ with_mapping more n) (n ∷ (m ∷ more)) u _
      (ap (cond (m.user == u) (Some m)) rest ∙ swap (m.user == u) (n.user == u) (Some m) (Some n) (mapping_of more u) no)
      refl
]

pub large-added : (g : LivePages) (x : PageChunk) (u : ℕ) (y : PageChunk) → large_at (with_large g x) u ≡ Some y → ((u ≡ x.mapping.user) × (x ≡ y)) ⊎ ((u ≢ x.mapping.user) × (large_at g u ≡ Some y))
unfolding large_at with_large
large-added g x u y e = elim (cases_eq u x.mapping.user) [
  | inl q ↦ let f : Some x ≡ Some y = sym (get-insert nat_cmp_total g x.mapping.user x u ∙ cond-true _ _ _ (ap (λ t. eq_by_cmp nat_cmp t x.mapping.user) q ∙ tied_same x.mapping.user)) ∙ e in inl (q, cc)
  | inr n ↦ inr (n, sym (get-insert nat_cmp_total g x.mapping.user x u ∙ cond-false _ _ _ (tied_other u x.mapping.user n)) ∙ e)
]

-- what a place gives
pub record IsNewMapping (ms : List Mapping) (n : Mapping) : Type 0 where
  pub none : mapping_of ms n.user ≡ None
  pub aligned : n.start % PAGE_SIZE ≡ 0

pub large-state-after-allocation : (ms : List Mapping) (g : LivePages) (x : PageChunk) → AreLarge ms g → IsNewMapping ms x.mapping → x.mapping.start + 16 ≤ x.mapping.user → x.mapping.user + x.size ≤ end_of x.mapping → IsLargeHeaderOf x → x.mapping.user % 16 ≡ 0
    → AreLarge (with_mapping ms x.mapping) (with_large g x)
large-state-after-allocation ms g x k new above within header aligned =
    let n = x.mapping in
    let self : (n.user == n.user) ≡ true = eq-eqb n.user n.user refl in
    let here : mapping_of (with_mapping ms n) n.user ≡ Some n = mapping_of-with ms n n.user new.none ∙ cond-true _ _ _ self in
    let there : (u : ℕ) (y : Mapping) → mapping_of ms u ≡ Some y → u ≢ n.user → mapping_of (with_mapping ms n) u ≡ Some y = λ u y h q.
    let t : (n.user == u) ≡ false = grind (arith, nat_tests) in mapping_of-with ms n u new.none ∙ cond-false _ _ _ t ∙ h in
    record {
      place = λ u y h. elim (large-added g x u y h) [
        | inl b ↦ ap (mapping_of (with_mapping ms n)) b.0 ∙ here ∙ ap (λ (t : PageChunk). Some t.mapping) b.1
        | inr b ↦ there u y.mapping (k.place u y b.1) b.0
      ];
      aligned = λ u y h. elim (large-added g x u y h) [
        | inl b ↦ ap (λ t. t % 16) b.0 ∙ aligned
        | inr b ↦ k.aligned u y b.1
      ];
      above = λ u y h. elim (large-added g x u y h) [
        | inl b ↦ let f : n.start + 16 ≤ n.user = above in let e : y.mapping.start ≡ n.start = ap (λ (t : PageChunk). t.mapping.start) (sym b.1) in let q = b.0 in omega arith
        | inr b ↦ k.above u y b.1
      ];
      within = λ u y h. elim (large-added g x u y h) [
        | inl b ↦ subst (λ (t : PageChunk). u + t.size ≤ end_of t.mapping) b.1 (let q = b.0 in omega arith)
        | inr b ↦ k.within u y b.1
      ];
      header = λ u y h. elim (large-added g x u y h) [
        | inl b ↦ subst IsLargeHeaderOf b.1 header
        | inr b ↦ k.header u y b.1
      ];
    }
