-- The pages of a table as a finite map, and how many there are.
use Rattle.std.proofs.Common.{◌≡◌, ◌≢◌, ℕ, zero, suc, ◌+◌, ◌*◌, ◌/◌, ◌<◌, ◌≤◌, true, false, List, Option, Some, None, refl, sym, ap, ◌∙◌, inl, inr, arith, is_some}
use Rattle.std.proofs.lemmas.Option.{none-some}
use Rattle.std.proofs.lemmas.Bool.{cases_eq, cases_lt, cond-true, cond-false}
use Rattle.std.specs.Ordering.{nat_cmp}
use Rattle.std.specs.Cmp.{nat_cmp_total}
use Rattle.std.specs.FinMap as finite
use Rattle.std.specs.FinMap.{find, get-from_entries, get-insert, get-remove, len-insert, len-empty, same_map, nat_cmp-IsAntisymmetric}
use Rattle.mte_tags.specs.declared.attrs.Attrs.{Attrs}
use Rattle.mte_tags.proofs.Pages.{tied_same, tied_other}
use Rattle.mte_frames.specs.Pool.{Pool}
use Rattle.mte_translate.specs.Tables.{entry_at, walk_at, is_valid, attrs_in, frame_in, valid_in, translation_in, translation_at, before, entries_from, map_below, pages_of}
use Rattle.mte_translate.proofs.EntryLemmas.{valid-or-not, valid-odd, invalid-even}

-- ---- the finite map that is g below n
before-same : {X : Type 0} (q : ℕ) (o : Option X) (more : List (ℕ × X)) → find nat_cmp q more ≡ None → find nat_cmp q (before q o more) ≡ o
before-same q None more e = e
before-same q (Some x) more e = cond-true _ _ _ (tied_same q)

before-other : {X : Type 0} (q r : ℕ) (o : Option X) (more : List (ℕ × X)) → r ≢ q → find nat_cmp r (before q o more) ≡ find nat_cmp r more
before-other q r None more n = refl
before-other q r (Some x) more n = cond-false _ _ _ (tied_other r q n)

find-below : {X : Type 0} (g : ℕ → Option X) (q n r : ℕ) → r < q → find nat_cmp r (entries_from g q n) ≡ None
unfolding entries_from
find-below g q zero r l = refl
find-below g q (suc n) r l = before-other q r (g q) (entries_from g (q + 1) n) (λ e. omega arith) ∙ find-below g (q + 1) n r (omega arith)

find-in : {X : Type 0} (g : ℕ → Option X) (q n r : ℕ) → q ≤ r → r < q + n → find nat_cmp r (entries_from g q n) ≡ g r
unfolding entries_from
find-in g q zero r a b = absurd (omega arith)
find-in g q (suc n) r a b = elim (cases_eq r q) [
  | inl e ↦ rw e (before-same q (g q) (entries_from g (q + 1) n) (find-below g (q + 1) n q (omega arith)))
  | inr d ↦ before-other q r (g q) (entries_from g (q + 1) n) d ∙ find-in g (q + 1) n r (omega arith) (omega arith)
]

find-past : {X : Type 0} (g : ℕ → Option X) (q n r : ℕ) → q + n ≤ r → find nat_cmp r (entries_from g q n) ≡ None
unfolding entries_from
find-past g q zero r a = refl
find-past g q (suc n) r a = before-other q r (g q) (entries_from g (q + 1) n) (λ e. omega arith) ∙ find-past g (q + 1) n r (omega arith)

pub get-below : {X : Type 0} (n : ℕ) (g : ℕ → Option X) (q : ℕ) → q < n → finite.get (map_below n g) q ≡ g q
unfolding map_below
get-below n g q l = get-from_entries nat_cmp_total (entries_from g 0 n) q ∙ find-in g 0 n q (omega arith) (omega arith)

pub get-past : {X : Type 0} (n : ℕ) (g : ℕ → Option X) (q : ℕ) → n ≤ q → finite.get (map_below n g) q ≡ None
unfolding map_below
get-past n g q l = get-from_entries nat_cmp_total (entries_from g 0 n) q ∙ find-past g 0 n q (omega arith)

-- ---- how many numbers below n g is something at
abbrev one_if : {X : Type 0} → Option X → ℕ
one_if None = 0
one_if (Some x) = 1

unfoldable some-from : {X : Type 0} → (ℕ → Option X) → ℕ → ℕ → ℕ
some-from g q zero = 0
some-from g q (suc n) = one_if (g q) + some-from g (q + 1) n

len-before : {X : Type 0} (q : ℕ) (o : Option X) (es : List (ℕ × X)) → find nat_cmp q es ≡ None → finite.len (finite.from_entries {R = nat_cmp} (before q o es)) ≡ one_if o + finite.len (finite.from_entries {R = nat_cmp} es)
len-before q None es e = omega arith
len-before q (Some x) es e = len-insert nat_cmp_total (finite.from_entries es) q x ∙ cond-false _ _ _ (ap is_some (get-from_entries nat_cmp_total es q ∙ e)) ∙ (omega arith)

len-from : {X : Type 0} (g : ℕ → Option X) (q n : ℕ) → finite.len (finite.from_entries {R = nat_cmp} (entries_from g q n)) ≡ some-from g q n
unfolding entries_from some-from
len-from {X} g q zero = len-empty nat_cmp X
len-from g q (suc n) = len-before q (g q) (entries_from g (q + 1) n) (find-below g (q + 1) n q (omega arith)) ∙ ap (λ m. one_if (g q) + m) (len-from g (q + 1) n)

len-below : {X : Type 0} (n : ℕ) (g : ℕ → Option X) → finite.len (map_below n g) ≡ some-from g 0 n
unfolding map_below
len-below n g = len-from g 0 n

some-most : {X : Type 0} (g : ℕ → Option X) (q n : ℕ) → some-from g q n ≤ n
unfolding some-from
some-most g q zero = omega arith
some-most g q (suc n) = omega (arith, one-most (g q), some-most g (q + 1) n)
  where
    one-most : {X : Type 0} (o : Option X) → one_if o ≤ 1
    one-most None = omega arith
    one-most (Some x) = omega arith

some-split : {X : Type 0} (g : ℕ → Option X) (q a b : ℕ) → some-from g q (a + b) ≡ some-from g q a + some-from g (q + a) b
unfolding some-from
some-split g q zero b =
    let e : some-from g q (zero + b) ≡ some-from g q b = ap (some-from g q) (omega arith) in
    let f : some-from g (q + zero) b ≡ some-from g q b = ap (λ r. some-from g r b) (omega arith) in
    omega (arith, e, f)
some-split g q (suc a) b =
    let d : suc a + b ≡ suc (a + b) = omega arith in
    let e : some-from g q (suc a + b) ≡ some-from g q (suc (a + b)) = ap (some-from g q) d in
    let f : some-from g (q + 1 + a) b ≡ some-from g (q + suc a) b = ap (λ r. some-from g r b) (omega arith) in
    omega (arith, e, f, some-split g (q + 1) a b)

some-there : {X : Type 0} (g : ℕ → Option X) (q n r : ℕ) → q ≤ r → r < q + n → is_some (g r) ≡ true → 1 ≤ some-from g q n
unfolding some-from
some-there g q zero r a b s = absurd (omega (arith, a, b))
some-there g q (suc n) r a b s = elim (cases_eq r q) [
  | inl e ↦ omega (arith, one-some (g q) (ap (λ i. is_some (g i)) (sym e) ∙ s))
  | inr d ↦ omega (arith, some-there g (q + 1) n r (omega (arith, a, d)) (omega (arith, b)) s)
]
  where
    one-some : {X : Type 0} (o : Option X) → is_some o ≡ true → one_if o ≡ 1
    one-some None e = absurd (grind (arith, e))
    one-some (Some x) e = refl

len-most : {X : Type 0} (n : ℕ) (g : ℕ → Option X) → finite.len (map_below n g) ≤ n
len-most n g = rw (len-below n g) (some-most g 0 n)

-- ---- the pages of a table
pub pages-most : (p : Pool) (root : ℕ) → finite.len (pages_of p root) ≤ 262144
unfolding pages_of
pages-most p root = len-most 262144 (translation_at p root)

abbrev frame-of : Option (ℕ × Attrs) → ℕ
frame-of None = 0
frame-of (Some x) = x.0

pub same-frame : (x y : ℕ × Attrs) → Some x ≡ Some y → x.0 ≡ y.0
same-frame x y e = ap frame-of e

pub get-page : (p : Pool) (root q : ℕ) → q < 262144 → finite.get (pages_of p root) q ≡ translation_in (walk_at p root q)
unfolding pages_of
get-page p root q l = get-below 262144 (translation_at p root) q l

pub get-page_past : (p : Pool) (root q : ℕ) → 262144 ≤ q → finite.get (pages_of p root) q ≡ None
unfolding pages_of
get-page_past p root q l = get-past 262144 (translation_at p root) q l

pub page-low : (p : Pool) (root q : ℕ) (x : ℕ × Attrs) → finite.get (pages_of p root) q ≡ Some x → q < 262144
page-low p root q x e = elim (cases_lt q 262144) [
  | inl b ↦ b
  | inr b ↦ absurd (none-some x (sym (get-page_past p root q b) ∙ e))
]

pub page-valid : (p : Pool) (root q : ℕ) → q < 262144 → finite.get (pages_of p root) q ≢ None → is_valid (walk_at p root q) ≡ true
page-valid p root q low h = elim (valid-or-not (walk_at p root q)) [
  | inl t ↦ t
  | inr b ↦ absurd (h (get-page p root q low ∙ cond-false _ _ _ b))
]

pub page-invalid : (p : Pool) (root q : ℕ) → q < 262144 → finite.get (pages_of p root) q ≡ None → is_valid (walk_at p root q) ≡ false
page-invalid p root q low h = elim (valid-or-not (walk_at p root q)) [
  | inl t ↦ absurd (none-some _ (sym h ∙ get-page p root q low ∙ cond-true _ _ _ t))
  | inr b ↦ b
]

pub page-there : (p : Pool) (root q : ℕ) → q < 262144 → is_valid (walk_at p root q) ≡ true → finite.get (pages_of p root) q ≡ Some (frame_in (walk_at p root q), attrs_in (walk_at p root q))
page-there p root q low t = get-page p root q low ∙ cond-true _ _ _ t

pub page-gone : (p : Pool) (root q : ℕ) → q < 262144 → is_valid (walk_at p root q) ≡ false → finite.get (pages_of p root) q ≡ None
page-gone p root q low t = get-page p root q low ∙ cond-false _ _ _ t

pub pages-same : (p n : Pool) (root : ℕ) → ((q : ℕ) → q < 262144 → walk_at n root q ≡ walk_at p root q) → pages_of n root ≡ pages_of p root
pages-same p n root h = same_map nat_cmp_total nat_cmp-IsAntisymmetric _ _ (λ q. elim (cases_lt q 262144) [
  | inl b ↦ get-page n root q b ∙ ap translation_in (h q b) ∙ sym (get-page p root q b)
  | inr b ↦ get-page_past n root q b ∙ sym (get-page_past p root q b)
])

pub pages-put : (p n : Pool) (root page e f : ℕ) (a : Attrs) → page < 262144 → walk_at n root page ≡ e → translation_in e ≡ Some (f, a)
    → ((q : ℕ) → q < 262144 → q ≢ page → walk_at n root q ≡ walk_at p root q) → pages_of n root ≡ finite.insert (pages_of p root) page (f, a)
pages-put p n root page e f a low w t h = same_map nat_cmp_total nat_cmp-IsAntisymmetric _ _ (λ q. elim (cases_eq q page) [
  | inl s ↦ rw s (get-page n root page low ∙ ap translation_in w ∙ t ∙ sym (get-insert nat_cmp_total (pages_of p root) page (f, a) page ∙ cond-true _ _ _ (tied_same page)))
  | inr d ↦ elim (cases_lt q 262144) [
    | inl b ↦ get-page n root q b ∙ ap translation_in (h q b d) ∙ sym (get-insert nat_cmp_total (pages_of p root) page (f, a) q ∙ cond-false _ _ _ (tied_other q page d) ∙ get-page p root q b)
    | inr b ↦ get-page_past n root q b ∙ sym (get-insert nat_cmp_total (pages_of p root) page (f, a) q ∙ cond-false _ _ _ (tied_other q page d) ∙ get-page_past p root q b)
  ]
])

pub pages-removed : (p n : Pool) (root page : ℕ) → page < 262144 → walk_at n root page ≡ 0
    → ((q : ℕ) → q < 262144 → q ≢ page → walk_at n root q ≡ walk_at p root q) → pages_of n root ≡ finite.remove (pages_of p root) page
pages-removed p n root page low z h = same_map nat_cmp_total nat_cmp-IsAntisymmetric _ _ (λ q. elim (cases_eq q page) [
  | inl s ↦ rw s (get-page n root page low ∙ ap translation_in z ∙ sym (get-remove nat_cmp_total (pages_of p root) page page ∙ cond-true _ _ _ (tied_same page)))
  | inr d ↦ elim (cases_lt q 262144) [
    | inl b ↦ get-page n root q b ∙ ap translation_in (h q b d) ∙ sym (get-remove nat_cmp_total (pages_of p root) page q ∙ cond-false _ _ _ (tied_other q page d) ∙ get-page p root q b)
    | inr b ↦ get-page_past n root q b ∙ sym (get-remove nat_cmp_total (pages_of p root) page q ∙ cond-false _ _ _ (tied_other q page d) ∙ get-page_past p root q b)
  ]
])

-- ---- no more leaves than pages
leaves-below : (p : Pool) (root m : ℕ) → m ≤ 512 → ((s : ℕ) → s < m → is_valid (entry_at p root s) ≡ true → (q : ℕ) × ((q < 262144) × (q / 512 ≡ s) × (is_valid (walk_at p root q) ≡ true)))
    → valid_in p root m ≤ some-from (translation_at p root) 0 (512 * m)
unfolding valid_in
leaves-below p root zero l h = omega arith
leaves-below p root (suc m) l h =
    let rest = leaves-below p root m (omega arith) (λ s b. h s (omega arith)) in
    let e : 512 * suc m ≡ 512 * m + 512 = omega arith in
    let f : some-from (translation_at p root) 0 (512 * suc m) ≡ some-from (translation_at p root) 0 (512 * m + 512) = ap (some-from (translation_at p root) 0) e in
    let split = some-split (translation_at p root) 0 (512 * m) 512 in
    elim (valid-or-not (entry_at p root m)) [
      | inl v ↦
          let found = h m (omega arith) v in
          let q = found.0 in
          let d : q / 512 ≡ m = found.1.1 in
          let one = some-there (translation_at p root) (0 + 512 * m) 512 q (omega (arith, d)) (omega (arith, d)) (ap is_some (cond-true _ _ _ found.1.2)) in
          let odd = valid-odd _ v in
          omega (arith, rest, f, split, one, odd)
      | inr b ↦ let even = invalid-even _ b in omega (arith, rest, f, split, even)
    ]

pub leaves-less : (p : Pool) (root : ℕ) → ((s : ℕ) → s < 512 → is_valid (entry_at p root s) ≡ true → (q : ℕ) × ((q < 262144) × (q / 512 ≡ s) × (is_valid (walk_at p root q) ≡ true)))
    → valid_in p root 512 ≤ finite.len (pages_of p root)
unfolding pages_of
leaves-less p root h = let less = leaves-below p root 512 (omega arith) h in rw (len-below 262144 (translation_at p root)) less
