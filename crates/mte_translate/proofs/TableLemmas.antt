-- What the calls of a table make of it.
use Rattle.std.proofs.Common.{◌≡◌, ◌≢◌, ℕ, ◌+◌, ◌-◌, ◌*◌, ◌/◌, ◌%◌, ◌<◌, ◌≤◌, true, false, get_or, slice_set, Option, Some, None, List, refl, sym, ap, subst, ◌∙◌, inl, inr, arith, is_some, get_or-set_same}
use Rattle.std.proofs.lemmas.Option.{none-some}
use Rattle.std.proofs.lemmas.Bool.{cases_eq, cases_lt, cond-true, cond-false}
use Rattle.std.specs.Ordering.{nat_cmp}
use Rattle.std.specs.Cmp.{nat_cmp_total}
use Rattle.std.specs.FinMap as finite
use Rattle.std.specs.FinMap.{get-empty, get-insert, get-remove, len-insert, len-remove, len-empty, empty_of_len, same_map, nat_cmp-IsAntisymmetric}
use Rattle.mte_tags.specs.declared.attrs.Attrs.{Attrs}
use Rattle.mte_tags.proofs.Pages.{tied_same, tied_other}
use Rattle.mte_frames.specs.Pool.{Pool, KeepsOthers}
use Rattle.mte_frames.proofs.Keeps.{keeps_on}
use Rattle.mte_frames.proofs.Counts.{owner_within}
use Rattle.mte_translate.specs.Tables.{entry_at, walk_at, is_valid, leaf_in, count_in, attrs_in, frame_in, valid_in, has_leaf, missing_leaf, translation_in, pages_of, IsApart, IsTree, IsTreeOf, Root, IsTable, IsFirst, Pages, MapsOnce, MapsNever}
use Rattle.mte_translate.specs.TableSteps.{KeepsWalks, KeepsWalksBut}
use Rattle.mte_translate.proofs.EntryLemmas.{entry-zero, valid-or-not, valid-odd, invalid-even, odd-valid, count-set, count-zero, count-some, count-most}
use Rattle.mte_translate.proofs.TreeLemmas.{walk-leaf, walk-none, mapped-leaf}
use Rattle.mte_translate.proofs.TreeUses.{tree-of, sound-tree}
use Rattle.mte_translate.proofs.StepLemmas.{Took, leaf-counts}
use Rattle.mte_translate.proofs.PageLemmas.{same-frame, get-page, get-page_past, page-valid, page-there, page-gone, page-low, pages-put, pages-removed, pages-most, leaves-less}

abbrev pub root_of : ℕ → ℕ → ℕ → Root
root_of root len leaves = record { frame = root; len = len; leaves = leaves }

pub keeps-then : (q r : ℕ) (p n m : Pool) → r ≡ q → KeepsOthers q p n → KeepsOthers r n m → KeepsOthers q p m
keeps-then q r p n m e a b = keeps_on q p n m a (subst (λ x. KeepsOthers x n m) e b)

-- ---- a new table
module _ (p n : Pool) (k f : ℕ) (tk : Took p n k f) where
  blank : (s : ℕ) → s < 512 → entry_at n f s ≡ 0
  blank s b = entry-zero n f s b tk.fresh

  no-walk : (q : ℕ) → q < 262144 → walk_at n f q ≡ 0
  no-walk q b = walk-none n f q (ap is_valid (blank (q / 512) (omega (arith, b))))

  pub pages-new : pages_of n f ≡ finite.empty
  pages-new = same_map nat_cmp_total nat_cmp-IsAntisymmetric _ _ (λ q. elim (cases_lt q 262144) [
    | inl b ↦ get-page n f q b ∙ ap translation_in (no-walk q b) ∙ sym (get-empty nat_cmp q)
    | inr b ↦ get-page_past n f q b ∙ sym (get-empty nat_cmp q)
  ])

  pub table-new : IsTable n k (root_of f 0 0)
  table-new = record {
    tree = sound-tree n k f (record {
      use_of = λ g. 0;
      tree = record {
        own_root = record { out = tk.mine; use_is = refl };
        leaves = λ s b t. absurd (omega (arith, valid-odd _ t, ap (λ x. x % 2) (blank s b)));
        pages = λ q b t. absurd (omega (arith, valid-odd _ t, ap (λ x. x % 2) (no-walk q b)));
        clean = λ q b t. no-walk q b;
        counted = λ s b t. absurd (omega (arith, valid-odd _ t, ap (λ x. x % 2) (blank s b)));
      };
    });
    tight = λ s b t. absurd (omega (arith, valid-odd _ t, ap (λ x. x % 2) (blank s b)));
    len_is = sym (ap finite.len pages-new ∙ len-empty nat_cmp (ℕ × Attrs));
    leaves_are = sym (count-zero n f 512 blank);
  }

-- ---- leaves and pages that are counted
missing-is : (p : Pool) (root q : ℕ) → missing_leaf p root q + entry_at p root (q / 512) % 2 ≡ 1
missing-is p root q = elim (valid-or-not (entry_at p root (q / 512))) [
  | inl t ↦ omega (arith, cond-true {A = ℕ} _ 0 1 t, valid-odd _ t)
  | inr b ↦ omega (arith, cond-false {A = ℕ} _ 0 1 b, invalid-even _ b)
]

pub missing-one : (p : Pool) (root q : ℕ) → missing_leaf p root q ≤ 1
missing-one p root q = omega (arith, missing-is p root q)

pub leaves-few : (p : Pool) (k : ℕ) (t : Root) → IsTable p k t → t.leaves ≤ 512
leaves-few p k t h = omega (arith, h.leaves_are, count-most p t.frame 512)

pub len-few : (p : Pool) (k : ℕ) (t : Root) → IsTable p k t → t.len ≤ 262144
len-few p k t h = rw h.len_is (pages-most p t.frame)

pub len-some : (p : Pool) (k : ℕ) (t : Root) (q : ℕ) (x : ℕ × Attrs) → IsTable p k t → finite.get (pages_of p t.frame) q ≡ Some x → 1 ≤ t.len
len-some p k t q x h e = elim (cases_eq t.len 0) [
  | inl z ↦ absurd (none-some x (sym (ap (λ m. finite.get m q) (finite.empty_of_len (pages_of p t.frame) (sym h.len_is ∙ z)) ∙ get-empty nat_cmp q) ∙ e))
  | inr d ↦ omega (arith, d)
]

-- a leaf has a page
pub leaf-page : (p : Pool) (k root s : ℕ) (use_of : ℕ → ℕ) → IsTree p k root use_of → s < 512 → is_valid (entry_at p root s) ≡ true → count_in (entry_at p root s) ≢ 0
    → (q : ℕ) × ((q < 262144) × (q / 512 ≡ s) × (is_valid (walk_at p root q) ≡ true))
leaf-page p k root s use_of h low t some =
    let found = count-some p (leaf_in (entry_at p root s)) 512 (λ z. some (h.counted s low t ∙ z)) in
    let i = found.0 in
    let q = 512 * s + i in
    let inside : i < 512 = found.1.0 in
    let d : q / 512 ≡ s = omega arith in
    let r : q % 512 ≡ i = omega arith in
    (q, (omega arith, d, ap is_valid (walk-leaf p root q (ap (λ j. is_valid (entry_at p root j)) d ∙ t) ∙ (λ j. entry_at p (leaf_in (entry_at p root (d j))) (r j))) ∙ found.1.1))

-- ---- a page is mapped
pub entry-read : (f : ℕ) (a : Attrs) → a.0 < 256 → translation_in (512 * f + 2 * a.0 + 1) ≡ Some (f, a)
entry-read f a small =
    let bits = a.0 in
    let e = 512 * f + 2 * bits + 1 in
    let odd : e % 2 ≡ 1 = omega arith in
    let frame : frame_in e ≡ f = omega arith in
    let attrs : e / 2 % 256 ≡ bits = omega arith in
    cond-true _ _ _ (odd-valid e odd) ∙ (λ i. Some (frame i, record { 0 = attrs i }))

module _ (p n m : Pool) (k k2 root page f len leaves added : ℕ) (a : Attrs) (h : IsTable p k (root_of root len leaves)) (low : page < 262144) (gone : finite.get (pages_of p root) page ≡ None) (small : a.0 < 256)
    (walks1 : KeepsWalks root p n) (slots1 : (j : ℕ) → j < 512 → j ≢ page / 512 → entry_at n root j ≡ entry_at p root j) (new : added ≡ missing_leaf p root page)
    (tree : IsTreeOf m k2 root) (walk : walk_at m root page ≡ 512 * f + 2 * a.0 + 1) (walks2 : KeepsWalksBut root page n m) (slots2 : (j : ℕ) → j < 512 → j ≢ page / 512 → entry_at m root j ≡ entry_at n root j) where
  pub pages-mapped : pages_of m root ≡ finite.insert (pages_of p root) page (f, a)
  pages-mapped = pages-put p m root page _ f a low walk (entry-read f a small) (λ q b d. walks2 q b d ∙ walks1 q b)

  pub table-mapped : IsTable m k2 (root_of root (len + 1) (leaves + added))
  table-mapped =
      let slots : (j : ℕ) → j < 512 → j ≢ page / 512 → entry_at m root j ≡ entry_at p root j = λ j b d. slots2 j b d ∙ slots1 j b d in
      let bits = a.0 in
      let odd : (512 * f + 2 * bits + 1) % 2 ≡ 1 = omega arith in
      let mapped : is_valid (walk_at m root page) ≡ true = ap is_valid walk ∙ odd-valid _ odd in
      let there : entry_at m root (page / 512) % 2 ≡ 1 = valid-odd _ (mapped-leaf m root page mapped) in
      let set = count-set p m root 512 (page / 512) (omega arith) slots in
      record {
        tree = sound-tree m k2 root tree;
        tight = λ s b t. elim (cases_eq s (page / 512)) [
          | inl e ↦ rw e (leaf-counts m k2 root page tree.use_of tree.tree low mapped)
          | inr d ↦ rw (slots s b d) (h.tight s b (ap is_valid (sym (slots s b d)) ∙ t))
        ];
        len_is = ap (λ l. l + 1) h.len_is ∙ sym (ap finite.len pages-mapped ∙ len-insert nat_cmp_total (pages_of p root) page (f, a) ∙ cond-false _ _ _ (ap is_some gone));
        leaves_are = omega (arith, h.leaves_are, new, missing-is p root page, there, set);
      }

-- ---- a page is unmapped
module _ (p n m : Pool) (k k2 root page len leaves dropped : ℕ) (h : IsTable p k (root_of root len leaves)) (low : page < 262144) (mapped : is_valid (walk_at p root page) ≡ true)
    (walk : walk_at n root page ≡ 0) (walks1 : KeepsWalksBut root page p n) (slots1 : (j : ℕ) → j < 512 → j ≢ page / 512 → entry_at n root j ≡ entry_at p root j)
    (tree : IsTreeOf m k2 root) (tight : has_leaf m root page ≡ true → count_in (entry_at m root (page / 512)) ≢ 0) (walks2 : KeepsWalks root n m) (slots2 : (j : ℕ) → j < 512 → j ≢ page / 512 → entry_at m root j ≡ entry_at n root j) (gone : dropped ≡ missing_leaf m root page) where
  pub pages-unmapped : pages_of m root ≡ finite.remove (pages_of p root) page
  pages-unmapped = pages-removed p m root page low (walks2 page low ∙ walk) (λ q b d. walks2 q b ∙ walks1 q b d)

  slots-unmapped : (j : ℕ) → j < 512 → j ≢ page / 512 → entry_at m root j ≡ entry_at p root j
  slots-unmapped j b d = slots2 j b d ∙ slots1 j b d

  pub leaves-unmapped : valid_in m root 512 + dropped ≡ leaves
  leaves-unmapped =
      let there : entry_at p root (page / 512) % 2 ≡ 1 = valid-odd _ (mapped-leaf p root page mapped) in
      omega (arith, h.leaves_are, gone, missing-is m root page, there, count-set p m root 512 (page / 512) (omega arith) slots-unmapped)

  pub table-unmapped : IsTable m k2 (root_of root (len - 1) (leaves - dropped))
  table-unmapped = record {
    tree = sound-tree m k2 root tree;
    tight = λ s b t. elim (cases_eq s (page / 512)) [
      | inl e ↦ rw e (tight (ap (λ j. is_valid (entry_at m root j)) (sym e) ∙ t))
      | inr d ↦ rw (slots-unmapped s b d) (h.tight s b (ap is_valid (sym (slots-unmapped s b d)) ∙ t))
    ];
    len_is = ap (λ l. l - 1) h.len_is ∙ sym (ap finite.len pages-unmapped ∙ len-remove nat_cmp_total (pages_of p root) page ∙ cond-true _ _ _ (ap is_some (page-there p root page low mapped)));
    leaves_are = omega (arith, leaves-unmapped);
  }

pub pages-none : (p : Pool) (root page : ℕ) → finite.get (pages_of p root) page ≡ None → pages_of p root ≡ finite.remove (pages_of p root) page
pages-none p root page none = same_map nat_cmp_total nat_cmp-IsAntisymmetric _ _ (λ q. elim (cases_eq q page) [
  | inl e ↦ rw e (none ∙ sym (get-remove nat_cmp_total (pages_of p root) page page ∙ cond-true _ _ _ (tied_same page)))
  | inr d ↦ sym (get-remove nat_cmp_total (pages_of p root) page q ∙ cond-false _ _ _ (tied_other q page d))
])

-- ---- each frame for one page
pub once-empty : (m : Pages) → m ≡ finite.empty → MapsOnce m
once-empty m is q r f a b e _ = absurd (none-some _ (sym (ap (λ n. finite.get n q) is ∙ get-empty nat_cmp q) ∙ e))

pub once-insert : (m n : Pages) (page f : ℕ) (a : Attrs) → n ≡ finite.insert m page (f, a) → MapsNever m f → MapsOnce m → MapsOnce n
once-insert m n page f a new never once q r g b c eq er =
    elim (cases_eq q page) [
      | inl sq ↦ elim (cases_eq r page) [
        | inl sr ↦ sq ∙ sym sr
        | inr dr ↦
            let same : f ≡ g = same-frame _ _ (sym (at_page q sq) ∙ eq) in
            absurd (never r c (sym (at_other r dr) ∙ er ∙ ap (λ x. Some (x, c)) (sym same)))
      ]
      | inr dq ↦ elim (cases_eq r page) [
        | inl sr ↦
            let same : f ≡ g = same-frame _ _ (sym (at_page r sr) ∙ er) in
            absurd (never q b (sym (at_other q dq) ∙ eq ∙ ap (λ x. Some (x, b)) (sym same)))
        | inr dr ↦ once q r g b c (sym (at_other q dq) ∙ eq) (sym (at_other r dr) ∙ er)
      ]
    ]
  where
    at_page : (s : ℕ) → s ≡ page → finite.get n s ≡ Some (f, a)
    at_page s e = subst (λ x. finite.get n x ≡ Some (f, a)) (sym e) (ap (λ x. finite.get x page) new ∙ get-insert nat_cmp_total m page (f, a) page ∙ cond-true _ _ _ (tied_same page))

    at_other : (s : ℕ) → s ≢ page → finite.get n s ≡ finite.get m s
    at_other s d = ap (λ x. finite.get x s) new ∙ get-insert nat_cmp_total m page (f, a) s ∙ cond-false _ _ _ (tied_other s page d)

pub once-remove : (m n : Pages) (page : ℕ) → n ≡ finite.remove m page → MapsOnce m → MapsOnce n
once-remove m n page new once q r g b c eq er = once q r g b c (kept q _ eq) (kept r _ er)
  where
    kept : (s : ℕ) (x : ℕ × Attrs) → finite.get n s ≡ Some x → finite.get m s ≡ Some x
    kept s x e = elim (cases_eq s page) [
      | inl t ↦ absurd (none-some x (sym (ap (λ y. finite.get y page) new ∙ get-remove nat_cmp_total m page page ∙ cond-true _ _ _ (tied_same page)) ∙ ap (finite.get n) (sym t) ∙ e))
      | inr d ↦ sym (ap (λ y. finite.get y s) new ∙ get-remove nat_cmp_total m page s ∙ cond-false _ _ _ (tied_other s page d)) ∙ e
    ]

pub page-mapped : (p : Pool) (root page : ℕ) (x : ℕ × Attrs) → finite.get (pages_of p root) page ≡ Some x → is_valid (walk_at p root page) ≡ true
page-mapped p root page x e = page-valid p root page (page-low p root page x e) (λ none. none-some x (sym none ∙ e))

-- ---- a walk
pub walk-read : (p : Pool) (root page re l e : ℕ) → re ≡ entry_at p root (page / 512) → is_valid re ≡ true → l ≡ leaf_in re → e ≡ entry_at p l (page % 512) → walk_at p root page ≡ e
walk-read p root page re l e is v leaf here = walk-leaf p root page (ap is_valid (sym is) ∙ v) ∙ ap (λ x. entry_at p (leaf_in x) (page % 512)) (sym is) ∙ ap (λ x. entry_at p x (page % 512)) (sym leaf) ∙ sym here

pub page-read : (p : Pool) (root page e f : ℕ) (a : Attrs) → page < 262144 → walk_at p root page ≡ e → is_valid e ≡ true → f ≡ frame_in e → a ≡ attrs_in e → Some (f, a) ≡ finite.get (pages_of p root) page
page-read p root page e f a low w v fs as_ = (λ i. Some (fs i, as_ i)) ∙ sym (get-page p root page low ∙ ap translation_in w ∙ cond-true _ _ _ v)

-- a page's frame is mapped no more after the page
pub never-after : (m n : Pages) (page f : ℕ) (a : Attrs) → n ≡ finite.remove m page → finite.get m page ≡ Some (f, a) → MapsOnce m → MapsNever n f
never-after m n page f a new was once q b e = elim (cases_eq q page) [
  | inl s ↦ none-some _ (sym (ap (λ y. finite.get y page) new ∙ get-remove nat_cmp_total m page page ∙ cond-true _ _ _ (tied_same page)) ∙ ap (finite.get n) (sym s) ∙ e)
  | inr d ↦ d (once q page f b a (sym (ap (λ y. finite.get y q) new ∙ get-remove nat_cmp_total m page q ∙ cond-false _ _ _ (tied_other q page d)) ∙ e) was)
]

-- ---- a table that maps nothing
pub no-leaf : (p : Pool) (k : ℕ) (t : Root) → IsTable p k t → t.len ≡ 0 → (s : ℕ) → s < 512 → is_valid (entry_at p t.frame s) ≡ true → ⊥
no-leaf p k t h zero_len s low v =
    let found = leaf-page p k t.frame s (tree-of p k t.frame h.tree).use_of (tree-of p k t.frame h.tree).tree low v (h.tight s low v) in
    let some = len-some p k t found.0 _ h (page-there p t.frame found.0 found.1.0 found.1.2) in
    omega (arith, some, zero_len)

pub apart-closed : (p : Pool) (k : ℕ) (t : Root) (os : List (Option ℕ)) (f : ℕ) → IsTable p k t → t.len ≡ 0 → os ≡ slice_set p.owners t.frame None → get_or os f None ≡ Some k → IsApart p t.frame f
apart-closed p k t os f h zero_len new out = record {
  no_root = λ e. none-some k (sym (ap (λ o. get_or o f None) new ∙ ap (λ g. get_or (slice_set p.owners t.frame None) g None) e ∙ get_or-set_same p.owners t.frame None None (owner_within p.owners t.frame k h.tree.root_out)) ∙ out);
  no_leaf = λ s b v e. no-leaf p k t h zero_len s b v;
}

-- ---- the least page
pub first-found : (p : Pool) (root s l i : ℕ) → s < 512 → is_valid (entry_at p root s) ≡ true → l ≡ leaf_in (entry_at p root s) → i < 512 → is_valid (entry_at p l i) ≡ true
    → ((j : ℕ) → j < s → is_valid (entry_at p root j) ≡ false) → ((j : ℕ) → j < i → is_valid (entry_at p l j) ≡ false) → IsFirst (pages_of p root) (512 * s + i)
first-found p root s l i low v leaf inside w before_s before_i =
    let q = 512 * s + i in
    let d : q / 512 ≡ s = omega arith in
    let r : q % 512 ≡ i = omega arith in
    let valid : is_valid (walk_at p root q) ≡ true = ap is_valid (walk_here q d r) ∙ w in
    record {
      mapped = λ e. none-some _ (sym e ∙ page-there p root q (omega arith) valid);
      least = λ t b. page-gone p root t (omega (arith, b, low, inside)) (not-valid t b);
    }
  where
    walk_here : (q : ℕ) → q / 512 ≡ s → {j : ℕ} → q % 512 ≡ j → walk_at p root q ≡ entry_at p l j
    walk_here q d {j} r = walk-leaf p root q (ap (λ x. is_valid (entry_at p root x)) d ∙ v) ∙ (λ x. entry_at p (leaf_in (entry_at p root (d x))) (r x)) ∙ ap (λ x. entry_at p x j) (sym leaf)

    not-valid : (t : ℕ) → t < 512 * s + i → is_valid (walk_at p root t) ≡ false
    not-valid t b = elim (cases_eq (t / 512) s) [
      | inl e ↦ ap is_valid (walk_here t e refl) ∙ before_i (t % 512) (omega (arith, b, e))
      | inr d ↦ ap is_valid (walk-none p root t (before_s (t / 512) (omega (arith, b, d, inside))))
    ]

pub len-none : (p : Pool) (k : ℕ) (t : Root) → IsTable p k t → ((j : ℕ) → j < 512 → is_valid (entry_at p t.frame j) ≡ false) → t.len ≡ 0
len-none p k t h none =
    let empty : pages_of p t.frame ≡ finite.empty = same_map nat_cmp_total nat_cmp-IsAntisymmetric _ _ (λ q. elim (cases_lt q 262144) [
      | inl b ↦ page-gone p t.frame q b (ap is_valid (walk-none p t.frame q (none (q / 512) (omega arith)))) ∙ sym (get-empty nat_cmp q)
      | inr b ↦ get-page_past p t.frame q b ∙ sym (get-empty nat_cmp q)
    ]) in
    h.len_is ∙ ap finite.len empty ∙ len-empty nat_cmp (ℕ × Attrs)

-- a leaf that is there has a valid entry
pub leaf-used : (p : Pool) (k : ℕ) (t : Root) (s l : ℕ) → IsTable p k t → s < 512 → is_valid (entry_at p t.frame s) ≡ true → l ≡ leaf_in (entry_at p t.frame s) → ((j : ℕ) → j < 512 → is_valid (entry_at p l j) ≡ false) → ⊥
leaf-used p k t s l h low v leaf none =
    let found = count-some p l 512 (λ z. h.tight s low v (h.tree.counted s low v ∙ ap (λ x. valid_in p x 512) (sym leaf) ∙ z)) in
    let odd = valid-odd _ found.1.1 in
    let even = invalid-even _ (none found.0 found.1.0) in
    omega (arith, odd, even)

pub leaves-len : (p : Pool) (k : ℕ) (t : Root) → IsTable p k t → t.leaves ≤ t.len
leaves-len p k t h = let less = leaves-less p t.frame (λ s b v. leaf-page p k t.frame s (tree-of p k t.frame h.tree).use_of (tree-of p k t.frame h.tree).tree b v (h.tight s b v)) in omega (arith, less, h.leaves_are, h.len_is)
