-- What a write of a page's entry and of its root entry, and of a root entry alone, makes of a tree.
use Rattle.std.proofs.Common.{◌≡◌, ◌≢◌, ℕ, ◌+◌, ◌/◌, ◌%◌, ◌<◌, true, false, get_or, None, sym, ap, ◌∙◌, inl, inr, arith}
use Rattle.std.proofs.lemmas.Bool.{cases_eq, cond-true, cond-false}
use Rattle.mte_frames.specs.Pool.{Pool, IsHeldBy, KeepsOthers}
use Rattle.mte_translate.specs.Tables.{entry_at, walk_at, is_valid, leaf_in, count_in, frame_in, valid_in, has_leaf, IsApart, IsUsed, IsTree, KeepsData}
use Rattle.mte_translate.specs.TableSteps.{KeepsRest}
use Rattle.mte_translate.proofs.EntryLemmas.{entry-kept, valid-or-not, valid-odd, count-same, count-set}

-- ---- walks
pub walk-leaf : (p : Pool) (root q : ℕ) → has_leaf p root q ≡ true → walk_at p root q ≡ entry_at p (leaf_in (entry_at p root (q / 512))) (q % 512)
unfolding walk_at
walk-leaf p root q h = cond-true _ _ _ h

pub walk-none : (p : Pool) (root q : ℕ) → has_leaf p root q ≡ false → walk_at p root q ≡ 0
unfolding walk_at
walk-none p root q h = cond-false _ _ _ h

pub walk-same : (p n : Pool) (root q : ℕ) → entry_at n root (q / 512) ≡ entry_at p root (q / 512)
    → (has_leaf p root q ≡ true → entry_at n (leaf_in (entry_at p root (q / 512))) (q % 512) ≡ entry_at p (leaf_in (entry_at p root (q / 512))) (q % 512))
    → walk_at n root q ≡ walk_at p root q
walk-same p n root q e h = elim (valid-or-not (entry_at p root (q / 512))) [
  | inl t ↦ walk-leaf n root q (ap is_valid e ∙ t) ∙ ap (λ x. entry_at n (leaf_in x) (q % 512)) e ∙ h t ∙ sym (walk-leaf p root q t)
  | inr b ↦ walk-none n root q (ap is_valid e ∙ b) ∙ sym (walk-none p root q b)
]

-- a page that is mapped has a leaf
pub mapped-leaf : (p : Pool) (root q : ℕ) → is_valid (walk_at p root q) ≡ true → has_leaf p root q ≡ true
mapped-leaf p root q h = elim (valid-or-not (entry_at p root (q / 512))) [
  | inl t ↦ t
  | inr b ↦ absurd (omega (arith, valid-odd _ h, ap (λ x. x % 2) (walk-none p root q b)))
]

-- frames of two uses are two
pub other-use : (p : Pool) (k : ℕ) (use_of : ℕ → ℕ) (f g m n : ℕ) → IsUsed p k use_of f m → IsUsed p k use_of g n → m ≢ n → f ≢ g
other-use p k use_of f g m n a b d s = d (sym a.use_is ∙ ap use_of s ∙ b.use_is)

-- the frame of a page is none of the table's own
pub page-apart : (p : Pool) (k root q : ℕ) (use_of : ℕ → ℕ) → IsTree p k root use_of → q < 262144 → is_valid (walk_at p root q) ≡ true → IsApart p root (frame_in (walk_at p root q))
page-apart p k root q use_of h low t =
    let o = h.pages q low t in
    record {
      no_root = other-use p k use_of _ _ _ _ o h.own_root (λ x. omega (arith, x));
      no_leaf = λ s b v. other-use p k use_of _ _ _ _ o (h.leaves s b v) (λ x. omega (arith, x, b));
    }

-- a leaf is out and apart from the root, and from other leaves
pub leaf-root : (p : Pool) (k root s : ℕ) (use_of : ℕ → ℕ) → IsTree p k root use_of → s < 512 → is_valid (entry_at p root s) ≡ true → leaf_in (entry_at p root s) ≢ root
leaf-root p k root s use_of h low t = other-use p k use_of _ _ _ _ (h.leaves s low t) h.own_root (λ x. omega (arith, x))

pub leaf-out : (p : Pool) (k root q re l : ℕ) (use_of : ℕ → ℕ) → IsTree p k root use_of → q < 262144 → has_leaf p root q ≡ true → re ≡ entry_at p root (q / 512) → l ≡ leaf_in re → IsHeldBy p l k
leaf-out p k root q re l use_of h low t is e = let o = h.leaves (q / 512) (omega arith) t in rw (e ∙ ap leaf_in is) o.out

-- ---- the entry of the page q and its root entry s are written: the leaf is l, the entries re and e
pub record Edit (p n : Pool) (k root q re e : ℕ) (use_of now_use : ℕ → ℕ) : Type 0 where
  pub tree : IsTree p k root use_of
  pub low : q < 262144
  pub leaf : has_leaf p root q ≡ true
  pub root_here : entry_at n root (q / 512) ≡ re
  pub root_slots : (j : ℕ) → j < 512 → j ≢ q / 512 → entry_at n root j ≡ entry_at p root j
  pub leaf_here : entry_at n (leaf_in (entry_at p root (q / 512))) (q % 512) ≡ e
  pub leaf_slots : (j : ℕ) → j < 512 → j ≢ q % 512 → entry_at n (leaf_in (entry_at p root (q / 512))) j ≡ entry_at p (leaf_in (entry_at p root (q / 512))) j
  pub frames : (g : ℕ) → g ≢ root → g ≢ leaf_in (entry_at p root (q / 512)) → get_or n.frames g None ≡ get_or p.frames g None
  pub owners : n.owners ≡ p.owners
  pub reserved : n.reserved ≡ p.reserved
  pub capacities : n.capacities ≡ p.capacities
  pub still : is_valid re ≡ true
  pub same_leaf : leaf_in re ≡ leaf_in (entry_at p root (q / 512))
  pub count : count_in re + walk_at p root q % 2 ≡ count_in (entry_at p root (q / 512)) + e % 2
  pub root_use : IsUsed n k now_use root 0
  pub leaf_use : (s : ℕ) → s < 512 → is_valid (entry_at p root s) ≡ true → IsUsed n k now_use (leaf_in (entry_at p root s)) (1 + s)
  pub page_use : (r : ℕ) → r < 262144 → is_valid (walk_at p root r) ≡ true → IsUsed n k now_use (frame_in (walk_at p root r)) 513
  pub mine : is_valid e ≡ true → IsUsed n k now_use (frame_in e) 513
  pub clean : is_valid e ≡ false → e ≡ 0

module _ (p n : Pool) (k root q re e : ℕ) (use_of now_use : ℕ → ℕ) (h : Edit p n k root q re e use_of now_use) where
  pub edit-leaf : has_leaf n root q ≡ true
  edit-leaf = ap is_valid h.root_here ∙ h.still

  pub edit-here : walk_at n root q ≡ e
  edit-here =
      walk-leaf n root q edit-leaf ∙ ap (λ x. entry_at n (leaf_in x) (q % 512)) h.root_here ∙ ap (λ l. entry_at n l (q % 512)) h.same_leaf ∙ h.leaf_here

  -- another leaf is as it was
  other-leaf : (s : ℕ) → s < 512 → s ≢ q / 512 → is_valid (entry_at p root s) ≡ true
      → get_or n.frames (leaf_in (entry_at p root s)) None ≡ get_or p.frames (leaf_in (entry_at p root s)) None
  other-leaf s l d t =
      let low = h.low in
      let o = h.tree.leaves s l t in
      h.frames _ (leaf-root p k root s use_of h.tree l t)
      (other-use p k use_of _ _ _ _ o (h.tree.leaves (q / 512) (omega arith) h.leaf) (λ x. d (omega (arith, x))))

  pub edit-other : (r : ℕ) → r < 262144 → r ≢ q → walk_at n root r ≡ walk_at p root r
  edit-other r l d = elim (cases_eq (r / 512) (q / 512)) [
    | inl s ↦
        let was : has_leaf p root r ≡ true = ap (λ j. is_valid (entry_at p root j)) s ∙ h.leaf in
        let now : entry_at n root (r / 512) ≡ re = ap (entry_at n root) s ∙ h.root_here in
        let low : r % 512 < 512 = omega arith in
        let other : r % 512 ≢ q % 512 = λ x. d (omega (arith, x, s)) in
        walk-leaf n root r (ap is_valid now ∙ h.still) ∙ ap (λ x. entry_at n (leaf_in x) (r % 512)) now ∙ ap (λ y. entry_at n y (r % 512)) h.same_leaf
        ∙ h.leaf_slots (r % 512) low other ∙ ap (λ j. entry_at p (leaf_in (entry_at p root j)) (r % 512)) (sym s) ∙ sym (walk-leaf p root r was)
    | inr n2 ↦
        let low : r / 512 < 512 = omega arith in
        walk-same p n root r (h.root_slots (r / 512) low n2)
        (λ t. entry-kept n p _ (r % 512) (other-leaf (r / 512) low n2 t))
  ]

  pub edit-tree : IsTree n k root now_use
  edit-tree =
      let low = h.low in
      let l = leaf_in (entry_at p root (q / 512)) in
      let kept : (s : ℕ) → s < 512 → s ≢ q / 512 → entry_at n root s ≡ entry_at p root s = h.root_slots in
      record {
        own_root = h.root_use;
        leaves = λ s b t. elim (cases_eq s (q / 512)) [
          | inl x ↦
              let is : leaf_in (entry_at n root s) ≡ l = ap (λ j. leaf_in (entry_at n root j)) x ∙ ap leaf_in h.root_here ∙ h.same_leaf in
              rw is (rw x (h.leaf_use (q / 512) (omega arith) h.leaf))
          | inr x ↦ rw (kept s b x) (h.leaf_use s b (ap is_valid (sym (kept s b x)) ∙ t))
        ];
        pages = λ r b t. elim (cases_eq r q) [
          | inl x ↦
              let is : walk_at n root r ≡ e = ap (walk_at n root) x ∙ edit-here in
              rw is (h.mine (ap is_valid (sym is) ∙ t))
          | inr x ↦ rw (edit-other r b x) (h.page_use r b (ap is_valid (sym (edit-other r b x)) ∙ t))
        ];
        clean = λ r b t. elim (cases_eq r q) [
          | inl x ↦ let is : walk_at n root r ≡ e = ap (walk_at n root) x ∙ edit-here in is ∙ h.clean (ap is_valid (sym is) ∙ t)
          | inr x ↦ edit-other r b x ∙ h.tree.clean r b (ap is_valid (sym (edit-other r b x)) ∙ t)
        ];
        counted = λ s b t. elim (cases_eq s (q / 512)) [
          | inl x ↦
              let is : entry_at n root s ≡ re = ap (entry_at n root) x ∙ h.root_here in
              let was = h.tree.counted (q / 512) (omega arith) h.leaf in
              let set = count-set p n l 512 (q % 512) (omega arith) h.leaf_slots in
              let old : entry_at p l (q % 512) % 2 ≡ walk_at p root q % 2 = ap (λ y. y % 2) (sym (walk-leaf p root q h.leaf)) in
              let new : entry_at n l (q % 512) % 2 ≡ e % 2 = ap (λ y. y % 2) h.leaf_here in
              let sums : count_in re ≡ valid_in n l 512 = balance _ _ _ _ _ _ _ _ h.count was set old new in
              ap count_in is ∙ sums ∙ sym (ap (λ y. valid_in n (leaf_in y) 512) is ∙ ap (λ y. valid_in n y 512) h.same_leaf)
          | inr x ↦
              let there = ap is_valid (sym (kept s b x)) ∙ t in
              ap count_in (kept s b x) ∙ h.tree.counted s b there
              ∙ sym (ap (λ y. valid_in n (leaf_in y) 512) (kept s b x) ∙ count-same p n _ 512 (λ j c. entry-kept n p _ j (other-leaf s b x there)))
        ];
      }
    where
      balance : (cr cp wp we tp tn op on : ℕ) → cr + wp ≡ cp + we → cp ≡ tp → tn + op ≡ tp + on → op ≡ wp → on ≡ we → cr ≡ tn
      balance cr cp wp we tp tn op on a b c d e = omega (arith, a, b, c, d, e)

  edit-leaves : (s : ℕ) → s < 512 → is_valid (entry_at n root s) ≡ true → (is_valid (entry_at p root s) ≡ true) × (leaf_in (entry_at n root s) ≡ leaf_in (entry_at p root s))
  edit-leaves s b t = elim (cases_eq s (q / 512)) [
    | inl x ↦ rw x (h.leaf, ap leaf_in h.root_here ∙ h.same_leaf)
    | inr x ↦ (ap is_valid (sym (h.root_slots s b x)) ∙ t, ap leaf_in (h.root_slots s b x))
  ]

  pub edit-keeps : KeepsData k root p n
  edit-keeps =
      let low = h.low in
      record {
        out = λ f o a. ap (λ os. get_or os f None) h.owners ∙ o;
        same = λ f o a. h.frames f a.no_root (a.no_leaf (q / 512) (omega arith) h.leaf);
        apart = λ f o a. record {
          no_root = a.no_root;
          no_leaf = λ s b t x. let was = edit-leaves s b t in a.no_leaf s b was.0 (x ∙ was.1);
        };
      }

  pub edit-rest : KeepsOthers k p n → KeepsRest k root (q / 512) p n
  edit-rest others = record { slots = h.root_slots; kept = edit-keeps; others = others; reserved = ap (λ rs. get_or rs k 0) h.reserved; capacities = h.capacities }

-- ---- a leaf is hung into the root, or taken out of it
pub record Hang (p n : Pool) (k root s l re : ℕ) (use_of now_use : ℕ → ℕ) : Type 0 where
  pub tree : IsTree p k root use_of
  pub low : s < 512
  pub here : entry_at n root s ≡ re
  pub slots : (j : ℕ) → j < 512 → j ≢ s → entry_at n root j ≡ entry_at p root j
  pub frames : (g : ℕ) → g ≢ root → g ≢ l → get_or n.frames g None ≡ get_or p.frames g None
  pub capacities : n.capacities ≡ p.capacities
  pub reserved : n.reserved ≡ p.reserved
  -- frames that are used, but not as the leaf, are others
  pub apart : (g u : ℕ) → u ≢ 1 + s → IsUsed p k use_of g u → g ≢ l
  pub moved : (g u : ℕ) → u ≢ 1 + s → IsUsed p k use_of g u → IsUsed n k now_use g u
  -- frames that are out and apart are others too
  pub others : (f : ℕ) → IsHeldBy p f k → IsApart p root f → f ≢ l
  pub out : (f : ℕ) → f ≢ l → IsHeldBy p f k → IsHeldBy n f k
  pub none : (q : ℕ) → q / 512 ≡ s → walk_at p root q ≡ 0
  pub still : (q : ℕ) → q / 512 ≡ s → walk_at n root q ≡ 0
  pub mine : is_valid re ≡ true → IsUsed n k now_use (leaf_in re) (1 + s)
  pub leaf_is : is_valid re ≡ true → leaf_in re ≡ l
  pub count : is_valid re ≡ true → count_in re ≡ valid_in n (leaf_in re) 512

module _ (p n : Pool) (k root s l re : ℕ) (use_of now_use : ℕ → ℕ) (h : Hang p n k root s l re use_of now_use) where
  kept-leaf : (j : ℕ) → j < 512 → j ≢ s → is_valid (entry_at p root j) ≡ true
      → get_or n.frames (leaf_in (entry_at p root j)) None ≡ get_or p.frames (leaf_in (entry_at p root j)) None
  kept-leaf j b d t =
      h.frames _ (leaf-root p k root j use_of h.tree b t) (h.apart _ (1 + j) (λ x. d (omega (arith, x))) (h.tree.leaves j b t))

  pub hang-walk : (q : ℕ) → q < 262144 → walk_at n root q ≡ walk_at p root q
  hang-walk q b = elim (cases_eq (q / 512) s) [
    | inl x ↦ h.still q x ∙ sym (h.none q x)
    | inr x ↦
        let low : q / 512 < 512 = omega arith in
        walk-same p n root q (h.slots (q / 512) low x) (λ t. entry-kept n p _ (q % 512) (kept-leaf (q / 512) low x t))
  ]

  pub hang-tree : IsTree n k root now_use
  hang-tree =
      let low = h.low in
      record {
        own_root = h.moved root 0 (λ x. omega (arith, x)) h.tree.own_root;
        leaves = λ j b t. elim (cases_eq j s) [
          | inl x ↦ let is : entry_at n root j ≡ re = ap (entry_at n root) x ∙ h.here in rw is (rw x (h.mine (ap is_valid (sym is) ∙ t)))
          | inr x ↦ rw (h.slots j b x) (h.moved _ (1 + j) (λ y. x (omega (arith, y))) (h.tree.leaves j b (ap is_valid (sym (h.slots j b x)) ∙ t)))
        ];
        pages = λ q b t. rw (hang-walk q b) (h.moved _ 513 (λ y. omega (arith, y, low)) (h.tree.pages q b (ap is_valid (sym (hang-walk q b)) ∙ t)));
        clean = λ q b t. hang-walk q b ∙ h.tree.clean q b (ap is_valid (sym (hang-walk q b)) ∙ t);
        counted = λ j b t. elim (cases_eq j s) [
          | inl x ↦
              let is : entry_at n root j ≡ re = ap (entry_at n root) x ∙ h.here in
              ap count_in is ∙ h.count (ap is_valid (sym is) ∙ t) ∙ sym (ap (λ y. valid_in n (leaf_in y) 512) is)
          | inr x ↦
              let there = ap is_valid (sym (h.slots j b x)) ∙ t in
              ap count_in (h.slots j b x) ∙ h.tree.counted j b there
              ∙ sym (ap (λ y. valid_in n (leaf_in y) 512) (h.slots j b x) ∙ count-same p n _ 512 (λ i c. entry-kept n p _ i (kept-leaf j b x there)))
        ];
      }

  pub hang-keeps : KeepsData k root p n
  hang-keeps = record {
    out = λ f o a. h.out f (h.others f o a) o;
    same = λ f o a. h.frames f a.no_root (h.others f o a);
    apart = λ f o a. record {
      no_root = a.no_root;
      no_leaf = λ j b t x. elim (cases_eq j s) [
        | inl e ↦ let is : entry_at n root j ≡ re = ap (entry_at n root) e ∙ h.here in h.others f o a (x ∙ ap leaf_in is ∙ h.leaf_is (ap is_valid (sym is) ∙ t))
        | inr d ↦ a.no_leaf j b (ap is_valid (sym (h.slots j b d)) ∙ t) (x ∙ ap leaf_in (h.slots j b d))
      ];
    };
  }

  pub hang-rest : KeepsOthers k p n → KeepsRest k root s p n
  hang-rest others = record { slots = h.slots; kept = hang-keeps; others = others; reserved = ap (λ rs. get_or rs k 0) h.reserved; capacities = h.capacities }
