-- The four steps of a table: a page is put in or taken out, a leaf is hung in or taken out.
use Rattle.std.proofs.Common.{List, ◌≡◌, ◌≢◌, ℕ, ◌+◌, ◌-◌, ◌*◌, ◌/◌, ◌%◌, ◌<◌, ◌≤◌, nat_eq, true, false, length, get_or, slice_set, Option, Some, None, cond, refl, sym, ap, ◌∙◌, inl, inr, arith, eq-eqb, get_or-set_same, get_or-set_other}
use Rattle.std.proofs.lemmas.Option.{none-some}
use Rattle.std.proofs.lemmas.Bool.{cases_eq, cond-true, cond-false}
use Rattle.mte_arena.specs.Frames.{Frame, frame_at, zero_frame}
use Rattle.mte_frames.specs.Pool.{Pool, make_pool, IsHeldBy, IsSound, taken_by, reserved_by}
use Rattle.mte_frames.proofs.Counts.{any_default, vacant_within, owned_by-some, within_of as within_count}
use Rattle.mte_translate.specs.Tables.{entry_at, walk_at, is_valid, leaf_in, count_in, frame_in, valid_in, has_leaf, IsApart, IsUsed, IsTree}
use Rattle.mte_translate.specs.TableSteps.{Wrote}
use Rattle.mte_translate.proofs.EntryLemmas.{frame-same, entry-kept, entry-zero, valid-odd, invalid-even, odd-valid, even-invalid, count-less, count-zero, count-none, out-few}
use Rattle.mte_translate.proofs.TreeLemmas.{walk-leaf, walk-none, other-use, mapped-leaf, Edit, Hang}

-- ---- uses
abbrev pub use_with : (ℕ → ℕ) → ℕ → ℕ → ℕ → ℕ
use_with use_of f u g = cond (nat_eq g f) u (use_of g)

with-same : (use_of : ℕ → ℕ) (f u : ℕ) → use_with use_of f u f ≡ u
with-same use_of f u = cond-true _ _ _ (eq-eqb f f refl)

with-other : (use_of : ℕ → ℕ) (f u g : ℕ) → g ≢ f → use_with use_of f u g ≡ use_of g
with-other use_of f u g d = let b : nat_eq g f ≡ false = grind arith in cond-false _ _ _ b

used-still : (p n : Pool) (k f u g v : ℕ) (use_of : ℕ → ℕ) → n.owners ≡ p.owners → g ≢ f → IsUsed p k use_of g v → IsUsed n k (use_with use_of f u) g v
used-still p n k f u g v use_of os d x = record { out = ap (λ o. get_or o g None) os ∙ x.out; use_is = with-other use_of f u g d ∙ x.use_is }

-- ---- a frame is taken or given back
-- the frame f was taken under k
pub record Took (p n : Pool) (k f : ℕ) : Type 0 where
  pub fresh : frame_at n.frames f ≡ zero_frame
  pub frames : (g : ℕ) → g ≢ f → get_or n.frames g None ≡ get_or p.frames g None
  pub mine : IsHeldBy n f k
  pub out : (g : ℕ) → IsHeldBy p g k → IsHeldBy n g k
  pub vacant : (g : ℕ) → IsHeldBy p g k → g ≢ f
  pub reserved : n.reserved ≡ p.reserved
  pub capacities : n.capacities ≡ p.capacities

pub took : (p n : Pool) (k f : ℕ) (ts : List ℕ) → f < length p.frames → get_or p.owners f (Some 0) ≡ None → IsHeldBy n f k → ((g j : ℕ) → IsHeldBy p g j → IsHeldBy n g j)
    → n ≡ make_pool p.capacities (slice_set p.frames f (Some zero_frame)) (slice_set p.owners f (Some k)) p.reserved ts → Took p n k f
took p n k f ts within free mine out new =
    let none : get_or p.owners f None ≡ None = any_default p.owners f None (Some 0) (vacant_within p.owners f free) ∙ free in
    let fs : n.frames ≡ slice_set p.frames f (Some zero_frame) = ap (λ (t : Pool). t.frames) new in
    record {
      fresh = ap (λ t. frame_at t f) fs ∙ frame-same p.frames f zero_frame within;
      frames = λ g a. ap (λ t. get_or t g None) fs ∙ get_or-set_other p.frames f g (Some zero_frame) None a;
      mine = mine;
      out = λ g o. out g k o;
      vacant = λ g o s. none-some k (sym none ∙ ap (λ j. get_or p.owners j None) (sym s) ∙ o);
      reserved = ap (λ (t : Pool). t.reserved) new;
      capacities = ap (λ (t : Pool). t.capacities) new;
    }

pub taken-took : (p n : Pool) (k : ℕ) (fs : List (Option Frame)) (os : List (Option ℕ)) → taken_by p k < reserved_by p k → IsSound p
    → n ≡ make_pool p.capacities fs os p.reserved (slice_set p.taken k (taken_by p k + 1)) → taken_by n k ≡ taken_by p k + 1
taken-took p n k fs os room sound new =
    ap (λ (t : Pool). get_or t.taken k 0) new ∙ get_or-set_same p.taken k (taken_by p k + 1) 0 (omega (arith, within_count p.reserved k (omega (arith, room)), sound.reserved_len, sound.taken_len))

-- the frame f was given back
pub record Gave (p n : Pool) (k f : ℕ) : Type 0 where
  pub frames : n.frames ≡ p.frames
  pub out : (g : ℕ) → g ≢ f → IsHeldBy p g k → IsHeldBy n g k
  pub reserved : n.reserved ≡ p.reserved
  pub capacities : n.capacities ≡ p.capacities

pub gave : (p n : Pool) (k f : ℕ) (os : List (Option ℕ)) (ts : List ℕ) → ((g j : ℕ) → g ≢ f → IsHeldBy p g j → IsHeldBy n g j) → n ≡ make_pool p.capacities p.frames os p.reserved ts → Gave p n k f
gave p n k f os ts out new = record {
  frames = ap (λ (t : Pool). t.frames) new;
  out = λ g d o. out g k d o;
  reserved = ap (λ (t : Pool). t.reserved) new;
  capacities = ap (λ (t : Pool). t.capacities) new;
}

pub taken-gave : (p n : Pool) (k f : ℕ) (os : List (Option ℕ)) → IsSound p → IsHeldBy p f k → n ≡ make_pool p.capacities p.frames os p.reserved (slice_set p.taken k (taken_by p k - 1)) → taken_by n k + 1 ≡ taken_by p k
taken-gave p n k f os sound out new =
    let some = owned_by-some k p.owners f out in
    let much : 0 < taken_by p k = omega (arith, some, sound.taken_count k) in
    omega (arith, much, ap (λ (t : Pool). get_or t.taken k 0) new, get_or-set_same p.taken k (taken_by p k - 1) 0 (within_count p.taken k much))

-- ---- a page is put in
pub page-put : (p n m : Pool) (k root q f a e re : ℕ) (use_of : ℕ → ℕ) → IsTree p k root use_of → q < 262144 → re ≡ entry_at p root (q / 512) → has_leaf p root q ≡ true → is_valid (walk_at p root q) ≡ false
    → IsHeldBy p f k → IsApart p root f → Wrote p n (leaf_in re) (q % 512) e → Wrote n m root (q / 512) (re + 2) → e ≡ 512 * f + 2 * a + 1 → a < 256
    → Edit p m k root q (re + 2) e use_of (use_with use_of f 513)
page-put p n m k root q f a e re use_of h low is leaf gone out apart w1 w2 ee small =
    let there : is_valid re ≡ true = ap is_valid is ∙ leaf in
    let l = leaf_in re in
    let los : IsUsed p k use_of l (1 + q / 512) = rw is (h.leaves (q / 512) (omega arith) leaf) in
    let l_root : l ≢ root = other-use p k use_of _ _ _ _ los h.own_root (λ x. omega (arith, x)) in
    let frame : frame_in e ≡ f = omega arith in
    let odd : e % 2 ≡ 1 = omega arith in
    let walk : walk_at p root q ≡ entry_at p l (q % 512) = walk-leaf p root q leaf ∙ ap (λ x. entry_at p (leaf_in x) (q % 512)) (sym is) in
    let even : walk_at p root q % 2 ≡ 0 = invalid-even _ gone in
    let slot : q / 512 < 512 = omega (arith, low) in
    let counted_0 : count_in (entry_at p root (q / 512)) ≡ valid_in p (leaf_in (entry_at p root (q / 512))) 512 = h.counted (q / 512) slot leaf in
    let counted : count_in re ≡ valid_in p l 512 = rw is counted_0 in
    let less = count-less p l 512 (q % 512) (omega arith) (ap (λ x. x % 2) (sym walk) ∙ even) in
    let os : m.owners ≡ p.owners = w2.owners ∙ w1.owners in
    record {
      tree = h;
      low = low;
      leaf = leaf;
      root_here = w2.here;
      root_slots = λ j b d. w2.slots j b d ∙ entry-kept n p root j (w1.frames root (λ x. l_root (sym x)));
      leaf_here = rw (sym is) (entry-kept m n l (q % 512) (w2.frames l l_root) ∙ w1.here);
      leaf_slots = rw (sym is) (λ j b d. entry-kept m n l j (w2.frames l l_root) ∙ w1.slots j b d);
      frames = rw (sym is) (λ g x y. w2.frames g x ∙ w1.frames g y);
      owners = os;
      reserved = w2.reserved ∙ w1.reserved;
      capacities = w2.capacities ∙ w1.capacities;
      still = odd-valid _ (let x = valid-odd re there in let y : (re + 2) % 2 ≡ 1 = omega (arith, x) in y);
      same_leaf = rw (sym is) (room_leaf re (valid-odd re there) (omega (arith, less, counted)));
      count = rw (sym is) (room_count re (walk_at p root q) e (valid-odd re there) (omega (arith, less, counted)) even odd);
      root_use = used-still p m k f 513 root 0 use_of os (λ x. apart.no_root (sym x)) h.own_root;
      leaf_use = λ s b t. used-still p m k f 513 _ (1 + s) use_of os (λ x. apart.no_leaf s b t (sym x)) (h.leaves s b t);
      page_use = λ r b t. any_use _ (h.pages r b t) os;
      mine = λ t. rw frame (record { out = ap (λ o. get_or o f None) os ∙ out; use_is = with-same use_of f 513 });
      clean = λ t. absurd (omega (arith, invalid-even e t, odd));
    }
  where
    room_leaf : (r : ℕ) → r % 2 ≡ 1 → r / 2 % 1024 < 512 → (r + 2) / 2048 ≡ r / 2048
    room_leaf r a b = omega arith

    room_count : (r w e : ℕ) → r % 2 ≡ 1 → r / 2 % 1024 < 512 → w % 2 ≡ 0 → e % 2 ≡ 1 → (r + 2) / 2 % 1024 + w % 2 ≡ r / 2 % 1024 + e % 2
    room_count r w e a b c d = omega arith

    any_use : (g : ℕ) → IsUsed p k use_of g 513 → m.owners ≡ p.owners → IsUsed m k (use_with use_of f 513) g 513
    any_use g x os = elim (cases_eq g f) [
      | inl y ↦ record { out = ap (λ o. get_or o g None) os ∙ x.out; use_is = rw y (with-same use_of f 513) }
      | inr d ↦ used-still p m k f 513 g 513 use_of os d x
    ]

-- ---- a page is taken out
pub page-taken : (p n m : Pool) (k root q re : ℕ) (use_of : ℕ → ℕ) → IsTree p k root use_of → q < 262144 → re ≡ entry_at p root (q / 512) → is_valid (walk_at p root q) ≡ true
    → Wrote p n (leaf_in re) (q % 512) 0 → Wrote n m root (q / 512) (re - 2) → Edit p m k root q (re - 2) 0 use_of use_of
page-taken p n m k root q re use_of h low is mapped w1 w2 =
    let leaf = mapped-leaf p root q mapped in
    let there : is_valid re ≡ true = ap is_valid is ∙ leaf in
    let l = leaf_in re in
    let los : IsUsed p k use_of l (1 + q / 512) = rw is (h.leaves (q / 512) (omega arith) leaf) in
    let l_root : l ≢ root = other-use p k use_of _ _ _ _ los h.own_root (λ x. omega (arith, x)) in
    let walk : walk_at p root q ≡ entry_at p l (q % 512) = walk-leaf p root q leaf ∙ ap (λ x. entry_at p (leaf_in x) (q % 512)) (sym is) in
    let one : walk_at p root q % 2 ≡ 1 = valid-odd _ mapped in
    let slot : q / 512 < 512 = omega (arith, low) in
    let counted_0 : count_in (entry_at p root (q / 512)) ≡ valid_in p (leaf_in (entry_at p root (q / 512))) 512 = h.counted (q / 512) slot leaf in
    let counted : count_in re ≡ valid_in p l 512 = rw is counted_0 in
    let some : count_in re ≢ 0 = λ z. absurd (omega (arith, count-none p l 512 (q % 512) (omega arith) (sym counted ∙ z), one, ap (λ x. x % 2) walk)) in
    let os : m.owners ≡ p.owners = w2.owners ∙ w1.owners in
    let still : (g u : ℕ) → IsUsed p k use_of g u → IsUsed m k use_of g u = λ g u x. record { out = ap (λ o. get_or o g None) os ∙ x.out; use_is = x.use_is } in
    record {
      tree = h;
      low = low;
      leaf = leaf;
      root_here = w2.here;
      root_slots = λ j b d. w2.slots j b d ∙ entry-kept n p root j (w1.frames root (λ x. l_root (sym x)));
      leaf_here = rw (sym is) (entry-kept m n l (q % 512) (w2.frames l l_root) ∙ w1.here);
      leaf_slots = rw (sym is) (λ j b d. entry-kept m n l j (w2.frames l l_root) ∙ w1.slots j b d);
      frames = rw (sym is) (λ g x y. w2.frames g x ∙ w1.frames g y);
      owners = os;
      reserved = w2.reserved ∙ w1.reserved;
      capacities = w2.capacities ∙ w1.capacities;
      still = odd-valid _ (less_odd re (valid-odd re there) some);
      same_leaf = rw (sym is) (less_leaf re (valid-odd re there) some);
      count = rw (sym is) (less_count re (walk_at p root q) (valid-odd re there) some one);
      root_use = still root 0 h.own_root;
      leaf_use = λ s b t. still _ (1 + s) (h.leaves s b t);
      page_use = λ r b t. still _ 513 (h.pages r b t);
      mine = λ t. absurd (omega (arith, valid-odd 0 t));
      clean = λ t. refl;
    }
  where
    less_odd : (r : ℕ) → r % 2 ≡ 1 → r / 2 % 1024 ≢ 0 → (r - 2) % 2 ≡ 1
    less_odd r a b = omega arith

    less_leaf : (r : ℕ) → r % 2 ≡ 1 → r / 2 % 1024 ≢ 0 → (r - 2) / 2048 ≡ r / 2048
    less_leaf r a b = omega arith

    less_count : (r w : ℕ) → r % 2 ≡ 1 → r / 2 % 1024 ≢ 0 → w % 2 ≡ 1 → (r - 2) / 2 % 1024 + w % 2 ≡ r / 2 % 1024 + 0 % 2
    less_count r w a b c = omega arith

-- ---- a leaf is hung in
pub leaf-hung : (p n m : Pool) (k root s l re : ℕ) (use_of : ℕ → ℕ) → IsTree p k root use_of → s < 512 → is_valid (entry_at p root s) ≡ false
    → Took p n k l → Wrote n m root s re → re ≡ 2048 * l + 1 → Hang p m k root s l re use_of (use_with use_of l (1 + s))
leaf-hung p n m k root s l re use_of h low gone tk w ee =
    let root_l : root ≢ l = tk.vacant root h.own_root.out in
    let is : leaf_in re ≡ l = omega arith in
    let odd : is_valid re ≡ true = odd-valid _ (let y : re % 2 ≡ 1 = omega arith in y) in
    let out : (g : ℕ) → IsHeldBy n g k → IsHeldBy m g k = λ g x. ap (λ os. get_or os g None) w.owners ∙ x in
    let blank : (j : ℕ) → j < 512 → entry_at m l j ≡ 0 = λ j b. entry-kept m n l j (w.frames l (λ x. root_l (sym x))) ∙ entry-zero n l j b tk.fresh in
    record {
      tree = h;
      low = low;
      here = w.here;
      slots = λ j b d. w.slots j b d ∙ entry-kept n p root j (tk.frames root root_l);
      frames = λ g a b. w.frames g a ∙ tk.frames g b;
      capacities = w.capacities ∙ tk.capacities;
      reserved = w.reserved ∙ tk.reserved;
      apart = λ g u d x. tk.vacant g x.out;
      moved = λ g u d x. record { out = out g (tk.out g x.out); use_is = with-other use_of l (1 + s) g (tk.vacant g x.out) ∙ x.use_is };
      others = λ f o a. tk.vacant f o;
      out = λ f d o. out f (tk.out f o);
      none = λ q e. walk-none p root q (ap (λ j. is_valid (entry_at p root j)) e ∙ gone);
      still = λ q e.
          let now : entry_at m root (q / 512) ≡ re = ap (entry_at m root) e ∙ w.here in
          walk-leaf m root q (ap is_valid now ∙ odd) ∙ ap (λ x. entry_at m (leaf_in x) (q % 512)) now ∙ ap (λ x. entry_at m x (q % 512)) is ∙ blank (q % 512) (omega arith);
      mine = λ t. rw is (record { out = out l tk.mine; use_is = with-same use_of l (1 + s) });
      leaf_is = λ t. is;
      count = λ t. (let z : count_in re ≡ 0 = omega arith in z) ∙ sym (ap (λ x. valid_in m x 512) is ∙ count-zero m l 512 blank);
    }

-- ---- a leaf is taken out
pub leaf-dropped : (p n m : Pool) (k root s l re : ℕ) (use_of : ℕ → ℕ) → IsTree p k root use_of → s < 512 → re ≡ entry_at p root s → is_valid (entry_at p root s) ≡ true → count_in (entry_at p root s) ≡ 0 → l ≡ leaf_in re
    → Wrote p n root s 0 → Gave n m k l → Hang p m k root s l 0 use_of use_of
leaf-dropped p n m k root s l re use_of h low is there zero_count ls w gv =
    let los : IsUsed p k use_of l (1 + s) = rw (ls ∙ ap leaf_in is) (h.leaves s low there) in
    let apart : (g u : ℕ) → u ≢ 1 + s → IsUsed p k use_of g u → g ≢ l = λ g u d x. other-use p k use_of _ _ _ _ x los d in
    let at : (g : ℕ) → get_or m.frames g None ≡ get_or n.frames g None = λ g. ap (λ fs. get_or fs g None) gv.frames in
    let empty : valid_in p (leaf_in re) 512 ≡ 0 = rw is (sym (h.counted s low there) ∙ zero_count) in
    let here : entry_at m root s ≡ 0 = entry-kept m n root s (at root) ∙ w.here in
    let out : (g : ℕ) → g ≢ l → IsHeldBy p g k → IsHeldBy m g k = λ g d x. gv.out g d (ap (λ os. get_or os g None) w.owners ∙ x) in
    record {
      tree = h;
      low = low;
      here = here;
      slots = λ j b d. entry-kept m n root j (at root) ∙ w.slots j b d;
      frames = λ g a b. at g ∙ w.frames g a;
      capacities = gv.capacities ∙ w.capacities;
      reserved = gv.reserved ∙ w.reserved;
      apart = apart;
      moved = λ g u d x. record { out = out g (apart g u d x) x.out; use_is = x.use_is };
      others = λ f o a x. a.no_leaf s low there (x ∙ ls ∙ ap leaf_in is);
      out = out;
      none = λ q e.
          let was : entry_at p root (q / 512) ≡ re = ap (entry_at p root) e ∙ sym is in
          let walk : walk_at p root q ≡ entry_at p (leaf_in re) (q % 512) = walk-leaf p root q (ap (λ j. is_valid (entry_at p root j)) e ∙ there) ∙ ap (λ x. entry_at p (leaf_in x) (q % 512)) was in
          h.clean q (omega (arith, e, low)) (even-invalid _ (ap (λ x. x % 2) walk ∙ count-none p (leaf_in re) 512 (q % 512) (omega arith) empty));
      still = λ q e. walk-none m root q (ap is_valid (ap (entry_at m root) e ∙ here));
      mine = λ t. absurd (omega (arith, valid-odd 0 t));
      leaf_is = λ t. absurd (omega (arith, valid-odd 0 t));
      count = λ t. absurd (omega (arith, valid-odd 0 t));
    }

pub root-out : (p n : Pool) (k root f i e : ℕ) (use_of : ℕ → ℕ) → IsTree p k root use_of → Wrote p n f i e → IsHeldBy n root k
root-out p n k root f i e use_of h w = ap (λ os. get_or os root None) w.owners ∙ h.own_root.out

-- ---- numbers that fit
pub leaf-room : (p : Pool) (k root q re : ℕ) (use_of : ℕ → ℕ) → IsSound p → IsTree p k root use_of → q < 262144 → re ≡ entry_at p root (q / 512) → has_leaf p root q ≡ true → re < 134217728
leaf-room p k root q re use_of sound h low is leaf =
    let o : IsUsed p k use_of (leaf_in re) (1 + q / 512) = rw is (h.leaves (q / 512) (omega arith) leaf) in
    omega (arith, out-few p (leaf_in re) k sound o.out)

-- the root entry of a page that is mapped counts it
pub leaf-counts : (p : Pool) (k root q : ℕ) (use_of : ℕ → ℕ) → IsTree p k root use_of → q < 262144 → is_valid (walk_at p root q) ≡ true → count_in (entry_at p root (q / 512)) ≢ 0
leaf-counts p k root q use_of h low odd z =
    let leaf = mapped-leaf p root q odd in
    let counted = h.counted (q / 512) (omega arith) leaf in
    absurd (omega (arith, valid-odd _ odd, count-none p _ 512 (q % 512) (omega arith) (sym counted ∙ z), ap (λ x. x % 2) (walk-leaf p root q leaf)))

pub count-much : (r : ℕ) → r / 2 % 1024 ≢ 0 → 2 ≤ r
count-much r d = omega arith
