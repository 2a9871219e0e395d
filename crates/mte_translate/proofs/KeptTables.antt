-- Tables and cached translations that stay as they are.
use Rattle.std.proofs.Common.{◌≡◌, ◌≢◌, ◌⊎◌, ℕ, ◌/◌, ◌%◌, ◌<◌, true, false, get_or, slice_set, Option, Some, None, List, refl, sym, ap, subst, ◌∙◌, inl, inr, arith, get_or-set_other}
use Rattle.std.specs.Prelude.{◌↔◌, Contains}
use Rattle.std.proofs.lemmas.Bool.{cond-false}
use Rattle.std.proofs.lemmas.Option.{none-some}
use Rattle.std.proofs.lemmas.List.Elements.{All-contains, All-weaker}
use Rattle.std.specs.Cmp.{nat_cmp_total}
use Rattle.std.specs.FinMap as finite
use Rattle.std.specs.FinMap.{get-insert, get-remove}
use Rattle.mte_arena.specs.Frames.{Frame}
use Rattle.mte_tags.specs.declared.attrs.Attrs.{Attrs}
use Rattle.mte_tags.proofs.Pages.{tied_other}
use Rattle.mte_frames.specs.Pool.{Pool, make_pool, IsHeldBy, KeepsOthers}
use Rattle.mte_frames.proofs.Counts.{any_default, vacant_within}
use Rattle.mte_translate.specs.declared.translation.Translation.{Translation}
use Rattle.mte_translate.specs.Translations.{is_for, lookup, with_translation, without, without_asid}
use Rattle.mte_translate.specs.Tables.{entry_at, walk_at, is_valid, leaf_in, count_in, attrs_in, frame_in, valid_in, has_leaf, pages_of, IsApart, Root, IsTable, Pages, MapsNever, Agrees, IsCached, Stays}
use Rattle.mte_translate.proofs.EntryLemmas.{entry-kept, count-same}
use Rattle.mte_translate.proofs.TreeLemmas.{walk-same, mapped-leaf, page-apart}
use Rattle.mte_translate.proofs.TreeUses.{tree-of, sound-tree}
use Rattle.mte_translate.proofs.PageLemmas.{same-frame, page-low, page-there, page-valid, pages-same}
use Rattle.mte_translate.proofs.TableLemmas.{page-mapped, leaf-page}
use Rattle.mte_translate.proofs.StandingLaws.{fill-stands, forget-page, forget-asid, lookup-stands}

-- ---- a table stands on its own frames, and on that they and those of its pages are out
module _ (p n : Pool) (k : ℕ) (t : Root) (h : IsTable p k t)
    (root_same : get_or n.frames t.frame None ≡ get_or p.frames t.frame None)
    (leaf_same : (s : ℕ) → s < 512 → is_valid (entry_at p t.frame s) ≡ true → get_or n.frames (leaf_in (entry_at p t.frame s)) None ≡ get_or p.frames (leaf_in (entry_at p t.frame s)) None)
    (root_out : IsHeldBy n t.frame k)
    (leaf_out : (s : ℕ) → s < 512 → is_valid (entry_at p t.frame s) ≡ true → IsHeldBy n (leaf_in (entry_at p t.frame s)) k)
    (page_out : (q : ℕ) → q < 262144 → is_valid (walk_at p t.frame q) ≡ true → IsHeldBy n (frame_in (walk_at p t.frame q)) k) where
  kept-entry : (s : ℕ) → entry_at n t.frame s ≡ entry_at p t.frame s
  kept-entry s = entry-kept n p t.frame s root_same

  kept-walk : (q : ℕ) → q < 262144 → walk_at n t.frame q ≡ walk_at p t.frame q
  kept-walk q b = walk-same p n t.frame q (kept-entry (q / 512)) (λ v. entry-kept n p _ (q % 512) (leaf_same (q / 512) (omega (arith, b)) v))

  kept-pages : pages_of n t.frame ≡ pages_of p t.frame
  kept-pages = pages-same p n t.frame kept-walk

  pub kept-table : Stays k t p n
  kept-table =
      let uses = tree-of p k t.frame h.tree in
      let use_of = uses.use_of in
      let tree = uses.tree in
      record {
        table = record {
          tree = sound-tree n k t.frame (record {
            use_of = use_of;
            tree = record {
              own_root = record { out = root_out; use_is = tree.own_root.use_is };
              leaves = λ s b v. let was = ap is_valid (sym (kept-entry s)) ∙ v in let o = tree.leaves s b was in
                  record { out = rw (kept-entry s) (leaf_out s b was); use_is = rw (kept-entry s) o.use_is };
              pages = λ q b v. let was = ap is_valid (sym (kept-walk q b)) ∙ v in let o = tree.pages q b was in
                  record { out = rw (kept-walk q b) (page_out q b was); use_is = rw (kept-walk q b) o.use_is };
              clean = λ q b v. kept-walk q b ∙ tree.clean q b (ap is_valid (sym (kept-walk q b)) ∙ v);
              counted = λ s b v. let was = ap is_valid (sym (kept-entry s)) ∙ v in
                  ap count_in (kept-entry s) ∙ tree.counted s b was
                  ∙ sym (ap (λ y. valid_in n (leaf_in y) 512) (kept-entry s) ∙ count-same p n _ 512 (λ i c. entry-kept n p _ i (leaf_same s b was)));
            };
          });
          tight = λ s b v. rw (kept-entry s) (h.tight s b (ap is_valid (sym (kept-entry s)) ∙ v));
          len_is = h.len_is ∙ sym (ap finite.len kept-pages);
          leaves_are = h.leaves_are ∙ sym (count-same p n t.frame 512 (λ i c. kept-entry i));
        };
        pages = kept-pages;
        apart = λ f a. record {
          no_root = a.no_root;
          no_leaf = λ s b v. rw (kept-entry s) (a.no_leaf s b (ap is_valid (sym (kept-entry s)) ∙ v));
        };
      }

pub kept-others : (p n : Pool) (j k : ℕ) (t : Root) → k ≢ j → KeepsOthers j p n → IsTable p k t → Stays k t p n
kept-others p n j k t d kept h =
    let tree = (tree-of p k t.frame h.tree).tree in
    let out : (f : ℕ) → IsHeldBy p f k → IsHeldBy n f k = λ f. (kept.out f k d).0 in
    let same : (f : ℕ) → IsHeldBy p f k → get_or n.frames f None ≡ get_or p.frames f None = λ f. kept.frames f k d in
    kept-table p n k t h (same _ tree.own_root.out) (λ s b v. let o = tree.leaves s b v in same _ o.out)
    (out _ tree.own_root.out) (λ s b v. let o = tree.leaves s b v in out _ o.out) (λ q b v. let o = tree.pages q b v in out _ o.out)

pub kept-after-write-of : (p : Pool) (k f : ℕ) (c : Option Frame) (t : Root) → IsApart p t.frame f → IsTable p k t → Stays k t p (make_pool p.capacities (slice_set p.frames f c) p.owners p.reserved p.taken)
kept-after-write-of p k f c t a h =
    let tree = (tree-of p k t.frame h.tree).tree in
    kept-table p _ k t h (get_or-set_other p.frames f t.frame c None (λ e. a.no_root (sym e))) (λ s b v. get_or-set_other p.frames f _ c None (λ e. a.no_leaf s b v (sym e)))
    tree.own_root.out (λ s b v. let o = tree.leaves s b v in o.out) (λ q b v. let o = tree.pages q b v in o.out)

vacant-other : (p : Pool) (k f g : ℕ) → get_or p.owners f (Some 0) ≡ None → IsHeldBy p g k → g ≢ f
vacant-other p k f g free o s =
    let none : get_or p.owners f None ≡ None = any_default p.owners f None (Some 0) (vacant_within p.owners f free) ∙ free in
    none-some k (sym none ∙ ap (λ j. get_or p.owners j None) (sym s) ∙ o)

pub kept-taken : (p : Pool) (k f : ℕ) (c : Option Frame) (ts : List ℕ) (t : Root) → get_or p.owners f (Some 0) ≡ None → IsTable p k t
    → Stays k t p (make_pool p.capacities (slice_set p.frames f c) (slice_set p.owners f (Some k)) p.reserved ts) × IsApart p t.frame f × MapsNever (pages_of p t.frame) f
kept-taken p k f c ts t free h =
    let tree = (tree-of p k t.frame h.tree).tree in
    let other : (g : ℕ) → IsHeldBy p g k → g ≢ f = λ g o. vacant-other p k f g free o in
    let out : (g : ℕ) → IsHeldBy p g k → get_or (slice_set p.owners f (Some k)) g None ≡ Some k = λ g o. get_or-set_other p.owners f g (Some k) None (other g o) ∙ o in (
      kept-table p _ k t h (get_or-set_other p.frames f t.frame c None (other _ tree.own_root.out)) (λ s b v. let o = tree.leaves s b v in get_or-set_other p.frames f _ c None (other _ o.out))
          (out _ tree.own_root.out) (λ s b v. let o = tree.leaves s b v in out _ o.out) (λ q b v. let o = tree.pages q b v in out _ o.out),
      record { no_root = λ e. other _ tree.own_root.out (sym e); no_leaf = λ s b v e. let o = tree.leaves s b v in other _ o.out (sym e) },
      λ q a e. let low = page-low p t.frame q _ e in let v = page-mapped p t.frame q _ e in let o = tree.pages q low v in
          other _ o.out (same-frame _ _ (sym (page-there p t.frame q low v) ∙ e)),
    )

pub kept-given : (p : Pool) (k f : ℕ) (ts : List ℕ) (t : Root) → IsApart p t.frame f → MapsNever (pages_of p t.frame) f → IsTable p k t
    → Stays k t p (make_pool p.capacities p.frames (slice_set p.owners f None) p.reserved ts)
kept-given p k f ts t a never h =
    let tree = (tree-of p k t.frame h.tree).tree in
    let out : (g : ℕ) → g ≢ f → IsHeldBy p g k → get_or (slice_set p.owners f None) g None ≡ Some k = λ g d o. get_or-set_other p.owners f g None None d ∙ o in
    kept-table p _ k t h refl (λ s b v. refl)
    (out _ (λ e. a.no_root (sym e)) tree.own_root.out) (λ s b v. let o = tree.leaves s b v in out _ (λ e. a.no_leaf s b v (sym e)) o.out)
    (λ q b v. let o = tree.pages q b v in out _ (λ e. never q _ (page-there p t.frame q b v ∙ ap (λ g. Some (g, attrs_in (walk_at p t.frame q))) e)) o.out)

-- ---- frames of tables
pub page-frame : (p : Pool) (k q f : ℕ) (a : Attrs) (t : Root) → IsTable p k t → finite.get (pages_of p t.frame) q ≡ Some (f, a) → (q < 262144) × IsHeldBy p f k × IsApart p t.frame f
page-frame p k q f a t h e =
    let tree = (tree-of p k t.frame h.tree).tree in
    let low = page-low p t.frame q _ e in
    let v = page-mapped p t.frame q _ e in
    let o = tree.pages q low v in
    let is : frame_in (walk_at p t.frame q) ≡ f = same-frame _ _ (sym (page-there p t.frame q low v) ∙ e) in
    (low, subst (λ g. IsHeldBy p g k) is o.out, subst (IsApart p t.frame) is (page-apart p k t.frame q (tree-of p k t.frame h.tree).use_of tree low v))

pub leaf-where : (p : Pool) (k q : ℕ) (t : Root) → IsTable p k t → q < 262144 → (has_leaf p t.frame q ≡ true) ↔ ((r : ℕ) × (r / 512 ≡ q / 512) × (finite.get (pages_of p t.frame) r ≢ None))
leaf-where p k q t h low = (
  λ v.
      let slot : q / 512 < 512 = omega arith in
      let found = leaf-page p k t.frame (q / 512) (tree-of p k t.frame h.tree).use_of (tree-of p k t.frame h.tree).tree slot v (h.tight (q / 512) slot v) in
      (found.0, found.1.1, λ none. none-some _ (sym none ∙ page-there p t.frame found.0 found.1.0 found.1.2)),
  λ s.
      let same : s.0 / 512 ≡ q / 512 = s.1 in
      let inside : s.0 < 262144 = omega (arith, same, low) in
      ap (λ j. is_valid (entry_at p t.frame j)) (sym same) ∙ mapped-leaf p t.frame s.0 (page-valid p t.frame s.0 inside s.2),
)

-- ---- cached translations
pub cached-mapped : (m : Pages) (asid q f : ℕ) (a : Attrs) (ts : List Translation) → finite.get m q ≡ None → IsCached m asid ts → IsCached (finite.insert m q (f, a)) asid ts
cached-mapped m asid q f a ts none h = All-weaker (Agrees m asid) (Agrees (finite.insert m q (f, a)) asid) (λ t ok own.
    let d : t.page ≢ q = λ e. none-some _ (sym none ∙ ap (finite.get m) (sym e) ∙ ok own) in
    get-insert nat_cmp_total m q (f, a) t.page ∙ cond-false _ _ _ (tied_other t.page q d) ∙ ok own) ts h

not-for : (asid q : ℕ) (t : Translation) → is_for asid q t ≡ false → t.asid ≡ asid → t.page ≢ q
not-for asid q t e own same = absurd (grind (arith, e, own, same))

pub cached-unmapped : (m : Pages) (asid q : ℕ) (ts : List Translation) → IsCached m asid ts → IsCached (finite.remove m q) asid (without asid q ts)
cached-unmapped m asid q ts h = All-weaker (λ u. Contains ts u × (is_for asid q u ≡ false)) (Agrees (finite.remove m q) asid) (λ t x own.
    get-remove nat_cmp_total m q t.page ∙ cond-false _ _ _ (tied_other t.page q (not-for asid q t x.1 own)) ∙ All-contains (Agrees m asid) ts t h x.0 own) (without asid q ts) (forget-page asid q ts)

pub cached-forgotten : (m : Pages) (asid other q : ℕ) (ts : List Translation) → IsCached m asid ts → IsCached m asid (without other q ts)
cached-forgotten m asid other q ts h = All-weaker (λ u. Contains ts u × (is_for other q u ≡ false)) (Agrees m asid) (λ t x. All-contains (Agrees m asid) ts t h x.0) (without other q ts) (forget-page other q ts)

pub cached-forgotten_all : (m : Pages) (asid other : ℕ) (ts : List Translation) → IsCached m asid ts → IsCached m asid (without_asid other ts)
cached-forgotten_all m asid other ts h = All-weaker (λ (u : Translation). Contains ts u × (u.asid ≢ other)) (Agrees m asid) (λ t x. All-contains (Agrees m asid) ts t h x.0) (without_asid other ts) (forget-asid other ts)

pub cached-none : (m : Pages) (asid : ℕ) (ts : List Translation) → IsCached m asid (without_asid asid ts)
cached-none m asid ts = All-weaker (λ (u : Translation). Contains ts u × (u.asid ≢ asid)) (Agrees m asid) (λ t x own. absurd (x.1 own)) (without_asid asid ts) (forget-asid asid ts)

cached-fill : (m : Pages) (asid : ℕ) (t : Translation) (ts : List Translation) → Agrees m asid t → IsCached m asid ts → IsCached m asid (with_translation t ts)
cached-fill m asid t ts new h = All-weaker (λ u. Contains ts u ⊎ (t ≡ u)) (Agrees m asid) (λ u x. elim x [
  | inl old ↦ All-contains (Agrees m asid) ts u h old
  | inr e ↦ subst (Agrees m asid) e new
]) (with_translation t ts) (fill-stands t ts)

pub cached-with-translation : (m : Pages) (asid : ℕ) (t : Translation) (ts : List Translation) → finite.get m t.page ≡ Some (t.frame, t.attrs) → IsCached m asid ts → IsCached m asid (with_translation t ts)
cached-with-translation m asid t ts ok h = cached-fill m asid t ts (λ own. ok) h

pub cached-beside : (m : Pages) (asid : ℕ) (t : Translation) (ts : List Translation) → t.asid ≢ asid → IsCached m asid ts → IsCached m asid (with_translation t ts)
cached-beside m asid t ts d h = cached-fill m asid t ts (λ own. absurd (d own)) h

pub cached-found : (m : Pages) (asid q f : ℕ) (a : Attrs) (ts : List Translation) → IsCached m asid ts → lookup asid q ts ≡ Some (f, a) → finite.get m q ≡ Some (f, a)
cached-found m asid q f a ts h e = All-contains (Agrees m asid) ts (record { asid = asid; page = q; frame = f; attrs = a }) h (lookup-stands asid q f a ts e) refl
