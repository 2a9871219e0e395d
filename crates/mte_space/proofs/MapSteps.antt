-- A page is mapped to a frame that was taken for it, or unmapped and its frame given back.
use Rattle.std.proofs.Common.{◌≡◌, ◌≢◌, ℕ, ◌+◌, ◌-◌, ◌/◌, ◌<◌, ◌≤◌, true, false, List, length, Option, Some, None, is_some, get_or, slice_set, refl, sym, ap, subst, ◌∙◌, inl, inr, arith, get_or-set_same, get_or-set_other}
use Rattle.std.proofs.lemmas.Bool.{cases_eq, cond-false}
use Rattle.std.specs.FinMap as finite
use Rattle.std.specs.FinMap.{get-insert, get-remove}
use Rattle.std.specs.Cmp.{nat_cmp_total}
use Rattle.mte_tags.specs.Memory.{with_page, without_page, new_page}
use Rattle.mte_tags.specs.declared.attrs.Attrs.{Attrs}
use Rattle.mte_tags.specs.declared.state.TagState.{TagState}
use Rattle.mte_tags.proofs.Pages.{tied_other}
use Rattle.mte_arena.specs.Frames.{frame_at, frame_or, zero_frame}
use Rattle.mte_frames.specs.Pool.{Pool, make_pool, IsHeldBy, IsSound, KeepsOthers, taken_by, reserved_by}
use Rattle.mte_frames.proofs.Counts.{within_of}
use Rattle.mte_frames.proofs.Keeps.{keeps_on}
use Rattle.mte_translate.specs.Tables.{Root, valid_in, pages_of, missing_leaf, IsApart, IsTable, MapsOnce, MapsNever, KeepsData, Stays, IsCached}
use Rattle.mte_translate.specs.Translations.{without, is_for}
use Rattle.mte_translate.proofs.StandingLaws.{forget-page}
use Rattle.std.specs.Prelude.{Contains}
use Rattle.std.proofs.lemmas.List.Elements.{All-weaker}
use Rattle.mte_translate.specs.declared.translation.Translation.{Translation}
use Rattle.mte_translate.proofs.EntryLemmas.{count-none, valid-odd}
use Rattle.mte_translate.proofs.TreeLemmas.{mapped-leaf}
use Rattle.mte_translate.proofs.KeptTables.{kept-taken, kept-given, page-frame, cached-mapped, cached-unmapped}
use Rattle.mte_translate.proofs.TableLemmas.{leaves-len, len-some, missing-one, page-mapped}
use Rattle.mte_translate.proofs.PageLemmas.{page-low}
use Rattle.mte_translate.proofs.StepLemmas.{taken-gave}
use Rattle.mte_space.specs.Spaces.{space_memory, IsSpace, KeepsRest, NoneEnters}
use Rattle.mte_space.specs.KeptSpaces.{rest_same}
use Rattle.mte_space.proofs.Memories.{space_mapped, space_removed}

pub room_for_two : (p : Pool) (k : ℕ) (t : Root) (l : ℕ) → IsSpace p k t l → t.len < l → taken_by p k + 2 ≤ reserved_by p k
room_for_two p k t l h left = omega (arith, h.frames, left, leaves-len p k t h.table)

-- from p to m a page was mapped
pub record Mapped (p m : Pool) (k q l : ℕ) (a : Attrs) (t u : Root) : Type 0 where
  pub space : IsSpace m k u l
  pub memory : (s : TagState) → space_memory m u l s ≡ with_page (space_memory p t l s) q (new_page a.0)
  pub others : (r : ℕ) → r ≢ q → finite.get (pages_of m u.frame) r ≡ finite.get (pages_of p t.frame) r
  pub cached : (asid : ℕ) (ts : List Translation) → IsCached (pages_of p t.frame) asid ts → IsCached (pages_of m u.frame) asid ts
  pub rest : KeepsRest k p m t u

-- or unmapped
pub record Unmapped (p n : Pool) (k q l : ℕ) (t u : Root) : Type 0 where
  pub space : IsSpace n k u l
  pub memory : (s : TagState) → space_memory n u l s ≡ without_page (space_memory p t l s) q
  pub others : (r : ℕ) → r ≢ q → finite.get (pages_of n u.frame) r ≡ finite.get (pages_of p t.frame) r
  pub cached : (asid : ℕ) (ts : List Translation) → IsCached (pages_of p t.frame) asid ts → IsCached (pages_of n u.frame) asid (without asid q ts)
  pub rest : KeepsRest k p n t u

-- n is p with the frame f taken under k
module _ (p n : Pool) (k f q l : ℕ) (t : Root) (h : IsSpace p k t l) (sound : IsSound p) (left : t.len < l)
    (vacant : get_or p.owners f (Some 0) ≡ None) (within : f < length p.frames)
    (took : n ≡ make_pool p.capacities (slice_set p.frames f (Some zero_frame)) (slice_set p.owners f (Some k)) p.reserved (slice_set p.taken k (taken_by p k + 1))) where
  facts : Stays k t p n × IsApart p t.frame f × MapsNever (pages_of p t.frame) f
  facts = rw took (kept-taken p k f (Some zero_frame) (slice_set p.taken k (taken_by p k + 1)) t vacant h.table)

  pub taken_table : IsTable n k t
  taken_table = facts.0.table

  pub taken_apart : IsApart n t.frame f
  taken_apart = facts.0.apart f facts.1

  pub taken_unmapped : finite.get (pages_of p t.frame) q ≡ None → finite.get (pages_of n t.frame) q ≡ None
  taken_unmapped e = ap (λ m. finite.get m q) facts.0.pages ∙ e

  taken_one : taken_by n k ≡ taken_by p k + 1
  taken_one =
      let some : 0 < reserved_by p k = omega (arith, room_for_two p k t l h left) in
      let inside : k < length p.taken = omega (arith, within_of p.reserved k some, sound.reserved_len, sound.taken_len) in
      ap (λ (x : Pool). taken_by x k) took ∙ get_or-set_same p.taken k (taken_by p k + 1) 0 inside

  reserved_same : reserved_by n k ≡ reserved_by p k
  reserved_same = ap (λ (x : Pool). reserved_by x k) took

  pub taken_room : taken_by n k + missing_leaf n t.frame q ≤ reserved_by n k
  taken_room = omega (arith, taken_one, reserved_same, room_for_two p k t l h left, missing-one n t.frame q)

  -- and m is n with the page q mapped to it
  module _ (m : Pool) (a : Attrs) (u : Root) (unmapped : finite.get (pages_of p t.frame) q ≡ None)
      (out : IsHeldBy n f k) (still : (g j : ℕ) → IsHeldBy p g j → IsHeldBy n g j)
      (table : IsTable m k u) (pages : pages_of m u.frame ≡ finite.insert (pages_of n t.frame) q (f, a))
      (counts : u ≡ record { frame = t.frame; len = t.len + 1; leaves = t.leaves + missing_leaf n t.frame q })
      (once : MapsNever (pages_of n t.frame) f → MapsOnce (pages_of n t.frame) → MapsOnce (pages_of m u.frame))
      (taken : taken_by m k ≡ taken_by n k + missing_leaf n t.frame q) (reserved : reserved_by m k ≡ reserved_by n k)
      (kept : KeepsData k t.frame n m) where
    mapped_pages : pages_of m u.frame ≡ finite.insert (pages_of p t.frame) q (f, a)
    mapped_pages = pages ∙ ap (λ x. finite.insert x q (f, a)) facts.0.pages

    never : MapsNever (pages_of n t.frame) f
    never r b e = facts.2 r b (ap (λ x. finite.get x r) (sym facts.0.pages) ∙ e)

    once_taken : MapsOnce (pages_of n t.frame)
    once_taken r s g b c d e = h.once r s g b c (ap (λ x. finite.get x r) (sym facts.0.pages) ∙ d) (ap (λ x. finite.get x s) (sym facts.0.pages) ∙ e)

    mapped_space : IsSpace m k u l
    mapped_space = record {
      table = table;
      once = once never once_taken;
      below = omega (arith, ap (λ (x : Root). x.len) counts, left);
      frames = omega (arith, h.frames, left, leaves-len p k t h.table, taken, taken_one, reserved, reserved_same, missing-one n t.frame q, ap (λ (x : Root). x.len) counts, ap (λ (x : Root). x.leaves) counts);
    }

    zero_here : frame_at m.frames f ≡ zero_frame
    zero_here = ap frame_or (kept.same f out taken_apart ∙ ap (λ (x : Pool). get_or x.frames f None) took ∙ get_or-set_same p.frames f (Some zero_frame) None within)

    same_there : (r g : ℕ) (b : Attrs) → finite.get (pages_of p t.frame) r ≡ Some (g, b) → frame_at m.frames g ≡ frame_at p.frames g
    same_there r g b e =
        let was = page-frame p k r g b t h.table e in
        let other : g ≢ f = λ s. facts.2 r b (e ∙ ap (λ j. Some (j, b)) s) in
        ap frame_or (kept.same g (still g k was.1) (facts.0.apart g was.2) ∙ ap (λ (x : Pool). get_or x.frames g None) took ∙ get_or-set_other p.frames f g (Some zero_frame) None other)

    mapped_memory : (s : TagState) → space_memory m u l s ≡ with_page (space_memory p t l s) q (new_page a.0)
    mapped_memory s = space_mapped p m t u l s q f a mapped_pages zero_here (λ r g b d e. same_there r g b e)

    mapped_others : (r : ℕ) → r ≢ q → finite.get (pages_of m u.frame) r ≡ finite.get (pages_of p t.frame) r
    mapped_others r d = ap (λ x. finite.get x r) mapped_pages ∙ get-insert nat_cmp_total (pages_of p t.frame) q (f, a) r ∙ cond-false _ _ _ (tied_other r q d)

    mapped_cached : (asid : ℕ) (ts : List Translation) → IsCached (pages_of p t.frame) asid ts → IsCached (pages_of m u.frame) asid ts
    mapped_cached asid ts c = subst (λ x. IsCached x asid ts) (sym mapped_pages) (cached-mapped (pages_of p t.frame) asid q f a ts unmapped c)

    mapped_rest : KeepsOthers k p n → KeepsOthers k n m → m.capacities ≡ n.capacities → KeepsRest k p m t u
    mapped_rest first then same = record {
      others = keeps_on k p n m first then;
      reserved = reserved ∙ reserved_same;
      capacities = same ∙ ap (λ (x : Pool). x.capacities) took;
      root = ap (λ (x : Root). x.frame) counts;
      taken = λ x e. omega (arith, e, taken, taken_one, ap (λ (x : Root). x.len) counts, ap (λ (x : Root). x.leaves) counts);
    }

    pub mapped : KeepsOthers k p n → KeepsOthers k n m → m.capacities ≡ n.capacities → Mapped p m k q l a t u
    mapped first then same = record { space = mapped_space; memory = mapped_memory; others = mapped_others; cached = mapped_cached; rest = mapped_rest first then same }

some_leaf : (p : Pool) (k q f : ℕ) (a : Attrs) (t : Root) → IsTable p k t → finite.get (pages_of p t.frame) q ≡ Some (f, a) → 1 ≤ t.leaves
some_leaf p k q f a t h e =
    let low = page-low p t.frame q (f, a) e in
    let odd = valid-odd _ (mapped-leaf p t.frame q (page-mapped p t.frame q (f, a) e)) in
    elim (cases_eq (valid_in p t.frame 512) 0) [
      | inl z ↦ absurd (omega (arith, odd, count-none p t.frame 512 (q / 512) (omega (arith, low)) z))
      | inr d ↦ omega (arith, d, h.leaves_are)
    ]

-- m is p with the page q unmapped, and n is m with its frame f given back
module _ (p m n : Pool) (k f q l : ℕ) (a : Attrs) (t u : Root) (h : IsSpace p k t l) (sound : IsSound m) (found : finite.get (pages_of p t.frame) q ≡ Some (f, a))
    (table : IsTable m k u) (pages : pages_of m u.frame ≡ finite.remove (pages_of p t.frame) q) (out : IsHeldBy m f k) (apart : IsApart m u.frame f) (never : MapsNever (pages_of m u.frame) f)
    (counts : u ≡ record { frame = t.frame; len = t.len - 1; leaves = t.leaves - missing_leaf m t.frame q })
    (once : MapsOnce (pages_of m u.frame)) (taken : taken_by m k + missing_leaf m t.frame q ≡ taken_by p k) (reserved : reserved_by m k ≡ reserved_by p k)
    (kept : KeepsData k t.frame p m)
    (gave : n ≡ make_pool m.capacities m.frames (slice_set m.owners f None) m.reserved (slice_set m.taken k (taken_by m k - 1))) where
  given : Stays k u m n
  given = rw gave (kept-given m k f (slice_set m.taken k (taken_by m k - 1)) u apart never table)

  given_pages : pages_of n u.frame ≡ finite.remove (pages_of p t.frame) q
  given_pages = given.pages ∙ pages

  given_one : taken_by n k + 1 ≡ taken_by m k
  given_one = taken-gave m n k f (slice_set m.owners f None) sound out gave

  given_reserved : reserved_by n k ≡ reserved_by p k
  given_reserved = ap (λ (x : Pool). reserved_by x k) gave ∙ reserved

  balance : taken_by n k + t.len + t.leaves ≡ taken_by p k + u.len + u.leaves
  balance = omega (arith, taken, given_one, ap (λ (x : Root). x.len) counts, ap (λ (x : Root). x.leaves) counts, len-some p k t q (f, a) h.table found, some_leaf p k q f a t h.table found, missing-one m t.frame q)

  unmapped_space : IsSpace n k u l
  unmapped_space = record {
    table = given.table;
    once = λ r s g b c d e. once r s g b c (ap (λ x. finite.get x r) (sym given.pages) ∙ d) (ap (λ x. finite.get x s) (sym given.pages) ∙ e);
    below = omega (arith, h.below, ap (λ (x : Root). x.len) counts);
    frames = omega (arith, h.frames, h.below, leaves-len p k t h.table, balance, given_reserved, ap (λ (x : Root). x.len) counts, ap (λ (x : Root). x.leaves) counts);
  }

  data_there : (r g : ℕ) (b : Attrs) → finite.get (pages_of p t.frame) r ≡ Some (g, b) → frame_at n.frames g ≡ frame_at p.frames g
  data_there r g b e =
      let was = page-frame p k r g b t h.table e in
      ap frame_or (ap (λ (x : Pool). get_or x.frames g None) gave ∙ kept.same g was.1 was.2)

  unmapped_memory : (s : TagState) → space_memory n u l s ≡ without_page (space_memory p t l s) q
  unmapped_memory s = space_removed p n t u l s q given_pages (λ r g b d e. data_there r g b e)

  unmapped_others : (r : ℕ) → r ≢ q → finite.get (pages_of n u.frame) r ≡ finite.get (pages_of p t.frame) r
  unmapped_others r d = ap (λ x. finite.get x r) given_pages ∙ get-remove nat_cmp_total (pages_of p t.frame) q r ∙ cond-false _ _ _ (tied_other r q d)

  unmapped_cached : (asid : ℕ) (ts : List Translation) → IsCached (pages_of p t.frame) asid ts → IsCached (pages_of n u.frame) asid (without asid q ts)
  unmapped_cached asid ts c = subst (λ x. IsCached x asid (without asid q ts)) (sym given_pages) (cached-unmapped (pages_of p t.frame) asid q ts c)

  unmapped_rest : KeepsOthers k p m → KeepsOthers k m n → m.capacities ≡ p.capacities → KeepsRest k p n t u
  unmapped_rest first then same = record {
    others = keeps_on k p m n first then;
    reserved = given_reserved;
    capacities = ap (λ (x : Pool). x.capacities) gave ∙ same;
    root = ap (λ (x : Root). x.frame) counts;
    taken = λ x e. omega (arith, e, balance);
  }

  pub unmapped : KeepsOthers k p m → KeepsOthers k m n → m.capacities ≡ p.capacities → Unmapped p n k q l t u
  unmapped first then same = record { space = unmapped_space; memory = unmapped_memory; others = unmapped_others; cached = unmapped_cached; rest = unmapped_rest first then same }

-- nothing was mapped there
pub never_mapped : (p n : Pool) (k q l : ℕ) (t u : Root) → IsSpace p k t l → finite.get (pages_of p t.frame) q ≡ None → n ≡ p → u ≡ t → pages_of n u.frame ≡ finite.remove (pages_of p t.frame) q → Unmapped p n k q l t u
never_mapped p n k q l t u h none same sameu pages =
    let old : pages_of n u.frame ≡ pages_of p t.frame = λ i. pages_of (same i) (sameu i).frame in
    record {
      space = subst (λ x. IsSpace x k u l) (sym same) (subst (λ x. IsSpace p k x l) (sym sameu) h);
      memory = λ s. space_removed p n t u l s q pages (λ r g b d e. ap (λ (x : Pool). frame_at x.frames g) same);
      others = λ r d. ap (λ x. finite.get x r) old;
      cached = λ asid ts c. subst (λ x. IsCached x asid (without asid q ts)) (sym pages) (cached-unmapped (pages_of p t.frame) asid q ts c);
      rest = subst (λ x. KeepsRest k p x t u) (sym same) (subst (λ x. KeepsRest k p p t x) (sym sameu) (rest_same k p t));
    }

pub mapped_low : (p : Pool) (root q : ℕ) → is_some (finite.get (pages_of p root) q) ≡ true → q < 262144
mapped_low p root q e = at (finite.get (pages_of p root) q) refl e
  where
    at : (o : Option (ℕ × Attrs)) → finite.get (pages_of p root) q ≡ o → is_some o ≡ true → q < 262144
    at None is h = absurd cc
    at (Some x) is h = page-low p root q x is

pub forgotten_enters : (asid q : ℕ) (ts : List Translation) → NoneEnters asid ts (without asid q ts)
forgotten_enters asid q ts = All-weaker (λ u. Contains ts u × (is_for asid q u ≡ false)) (λ u. u.asid ≢ asid → Contains ts u) (λ u h d. h.0) (without asid q ts) (forget-page asid q ts)
