-- A chunk that gets another size in its block.
use Rattle.std.proofs.Common.{◌≡◌, ℕ, ◌-◌, ◌<◌, ◌≤◌, true, false, nat_lt, sym, subst, ◌∙◌, inl, inr, arith}
use Rattle.std.proofs.lemmas.Bool.{cases_lt, cond-true, cond-false}
use Rattle.std.proofs.lemmas.Bool.Decides.{nat_tests}
use Rattle.mte_tags.specs.Memory.{Memory, tag_at, with_granules}
use Rattle.scudo_header.specs.Regions.{region_of}
use Rattle.common.specs.declared.ranges.TheConstants.{SECONDARY_END}
use Rattle.scudo_heap.specs.Stacks.{StackState}
use Rattle.scudo_heap.specs.declared.chunk.Place.{Place}
use Rattle.mte_laws.specs.LiveChunks.{IsPlace, IsTagged, IsOutside}
use Rattle.scudo_heap.specs.Chunks.{with_size, end_of, block_end, granules_of, with_end_tag_0, after_retag_tail}
use Rattle.mte_laws.proofs.Views.{IsStacked, IsView}
use Rattle.mte_laws.proofs.Retags.{IsRetag, retag, or_zero, cleared, open-part, open-after}
use Rattle.mte_laws.proofs.Keeps.{IsCallOn}
use Rattle.mte_laws.proofs.BlockCalls.{room, block-open, IsClosed, with-end-tag-0-is, block_end-outside}

-- what a call leaves where its place is tagged with t
pub record IsFitted (m m' : Memory) (p : Place) (t : ℕ) : Type 0 where
  pub call : IsCallOn m m' p t
  pub tags : IsTagged m' p t

module _ (m : Memory) (h : StackState) (p : Place) (size t : ℕ) (k : IsStacked h) (s : IsView m h) (i : IsPlace h p) (j : IsPlace h (with_size p size)) (old : IsTagged m p t)
    (outside : (a : ℕ) → region_of 1 ≤ a → a < SECONDARY_END → IsOutside h a → tag_at m a ≡ 0) where
  new : Place
  new = with_size p size

  -- with more granules
  longer : granules_of p.size < granules_of size → (m1 : Memory) → IsRetag m m1 (end_of p) (end_of new) t → IsClosed m1 (with_end_tag_0 m1 new) new → IsFitted m (with_end_tag_0 m1 new) new t
  unfolding new
  longer n m1 r c =
      let rp = room h p k i in
      let above = rp.above in
      let within = rp.within in
      let w2 = j.within in
      let inside : (a : ℕ) → p.user ≤ a → a < end_of new → tag_at (with_end_tag_0 m1 new) a ≡ t = λ a l u. c.out a (λ x y. omega arith) ∙ (elim (cases_lt a (end_of p)) [
        | inl x ↦ r.out a (λ y z. omega arith) ∙ old.inside a l x
        | inr x ↦ r.inside a x u
      ]) in
      let out : (a : ℕ) → (p.block ≤ a → a < block_end p → ⊥) → tag_at (with_end_tag_0 m1 new) a ≡ tag_at m a = λ a o. c.out a (λ x y. o (omega arith) y) ∙ r.out a (λ x y. o (omega arith) (omega arith)) in
      record {
        call = record {
          limit = c.limit ∙ r.limit;
          attrs = λ q. c.attrs q ∙ r.attrs q;
          whole = c.whole;
          inside = inside;
          rest = λ a o. or_zero m m1 (with_end_tag_0 m1 new) a (c.rest a) (inl (r.out a (λ x y. o (omega arith) y)));
          out = out;
        };
        tags = record {
          some = old.some;
          inside = inside;
          before = λ a l u. c.out a (λ x y. omega arith) ∙ r.out a (λ x y. omega arith) ∙ old.before a l u;
          after = λ a l u. elim (cases_lt a (block_end p)) [
            | inl x ↦ c.after a l u x
            | inr x ↦
                let e = rp.block in
                let ea = e.above in
                let ew = e.within in
                let ef = e.few in
                let eh = e.high in
                out a (λ y z. omega arith) ∙ outside a (omega arith) (omega arith) (block_end-outside h p.class p.block a k i.carved x (omega arith))
          ];
        };
      }

  -- with fewer, or as many
  shorter : granules_of size ≤ granules_of p.size → (m1 : Memory) → IsRetag m m1 (end_of new) (end_of p) 0 → IsFitted m m1 new t
  unfolding new
  shorter n m1 r =
      let rp = room h p k i in
      let above = rp.above in
      let within = rp.within in
      let inside : (a : ℕ) → p.user ≤ a → a < end_of new → tag_at m1 a ≡ t = λ a l u. r.out a (λ x y. omega arith) ∙ old.inside a l (omega arith) in
      record {
        call = record {
          limit = r.limit;
          attrs = r.attrs;
          whole = r.whole;
          inside = inside;
          rest = λ a o. cleared m m1 (end_of new) (end_of p) a r;
          out = λ a o. r.out a (λ x y. o (omega arith) (omega arith));
        };
        tags = record {
          some = old.some;
          inside = inside;
          before = λ a l u. r.out a (λ x y. omega arith) ∙ old.before a l u;
          after = λ a l u. elim (cases_lt a (end_of p)) [
            | inl x ↦ r.inside a l x
            | inr x ↦ r.out a (λ y z. omega arith) ∙ old.after a x (omega arith)
          ];
        };
      }

  pub after-retag-tail-fits : tag_at m p.user ≡ t → IsFitted m (after_retag_tail m p size) (with_size p size) t
  unfolding new after_retag_tail
  after-retag-tail-fits present =
      let rp = room h p k i in
      let above = rp.above in
      let al = rp.aligned in
      let units = rp.block.units in
      let w1 = rp.within in
      let w2 = j.within in
      let open0 = block-open m h p k s i in
      elim (cases_lt (granules_of p.size) (granules_of size)) [
        | inl n ↦
            let is : nat_lt (granules_of p.size) (granules_of size) ≡ true = grind (arith, nat_tests) in
            let m1 = with_granules m (end_of p) (granules_of size - granules_of p.size) (tag_at m p.user) true in
            let r : IsRetag m m1 (end_of p) (end_of new) (tag_at m p.user) = retag m (end_of p) (granules_of size - granules_of p.size) (tag_at m p.user) (end_of new) true s.whole (omega arith)
            (open-part m p.block (block_end p) (end_of p) (end_of new) open0 (omega arith) (omega arith) (omega arith)) in
            let c = with-end-tag-0-is m1 new r.whole (open-after m m1 p.block (block_end p) r.attrs open0) (omega arith) (omega arith) units in
            subst (λ x. IsFitted m x new t) (sym (cond-true _ _ _ is)) (longer n m1 (subst (IsRetag m m1 (end_of p) (end_of new)) present r) c)
        | inr n ↦
            let is : nat_lt (granules_of p.size) (granules_of size) ≡ false = grind (arith, nat_tests) in
            let m1 = with_granules m (end_of new) (granules_of p.size - granules_of size) 0 false in
            let r : IsRetag m m1 (end_of new) (end_of p) 0 = retag m (end_of new) (granules_of p.size - granules_of size) 0 (end_of p) false s.whole (omega arith)
            (open-part m p.block (block_end p) (end_of new) (end_of p) open0 (omega arith) (omega arith) (omega arith)) in
            subst (λ x. IsFitted m x new t) (sym (cond-false _ _ _ is)) (shorter n m1 r)
      ]
