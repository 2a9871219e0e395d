-- What each call leaves of the tags of its block.
use Rattle.std.proofs.Common.{◌≡◌, ◌≢◌, ℕ, ◌+◌, ◌-◌, ◌%◌, ◌<◌, ◌≤◌, ◌⊎◌, true, false, nat_lt, List, refl, sym, ap, subst, ◌∙◌, inl, inr, arith}
use Rattle.std.proofs.lemmas.Bool.{cases_eq, cases_lt, cond-true, cond-false}
use Rattle.std.proofs.lemmas.Bool.Decides.{nat_tests}
use Rattle.mte_tags.specs.Memory.{Memory, tag_at, attrs_at, with_granules}
use Rattle.mte_tags.specs.Accesses.{with_bytes_at}
use Rattle.mte_tags.specs.Whole.{IsWhole}
use Rattle.mte_tags.proofs.Whole.{whole-with-bytes-at}
use Rattle.mte_tags.proofs.PageLaws.{attrs_at-with-bytes-at}
use Rattle.mte_tags.proofs.ByteLaws.{tag_at-with-bytes-at}
use Rattle.scudo_header.specs.Classes.{size_of}
use Rattle.scudo_header.specs.Regions.{region_of}
use Rattle.common.specs.declared.ranges.TheConstants.{SECONDARY_END}
use Rattle.scudo_heap.specs.Stacks.{StackState}
use Rattle.mte_laws.specs.LiveChunks.{IsCarved, IsPlace, IsTagged, IsOutside}
use Rattle.scudo_heap.specs.declared.chunk.Place.{Place}
use Rattle.scudo_heap.specs.Chunks.{end_of, block_end, granules_of, with_chunk_tag, with_end_tag_0, with_header_tag_0}
use Rattle.mte_laws.proofs.Views.{IsStacked, IsView}
use Rattle.mte_laws.proofs.Blocks.{IsIn, block-in, same-class, apart}
use Rattle.mte_laws.proofs.Retags.{IsOpen, IsRetag, retag, or_zero, cleared, open-part, open-after}
use Rattle.mte_tags.proofs.StateLaws.{limit-with-bytes-at}
use Rattle.mte_laws.proofs.Keeps.{IsCallOn}

-- the tag on the granules of a place, and 0 on the granule before it and after it
abbrev pub fenced : Memory → Place → ℕ → Memory
fenced m p t = with_end_tag_0 (with_header_tag_0 (with_chunk_tag m p t) p) p

-- a place's block is in pages of the heap
pub block-open : (m : Memory) (h : StackState) (p : Place) → IsStacked h → IsView m h → IsPlace h p → IsOpen m p.block (block_end p)
block-open m h p k s i =
    let b = block-in h p.class p.block k i.carved in
    let above = b.above in
    let within = b.within in
    let few = b.few in
    let high = b.high in
    record { at = λ a l u. s.mapped p.class a i.carved.class (omega arith) (omega arith); aligned = b.aligned; below = omega arith }

-- where the block goes on, the granule after the place gets 0
closing : (m : Memory) (p : Place) → IsWhole m → IsOpen m p.block (block_end p) → p.block ≤ end_of p → end_of p % 16 ≡ 0 → size_of p.class % 16 ≡ 0
    → ((end_of p < block_end p) × IsRetag m (with_end_tag_0 m p) (end_of p) (end_of p + 16) 0) ⊎ ((block_end p ≤ end_of p) × (with_end_tag_0 m p ≡ m))
unfolding with_end_tag_0
closing m p w o l e f = elim (cases_lt (end_of p) (block_end p)) [
  | inl a ↦
      let al = o.aligned in
      let is : nat_lt (end_of p) (block_end p) ≡ true = grind (arith, nat_tests) in
      let r = retag m (end_of p) 1 0 (end_of p + 16) false w (omega arith) (open-part m p.block (block_end p) (end_of p) (end_of p + 16) o (omega arith) (omega arith) e) in
      inl (a, subst (λ x. IsRetag m x (end_of p) (end_of p + 16) 0) (sym (cond-true _ _ _ is)) r)
  | inr a ↦
      let is : nat_lt (end_of p) (block_end p) ≡ false = grind (arith, nat_tests) in
      inr (a, cond-false _ _ _ is)
]

-- the granule after a place has tag 0 where the block goes on, and nothing else changes
pub record IsClosed (m m' : Memory) (p : Place) : Type 0 where
  pub limit : m'.limit ≡ m.limit
  pub attrs : (q : ℕ) → attrs_at m' q ≡ attrs_at m q
  pub whole : IsWhole m'
  pub after : (a : ℕ) → end_of p ≤ a → a < end_of p + 16 → a < block_end p → tag_at m' a ≡ 0
  pub rest : (a : ℕ) → (tag_at m' a ≡ tag_at m a) ⊎ (tag_at m' a ≡ 0)
  pub out : (a : ℕ) → (end_of p ≤ a → a < block_end p → ⊥) → tag_at m' a ≡ tag_at m a

pub with-end-tag-0-is : (m : Memory) (p : Place) → IsWhole m → IsOpen m p.block (block_end p) → p.block ≤ end_of p → end_of p % 16 ≡ 0 → size_of p.class % 16 ≡ 0 → IsClosed m (with_end_tag_0 m p) p
with-end-tag-0-is m p w o l e f = elim (closing m p w o l e f) [
  | inl c ↦
      let al = o.aligned in
      let r = c.1 in
      let on = c.0 in
      record {
        limit = r.limit;
        attrs = r.attrs;
        whole = r.whole;
        after = λ a x y z. r.inside a x y;
        rest = λ a. cleared m (with_end_tag_0 m p) (end_of p) (end_of p + 16) a r;
        out = λ a z. r.out a (λ x y. z x (omega arith));
      }
  | inr c ↦
      let same = c.1 in
      record {
        limit = ap (λ (k : Memory). k.limit) same;
        attrs = λ q. ap (λ k. attrs_at k q) same;
        whole = subst IsWhole (sym same) w;
        after = λ a x y z. absurd (omega arith);
        rest = λ a. inl (ap (λ k. tag_at k a) same);
        out = λ a z. ap (λ k. tag_at k a) same;
      }
]

-- bytes that are written change no tag
pub with-bytes-at-call : (m m' : Memory) (p : Place) (t a : ℕ) (bs : List ℕ) → IsCallOn m m' p t → IsCallOn m (with_bytes_at m' a bs) p t
with-bytes-at-call m m' p t a bs c = record {
  limit = limit-with-bytes-at m' a bs ∙ c.limit;
  attrs = λ q. attrs_at-with-bytes-at m' a bs q ∙ c.attrs q;
  whole = whole-with-bytes-at m' a bs c.whole;
  inside = λ x l u. tag_at-with-bytes-at m' a bs x ∙ c.inside x l u;
  rest = λ x o. or_zero m m' (with_bytes_at m' a bs) x (inl (tag_at-with-bytes-at m' a bs x)) (c.rest x o);
  out = λ x o. tag_at-with-bytes-at m' a bs x ∙ c.out x o;
}

pub with-bytes-at-with-chunk-tag : (m : Memory) (p : Place) (t a : ℕ) (bs : List ℕ) → IsTagged m p t → IsTagged (with_bytes_at m a bs) p t
with-bytes-at-with-chunk-tag m p t a bs g = record {
  some = g.some;
  inside = λ x l u. tag_at-with-bytes-at m a bs x ∙ g.inside x l u;
  before = λ x l u. tag_at-with-bytes-at m a bs x ∙ g.before x l u;
  after = λ x l u. tag_at-with-bytes-at m a bs x ∙ g.after x l u;
}

-- the address after a block is strictly inside no block
pub block_end-outside : (h : StackState) (c b a : ℕ) → IsStacked h → IsCarved h c b → b + size_of c ≤ a → a < b + size_of c + 16 → IsOutside h a
block_end-outside h c b a k d l u = λ e f x v w. elim (cases_eq b f) [
  | inl q ↦ let n : size_of c ≡ size_of e = ap size_of (same-class h c e b k d (subst (IsCarved h e) (sym q) x)) in omega arith
  | inr q ↦ elim (apart h c e b f k d x q) [ inl y ↦ omega arith | inr y ↦ let i = block-in h c b k d in let least = i.least in omega arith ]
]

-- what is known of a place
pub record IsRoom (h : StackState) (p : Place) : Type 0 where
  pub block : IsIn h p.class p.block
  pub aligned : p.user % 16 ≡ 0
  pub above : p.block + 16 ≤ p.user
  pub within : end_of p ≤ block_end p

pub room : (h : StackState) (p : Place) → IsStacked h → IsPlace h p → IsRoom h p
room h p k i = record { block = block-in h p.class p.block k i.carved; aligned = i.aligned; above = i.above; within = i.within }

module _ (m : Memory) (h : StackState) (p : Place) (t : ℕ) (k : IsStacked h) (s : IsView m h) (i : IsPlace h p) where
  pub with-chunk-tag-retag : IsRetag m (with_chunk_tag m p t) p.user (end_of p) t
  unfolding with_chunk_tag
  with-chunk-tag-retag =
      let r = room h p k i in
      retag m p.user (granules_of p.size) t (end_of p) true s.whole refl (open-part m p.block (block_end p) p.user (end_of p) (block-open m h p k s i) (omega arith) i.within i.aligned)

  -- free gives a tag to the place
  pub with-chunk-tag-call : IsCallOn m (with_chunk_tag m p t) p t
  with-chunk-tag-call =
      let g = with-chunk-tag-retag in
      let r = room h p k i in
      let above = r.above in
      let within = r.within in
      record {
        limit = g.limit;
        attrs = g.attrs;
        whole = g.whole;
        inside = g.inside;
        rest = λ a o. inl (g.out a o);
        out = λ a o. g.out a (λ x y. o (omega arith) (omega arith));
      }

  -- malloc gives 0 to the granules beside it too
  fenced_parts : (m2 : Memory) → IsRetag (with_chunk_tag m p t) m2 (p.user - 16) p.user 0 → IsClosed m2 (with_end_tag_0 m2 p) p → IsCallOn m (with_end_tag_0 m2 p) p t
  fenced_parts m2 b c =
      let g = with-chunk-tag-retag in
      let r = room h p k i in
      let above = r.above in
      let within = r.within in
      record {
        limit = c.limit ∙ b.limit ∙ g.limit;
        attrs = λ q. c.attrs q ∙ b.attrs q ∙ g.attrs q;
        whole = c.whole;
        inside = λ a l u. c.out a (λ x y. omega arith) ∙ b.out a (λ x y. omega arith) ∙ g.inside a l u;
        rest = λ a o. or_zero m m2 (with_end_tag_0 m2 p) a (c.rest a) (or_zero m (with_chunk_tag m p t) m2 a (cleared (with_chunk_tag m p t) m2 (p.user - 16) p.user a b) (inl (g.out a o)));
        out = λ a o. c.out a (λ x y. o (omega arith) y) ∙ b.out a (λ x y. o (omega arith) (omega arith)) ∙ g.out a (λ x y. o (omega arith) (omega arith));
      }

  fenced_tagged : (m2 : Memory) → IsRetag (with_chunk_tag m p t) m2 (p.user - 16) p.user 0 → IsClosed m2 (with_end_tag_0 m2 p) p → t ≢ 0
      → ((a : ℕ) → region_of 1 ≤ a → a < SECONDARY_END → IsOutside h a → tag_at m a ≡ 0) → IsTagged (with_end_tag_0 m2 p) p t
  fenced_tagged m2 b c n outside =
      let call = fenced_parts m2 b c in
      let r = room h p k i in
      let above = r.above in
      let within = r.within in
      record {
        some = n;
        inside = call.inside;
        before = λ a l u. c.out a (λ x y. omega arith) ∙ b.inside a (omega arith) u;
        after = λ a l u. elim (cases_lt a (block_end p)) [
          | inl x ↦ c.after a l u x
          | inr x ↦
              let e = r.block in
              let ea = e.above in
              let ew = e.within in
              let ef = e.few in
              let eh = e.high in
              call.out a (λ y z. omega arith) ∙ outside a (omega arith) (omega arith) (block_end-outside h p.class p.block a k i.carved x (omega arith))
        ];
      }

  pub fenced-both : t ≢ 0 → ((a : ℕ) → region_of 1 ≤ a → a < SECONDARY_END → IsOutside h a → tag_at m a ≡ 0) → IsCallOn m (fenced m p t) p t × IsTagged (fenced m p t) p t
  unfolding with_header_tag_0
  fenced-both n outside =
      let g = with-chunk-tag-retag in
      let r = room h p k i in
      let above = r.above in
      let within = r.within in
      let al = r.aligned in
      let units = r.block.units in
      let open0 = block-open m h p k s i in
      let open1 = open-after m (with_chunk_tag m p t) p.block (block_end p) g.attrs open0 in
      let m2 = with_granules (with_chunk_tag m p t) (p.user - 16) 1 0 false in
      let b : IsRetag (with_chunk_tag m p t) m2 (p.user - 16) p.user 0 =
      retag (with_chunk_tag m p t) (p.user - 16) 1 0 p.user false g.whole (omega arith) (open-part (with_chunk_tag m p t) p.block (block_end p) (p.user - 16) p.user open1 (omega arith) (omega arith) (omega arith)) in
      let open2 = open-after (with_chunk_tag m p t) m2 p.block (block_end p) b.attrs open1 in
      let c = with-end-tag-0-is m2 p b.whole open2 (omega arith) (omega arith) units in
      (fenced_parts m2 b c, fenced_tagged m2 b c n outside)
