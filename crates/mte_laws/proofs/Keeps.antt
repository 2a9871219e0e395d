-- A call that changes the tags of one block keeps what holds of all others.
use Rattle.std.proofs.Common.{◌≡◌, ◌≢◌, ℕ, ◌+◌, ◌<◌, ◌≤◌, ◌⊎◌, Some, sym, subst, ◌∙◌, inl, inr, arith}
use Rattle.std.proofs.lemmas.Bool.{cases_eq, cases_lt}
use Rattle.mte_tags.specs.Memory.{Memory, tag_at, attrs_at}
use Rattle.mte_tags.specs.Whole.{IsWhole}
use Rattle.scudo_header.specs.Classes.{size_of}
use Rattle.scudo_primary.specs.Blocks.{IsBlock}
use Rattle.scudo_primary.specs.Blocks.{IsClass}
use Rattle.scudo_heap.specs.Stacks.{StackState, pages_of}
use Rattle.mte_laws.specs.LiveChunks.{IsCarved, IsPlace, IsHalfTag, BlockChunk, LiveBlocks, chunk_at, ArePlaced, IsTagged, IsOutside, AreTagged}
use Rattle.scudo_heap.specs.declared.chunk.Place.{Place}
use Rattle.scudo_heap.specs.Chunks.{end_of, block_end}
use Rattle.mte_laws.proofs.Views.{IsStacked}
use Rattle.mte_laws.proofs.Blocks.{same-class, apart}

-- what a call leaves of the tags: the place has the tag t, the rest of its block keeps its tags or gets 0, all else stays
pub record IsCallOn (m m' : Memory) (p : Place) (t : ℕ) : Type 0 where
  pub limit : m'.limit ≡ m.limit
  pub attrs : (q : ℕ) → attrs_at m' q ≡ attrs_at m q
  pub whole : IsWhole m'
  pub inside : (a : ℕ) → p.user ≤ a → a < end_of p → tag_at m' a ≡ t
  pub rest : (a : ℕ) → (p.user ≤ a → a < end_of p → ⊥) → (tag_at m' a ≡ tag_at m a) ⊎ (tag_at m' a ≡ 0)
  pub out : (a : ℕ) → (p.block ≤ a → a < block_end p → ⊥) → tag_at m' a ≡ tag_at m a

-- each class has as many pages as before
pub record IsSamePages (h h' : StackState) : Type 0 where
  pub pages : (c : ℕ) → IsClass c → pages_of h' c ≡ pages_of h c

pub carved-back : (h h' : StackState) (c b : ℕ) → IsSamePages h h' → IsCarved h' c b → IsCarved h c b
carved-back h h' c b s d = record { class = d.class; block = subst (λ t. IsBlock c t b) (s.pages c d.class) d.block }

pub carved-on : (h h' : StackState) (c b : ℕ) → IsSamePages h h' → IsCarved h c b → IsCarved h' c b
carved-on h h' c b s d = record { class = d.class; block = subst (λ t. IsBlock c t b) (sym (s.pages c d.class)) d.block }

-- 0, or as before where that was 0
zero_or : (m m' : Memory) (a : ℕ) → tag_at m a ≡ 0 → (tag_at m' a ≡ tag_at m a) ⊎ (tag_at m' a ≡ 0) → tag_at m' a ≡ 0
zero_or m m' a z (inl e) = e ∙ z
zero_or m m' a z (inr e) = e

half_or : (m m' : Memory) (c b a : ℕ) → (tag_at m a ≡ 0) ⊎ IsHalfTag c b (tag_at m a) → (tag_at m' a ≡ tag_at m a) ⊎ (tag_at m' a ≡ 0) → (tag_at m' a ≡ 0) ⊎ IsHalfTag c b (tag_at m' a)
half_or m m' c b a (inl z) (inl e) = inl (e ∙ z)
half_or m m' c b a (inr k) (inl e) = inr (subst (IsHalfTag c b) (sym e) k)
half_or m m' c b a (inl z) (inr e) = inl e
half_or m m' c b a (inr k) (inr e) = inl e

module _ (m m' : Memory) (h h' : StackState) (p : Place) (t : ℕ) (k : IsStacked h) (place : IsPlace h p) (call : IsCallOn m m' p t) where
  -- an address of another block is out of the call's block
  pub other : (c b a : ℕ) → IsCarved h c b → b ≢ p.block → b ≤ a → a < b + size_of c → (p.block ≤ a → a < block_end p → ⊥)
  other c b a d n l u = λ x y. elim (apart h c p.class b p.block k d place.carved n) [ inl e ↦ omega arith | inr e ↦ omega arith ]

  -- a chunk of another block stays tagged
  stays : (q : Place) (s : ℕ) → IsPlace h q → q.block ≢ p.block → IsTagged m q s → IsTagged m' q s
  stays q s i n g =
      let above = i.above in
      let within = i.within in
      let o : (a : ℕ) → q.block ≤ a → a < block_end q → tag_at m' a ≡ tag_at m a = λ a x y. call.out a (other q.class q.block a i.carved n x y) in
      record {
        some = g.some;
        inside = λ a x y. o a (omega arith) (omega arith) ∙ g.inside a x y;
        before = λ a x y. o a (omega arith) (omega arith) ∙ g.before a x y;
        after = λ a x y. zero_or m m' a (g.after a x y) (call.rest a (λ v w.
            let pa = place.above in
            let pw = place.within in
            elim (apart h q.class p.class q.block p.block k i.carved place.carved n) [ inl e ↦ omega arith | inr e ↦ omega arith ]));
      }

  -- the tags of a block's granules
  halves : (c b a : ℕ) → IsHalfTag p.class p.block t → IsCarved h c b → b ≤ a → a < b + size_of c → (tag_at m a ≡ 0) ⊎ IsHalfTag c b (tag_at m a)
      → (tag_at m' a ≡ 0) ⊎ IsHalfTag c b (tag_at m' a)
  halves c b a f d l u old = elim (cases_eq b p.block) [
    | inr n ↦ half_or m m' c b a old (inl (call.out a (other c b a d n l u)))
    | inl e ↦
        let same : p.class ≡ c = same-class h p.class c p.block k place.carved (subst (IsCarved h c) e d) in
        let own : IsHalfTag c b t = subst (λ x. IsHalfTag c x t) (sym e) (subst (λ x. IsHalfTag x p.block t) same f) in
        elim (cases_lt a p.user) [
          | inl v ↦ half_or m m' c b a old (call.rest a (λ x y. omega arith))
          | inr v ↦ elim (cases_lt a (end_of p)) [
            | inl w ↦ inr (subst (IsHalfTag c b) (sym (call.inside a v w)) own)
            | inr w ↦ half_or m m' c b a old (call.rest a (λ x y. omega arith))
          ]
        ]
  ]

  outside : (a : ℕ) → IsOutside h a → tag_at m a ≡ 0 → tag_at m' a ≡ 0
  outside a o z =
      let above = place.above in
      let within = place.within in
      zero_or m m' a z (call.rest a (λ x y. o p.class p.block place.carved (omega arith) (omega arith)))

-- Each chunk after the call is one in another block from before, or is tagged now.
pub record IsStep (m' : Memory) (l l' : LiveBlocks) (block : ℕ) : Type 0 where
  pub chunk : (u : ℕ) (x : BlockChunk) → chunk_at l' u ≡ Some x → ((chunk_at l u ≡ Some x) × (x.place.block ≢ block)) ⊎ IsTagged m' x.place x.tag

pub keeps-with-chunk-tag : (m m' : Memory) (h h' : StackState) (l l' : LiveBlocks) (p : Place) (t : ℕ) → IsStacked h → ArePlaced h l → AreTagged m h l → IsPlace h p → IsHalfTag p.class p.block t → IsCallOn m m' p t → IsSamePages h h'
    → IsStep m' l l' p.block → AreTagged m' h' l'
keeps-with-chunk-tag m m' h h' l l' p t k live old place f call s step = record {
  chunks = λ u x e. elim (step.chunk u x e) [
    | inl b ↦ stays m m' h h' p t k place call x.place x.tag (live.place u x b.0) b.1 (old.chunks u x b.0)
    | inr g ↦ g
  ];
  halves = λ c b a d l u. let d' = carved-back h h' c b s d in halves m m' h h' p t k place call c b a f d' l u (old.halves c b a d' l u);
  outside = λ a l u o. let o' : IsOutside h a = λ c b d. o c b (carved-on h h' c b s d) in outside m m' h h' p t k place call a o' (old.outside a l u o');
}
