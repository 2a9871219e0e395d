-- A class without free blocks that gets pages.
use Rattle.std.proofs.Common.{◌≡◌, ℕ, zero, suc, ◌+◌, ◌-◌, ◌/◌, ◌%◌, ◌<◌, ◌≤◌, ◌⊎◌, Bool, true, false, cond, Some, None, [], get_or, replicate, refl, sym, ap, subst, ◌∙◌, inl, inr, arith}
use Rattle.std.proofs.lemmas.Bool.{cases_eq, cases_lt}
use Rattle.std.proofs.lemmas.List.{get_or-replicate}
use Rattle.mte_tags.specs.Memory.{Memory, page_at, pages_left, new_page, with_new_pages, without_page, without_pages, IsFree, tag_at, tag_cases, has}
use Rattle.mte_tags.specs.declared.attrs.Attrs.{Attrs}
use Rattle.mte_tags.proofs.Pages.{limit-without_page}
use Rattle.mte_tags.proofs.PageLaws.{page_at-with_new_pages_in, page_at-with_new_pages_out, limit-with_new_pages}
use Rattle.mte_tags.proofs.Whole.{whole-with_new_pages}
use Rattle.scudo_primary.specs.Blocks.{carved_count, number_of}
use Rattle.scudo_primary.specs.Blocks.{IsClass}
use Rattle.scudo_heap.specs.Stacks.{StackState, ClassHeap, pages_of, stack_of, after_carve}
use Rattle.mte_laws.specs.LiveChunks.{IsCarved, IsPlace, IsHalfTag, LiveBlocks, ArePlaced, AreTagged}
use Rattle.scudo_heap.specs.declared.chunk.Place.{Place}
use Rattle.scudo_heap.specs.Placing.{heap_attrs, next_page}
use Rattle.mte_laws.proofs.Views.{IsStacked, SoundBlocks, TaggedBlocks}
use Rattle.mte_laws.proofs.Blocks.{apart, block-in, same-class}
use Rattle.mte_laws.proofs.Freed.{Freed, IsStale}
use Rattle.mte_laws.proofs.Stales.{stale-grown, not-empty}
use Rattle.scudo_heap.proofs.ServedLemmas.{class-carved_other}
use Rattle.scudo_heap.proofs.KeptLemmas.{KeepsUsed, keeps-after-carve}

-- ---- new pages change no tag

zero_cond : (b : Bool) (t : ℕ) → t ≡ 0 → cond b t 0 ≡ 0
zero_cond true t e = e
zero_cond false t e = refl

zero_tag : (x g : ℕ) → g < 256 → tag_cases (Some (new_page x)) g ≡ 0
unfolding new_page
zero_tag x g l = zero_cond (has x 8) (get_or (replicate 256 0) g 0) (get_or-replicate 256 g 0 0 l)

pub tag_at-with_new_pages : (m : Memory) (q n a : ℕ) (x : Attrs) → IsFree m q n → tag_at (with_new_pages m q n x) a ≡ tag_at m a
unfolding tag_at
tag_at-with_new_pages m q n a x f =
    let out : (q ≤ a / 4096 → a / 4096 < q + n → ⊥) → tag_cases (page_at (with_new_pages m q n x) (a / 4096)) (a % 4096 / 16) ≡ tag_cases (page_at m (a / 4096)) (a % 4096 / 16) =
    λ o. ap (λ p. tag_cases p (a % 4096 / 16)) (page_at-with_new_pages_out n m q x (a / 4096) o) in
    elim (cases_lt (a / 4096) q) [
      | inl l ↦ out (λ u v. omega arith)
      | inr l ↦ elim (cases_lt (a / 4096) (q + n)) [
        | inr u ↦ out (λ v w. omega arith)
        | inl u ↦
            let e : q + (a / 4096 - q) ≡ a / 4096 = omega arith in
            let none : page_at m (a / 4096) ≡ None = ap (page_at m) (sym e) ∙ f (a / 4096 - q) (omega arith) in
            ap (λ p. tag_cases p (a % 4096 / 16)) (page_at-with_new_pages_in n m q x (a / 4096) l u) ∙ zero_tag x.0 (a % 4096 / 16) (omega arith) ∙ sym (ap (λ p. tag_cases p (a % 4096 / 16)) none)
      ]
    ]

-- ---- pages of a class and pages left together

pub limit-without_pages : (n : ℕ) (m : Memory) (q : ℕ) → (without_pages m q n).limit ≡ m.limit
unfolding without_pages
limit-without_pages zero m q = refl
limit-without_pages (suc n) m q = limit-without_pages n (without_page m q) (q + 1) ∙ limit-without_page m q

-- ---- a class that has no free block gets pages

-- what is known where pages come to a class
pub record IsGrowth (m : Memory) (h : StackState) (c n : ℕ) : Type 0 where
  pub class : IsClass c
  pub empty : stack_of h c ≡ []
  pub left : n ≤ pages_left m
  pub free : IsFree m (next_page h c) n
  pub stacked : IsStacked (after_carve h c n)

module _ (m : Memory) (h : StackState) (l : LiveBlocks) (c n : ℕ) (s : SoundBlocks m h l) (g : IsGrowth m h c n) where
  abbrev m' : Memory
  m' = with_new_pages m (next_page h c) n heap_attrs

  abbrev h' : StackState
  h' = after_carve h c n

  -- it changes no tag
  pub after-grow-tags : (a : ℕ) → tag_at (with_new_pages m (next_page h c) n heap_attrs) a ≡ tag_at m a
  after-grow-tags a = tag_at-with_new_pages m (next_page h c) n a heap_attrs g.free

  keeps : KeepsUsed h h'
  keeps = keeps-after-carve h c n g.class

  after-carve-more : (d b : ℕ) → IsCarved h d b → IsCarved h' d b
  after-carve-more d b k = record { class = k.class; block = keeps.carved d b k.class k.block }

  -- a block of the grown heap was a block before, or is new
  old-or-new : (d b : ℕ) → IsCarved h' d b → IsCarved h d b ⊎ (IsCarved h d b → ⊥)
  old-or-new d b k = elim (cases_lt (number_of d b) (carved_count d (pages_of h d))) [
    | inl u ↦ inl (record { class = k.class; block = record { inside = k.block.inside; start = k.block.start; carved = u } })
    | inr u ↦ inr (λ o. let e = o.block.carved in omega arith)
  ]

  place-more : (p : Place) → IsPlace h p → IsPlace h' p
  place-more p i = record { carved = after-carve-more p.class p.block i.carved; aligned = i.aligned; above = i.above; within = i.within; some = i.some }

  grown_placed : ArePlaced h' l
  grown_placed = record {
    place = λ u x e. place-more x.place (s.placed.place u x e);
    user = s.placed.user;
    header = s.placed.header;
    apart = s.placed.apart;
    unstacked = λ u x e. let k = (s.placed.place u x e).carved in keeps.used x.place.class x.place.block k.class k.block (s.placed.unstacked u x e);
  }

  grown_tagged : AreTagged m' h' l
  grown_tagged = record {
    chunks = λ u x e.
        let o = s.tagged.chunks u x e in
        record { some = o.some; inside = λ a v w. after-grow-tags a ∙ o.inside a v w; before = λ a v w. after-grow-tags a ∙ o.before a v w; after = λ a v w. after-grow-tags a ∙ o.after a v w };
    halves = λ d b a k x y. elim (old-or-new d b k) [
      | inl o ↦ elim (s.tagged.halves d b a o x y) [ inl z ↦ inl (after-grow-tags a ∙ z) | inr f ↦ inr (subst (IsHalfTag d b) (sym (after-grow-tags a)) f) ]
      | inr o ↦ inl (let i = block-in h' d b g.stacked k in
          let above = i.above in
          let within = i.within in
          let few = i.few in
          let high = i.high in
          after-grow-tags a ∙ s.tagged.outside a (omega arith) (omega arith) (λ e f p v w. elim (cases_eq f b) [
            | inl q ↦ o (subst (λ t. IsCarved h t b) (same-class h' e d b g.stacked (after-carve-more e b (subst (IsCarved h e) q p)) k) (subst (IsCarved h e) q p))
            | inr q ↦ elim (apart h' e d f b g.stacked (after-carve-more e f p) k q) [ inl r ↦ omega arith | inr r ↦ omega arith ]
          ]))
    ];
    outside = λ a x y o. after-grow-tags a ∙ s.tagged.outside a x y (λ d b k. o d b (after-carve-more d b k));
  }

  -- the call that gives a class pages
  pub grown_sound : TaggedBlocks (with_new_pages m (next_page h c) n heap_attrs) (after_carve h c n) l
  grown_sound = record {
    whole = whole-with_new_pages n m (next_page h c) heap_attrs g.free g.left s.served.whole;
    limit = let e = limit-with_new_pages n m (next_page h c) heap_attrs in let f = s.served.limit in omega arith;
    placed = grown_placed;
    tagged = grown_tagged;
  }

  -- and keeps what is freed
  pub after-grow-stale : (f : Freed) → IsStale m h f → IsStale (with_new_pages m (next_page h c) n heap_attrs) (after_carve h c n) f
  after-grow-stale f st =
      stale-grown m m' h c n f place-more g.empty (ap (λ (k : ClassHeap). k.stack) (class-carved_other h c n f.place.class (not-empty h c f.place.class f.place.block g.empty st.stacked))) after-grow-tags st
