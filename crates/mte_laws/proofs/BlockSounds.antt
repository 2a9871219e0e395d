-- Each heap call keeps the live chunks Sound.
use Rattle.std.proofs.Common.{◌≡◌, ◌≢◌, ℕ, ◌-◌, ◌<◌, true, false, Some, List, ◌∷◌, refl, sym, ap, subst, ◌∙◌, inl, inr, arith}
use Rattle.std.proofs.lemmas.Bool.{cases_eq}
use Rattle.std.specs.Prelude.{nat_eq}
use Rattle.std.specs.List.{IsDistinct}
use Rattle.std.specs.Int.{to_le_bytes, w64}
use Rattle.mte_tags.specs.Memory.{Memory, tag_at}
use Rattle.scudo_header.specs.Headers.{packed_header}
use Rattle.scudo_header.specs.declared.headers.Origin.{Origin}
use Rattle.scudo_header.specs.declared.headers.Header.{Header}
use Rattle.scudo_primary.specs.Pools.{is_member}
use Rattle.scudo_primary.proofs.ListLemmas.{member-other, member-first, distinct-head}
use Rattle.scudo_heap.specs.Stacks.{StackState, stack_of, with_stack}
use Rattle.mte_laws.specs.LiveChunks.{IsCarved, IsPlace, IsHalfTag, BlockChunk, LiveBlocks, chunk_at, with_chunk, without_chunk, new_chunk, IsHeaderOf, ArePlaced, IsTagged}
use Rattle.scudo_heap.specs.declared.chunk.Place.{Place}
use Rattle.scudo_heap.specs.Chunks.{with_size, with_chunk_tag, after_retag_tail, with_header}
use Rattle.mte_laws.proofs.BlockCalls.{fenced}
use Rattle.scudo_heap.specs.Placing.{new_header}
use Rattle.mte_laws.proofs.Views.{SoundBlocks, TaggedBlocks}
use Rattle.mte_laws.proofs.Draws.{IsFresh}
use Rattle.mte_laws.proofs.Blocks.{same-class}
use Rattle.mte_laws.proofs.Keeps.{IsCallOn, IsSamePages, IsStep, keeps-with-chunk-tag}
use Rattle.mte_laws.proofs.BlockCalls.{fenced-both, with-chunk-tag-call, with-bytes-at-call, with-bytes-at-with-chunk-tag}
use Rattle.mte_laws.proofs.Refits.{after-retag-tail-fits}
use Rattle.scudo_heap.proofs.SoundLemmas.{stack-own, stack-other}
use Rattle.mte_laws.proofs.ListLaws.{same-pages, place-on, chunk_at-with, chunk_at-without}

-- a chunk after it got another size where it is
abbrev pub resized_chunk : BlockChunk → ℕ → BlockChunk
resized_chunk x size = record {
  place = with_size x.place size;
  tag = x.tag;
  header = record (x.header) { size_or_unused_bytes = size };
}

module _ (m : Memory) (h : StackState) (l : LiveBlocks) (s : SoundBlocks m h l) where
  -- the tag at a place's user address is below 16
  pub present : (p : Place) → IsPlace h p → tag_at m p.user < 16
  present p i =
      let above = i.above in
      let within = i.within in
      let some = i.some in
      elim (s.tagged.halves p.class p.block p.user i.carved (omega arith) (omega arith)) [ inl e ↦ omega arith | inr k ↦ k.below ]

  -- a live chunk's block is not the top of a stack
  pub not-top : (c b : ℕ) (more : List ℕ) → stack_of h c ≡ b ∷ more → IsCarved h c b → (u : ℕ) (x : BlockChunk) → chunk_at l u ≡ Some x → x.place.block ≢ b
  not-top c b more e d u x g = λ q.
      let i = s.placed.place u x g in
      let same : x.place.class ≡ c = same-class h x.place.class c b s.stacked (subst (IsCarved h x.place.class) q i.carved) d in
      let off : is_member (stack_of h c) b ≡ false = ap (λ t. is_member (stack_of h t) b) (sym same) ∙ ap (is_member (stack_of h x.place.class)) (sym q) ∙ s.placed.unstacked u x g in
      let on : is_member (stack_of h c) b ≡ true = ap (λ t. is_member t b) e ∙ member-first b more in
      cc

  -- the live chunks with one more, or with another at its user address, in a block that no other has
  pub live-with : (h' : StackState) (x : BlockChunk) → IsSamePages h h' → IsPlace h x.place → IsHeaderOf x.header x.place → is_member (stack_of h' x.place.class) x.place.block ≡ false
      → ((u : ℕ) (y : BlockChunk) → chunk_at l u ≡ Some y → u ≢ x.place.user → (y.place.block ≢ x.place.block) × (is_member (stack_of h' y.place.class) y.place.block ≡ false))
      → ArePlaced h' (with_chunk l x)
  live-with h' x pages i header off others = record {
    place = λ u y e. elim (chunk_at-with l x u y e) [
      | inl a ↦ subst (λ (z : BlockChunk). IsPlace h' z.place) a.1 (place-on h h' x.place pages i)
      | inr a ↦ place-on h h' y.place pages (s.placed.place u y a.1)
    ];
    user = λ u y e. elim (chunk_at-with l x u y e) [
      | inl a ↦ sym (ap (λ (z : BlockChunk). z.place.user) a.1) ∙ sym a.0
      | inr a ↦ s.placed.user u y a.1
    ];
    header = λ u y e. elim (chunk_at-with l x u y e) [
      | inl a ↦ subst (λ (z : BlockChunk). IsHeaderOf z.header z.place) a.1 header
      | inr a ↦ s.placed.header u y a.1
    ];
    apart = λ u v y z e f g. elim (chunk_at-with l x u y e) [
      | inl a ↦ elim (chunk_at-with l x v z f) [
        | inl b ↦ a.0 ∙ sym b.0
        | inr b ↦ absurd ((others v z b.1 b.0).0 (sym g ∙ sym (ap (λ (k : BlockChunk). k.place.block) a.1)))
      ]
      | inr a ↦ elim (chunk_at-with l x v z f) [
        | inl b ↦ absurd ((others u y a.1 a.0).0 (g ∙ sym (ap (λ (k : BlockChunk). k.place.block) b.1)))
        | inr b ↦ s.placed.apart u v y z a.1 b.1 g
      ]
    ];
    unstacked = λ u y e. elim (chunk_at-with l x u y e) [
      | inl a ↦ subst (λ (z : BlockChunk). is_member (stack_of h' z.place.class) z.place.block ≡ false) a.1 off
      | inr a ↦ (others u y a.1 a.0).1
    ];
  }

  -- a block that is in no stack, after one stack became another list
  off-stack : (c : ℕ) (xs : List ℕ) (d b : ℕ) → is_member (stack_of h d) b ≡ false → (d ≡ c → is_member xs b ≡ false) → is_member (stack_of (with_stack h c xs) d) b ≡ false
  off-stack c xs d b old new = elim (cases_eq d c) [
    | inl q ↦ ap (λ t. is_member t b) (ap (stack_of (with_stack h c xs)) q ∙ stack-own h c xs) ∙ new q
    | inr n ↦ ap (λ t. is_member t b) (stack-other h c d xs n) ∙ old
  ]

  placed_live : (x : BlockChunk) (more : List ℕ) → IsHeaderOf x.header x.place → stack_of h x.place.class ≡ x.place.block ∷ more → IsPlace h x.place → ArePlaced (with_stack h x.place.class more) (with_chunk l x)
  placed_live x more header top i =
      let c = x.place.class in
      let distinct : IsDistinct nat_eq (x.place.block ∷ more) = subst (IsDistinct nat_eq) top (s.stacked.distinct c i.carved.class) in
      live-with (with_stack h c more) x (same-pages h c more) i header
      (ap (λ t. is_member t x.place.block) (stack-own h c more) ∙ distinct-head x.place.block more distinct)
      (λ u y e n.
      let other = not-top c x.place.block more top i.carved u y e in
      let off = s.placed.unstacked u y e in
      (other, off-stack c more y.place.class y.place.block off (λ q. sym (member-other x.place.block more y.place.block other) ∙ sym (ap (λ t. is_member t y.place.block) (ap (stack_of h) q ∙ top)) ∙ off)))

  -- what the first call leaves of the tags
  pub placed_call : (cookie : ℕ) (p : Place) (origin : Origin) (t : ℕ) → IsFresh m p t → IsPlace h p → IsCallOn m (with_header (fenced m p t) cookie p.user (new_header origin p)) p t
  unfolding with_header
  placed_call cookie p origin t fresh i =
      with-bytes-at-call m (fenced m p t) p t (p.user - 16) (to_le_bytes w64 (packed_header cookie p.user (new_header origin p))) (fenced-both m h p t s.stacked s.served i fresh.some s.tagged.outside).0

  -- the first call: a chunk is made
  pub placed_sound : (cookie : ℕ) (p : Place) (origin : Origin) (more : List ℕ) (t : ℕ) → IsFresh m p t → stack_of h p.class ≡ p.block ∷ more → IsPlace h p
      → TaggedBlocks (with_header (fenced m p t) cookie p.user (new_header origin p)) (with_stack h p.class more) (with_chunk l (new_chunk origin p t))
  unfolding with_header
  placed_sound cookie p origin more t fresh top i =
      let x = new_chunk origin p t in
      let h' = with_stack h p.class more in
      let pages = same-pages h p.class more in
      let both = fenced-both m h p t s.stacked s.served i fresh.some s.tagged.outside in
      let bytes = to_le_bytes w64 (packed_header cookie p.user (new_header origin p)) in
      let m' = with_header (fenced m p t) cookie p.user (new_header origin p) in
      let call : IsCallOn m m' p t = with-bytes-at-call m (fenced m p t) p t (p.user - 16) bytes both.0 in
      let own : IsTagged m' p t = with-bytes-at-with-chunk-tag (fenced m p t) p t (p.user - 16) bytes both.1 in
      let step : IsStep m' l (with_chunk l x) p.block = record {
        chunk = λ u y e. elim (chunk_at-with l x u y e) [
          | inl a ↦ inr (subst (λ (z : BlockChunk). IsTagged m' z.place z.tag) a.1 own)
          | inr a ↦ inl (a.1, not-top p.class p.block more top i.carved u y a.1)
        ];
      } in
      record {
        whole = call.whole;
        limit = let e = call.limit in let f = s.served.limit in omega arith;
        placed = placed_live x more (record { class = refl; state = refl; size = refl; offset = refl }) top i;
        tagged = keeps-with-chunk-tag m m' h h' l (with_chunk l x) p t s.stacked s.placed s.tagged i fresh.half call pages step;
      }

  -- ---- the second call: a chunk is freed

  live-without : (h' : StackState) (u : ℕ) → IsSamePages h h' → ((v : ℕ) (y : BlockChunk) → chunk_at l v ≡ Some y → v ≢ u → is_member (stack_of h' y.place.class) y.place.block ≡ false) → ArePlaced h' (without_chunk l u)
  live-without h' u pages off = record {
    place = λ v y e. place-on h h' y.place pages (s.placed.place v y (chunk_at-without l u v y e).1);
    user = λ v y e. s.placed.user v y (chunk_at-without l u v y e).1;
    header = λ v y e. s.placed.header v y (chunk_at-without l u v y e).1;
    apart = λ v w y z e f g. s.placed.apart v w y z (chunk_at-without l u v y e).1 (chunk_at-without l u w z f).1 g;
    unstacked = λ v y e. let k = chunk_at-without l u v y e in off v y k.1 k.0;
  }

  pub given_back_call : (cookie : ℕ) (p : Place) (header : Header) (t : ℕ) → IsPlace h p → IsCallOn m (with_header (with_chunk_tag m p t) cookie p.user header) p t
  unfolding with_header
  given_back_call cookie p header t i = with-bytes-at-call m (with_chunk_tag m p t) p t (p.user - 16) (to_le_bytes w64 (packed_header cookie p.user header)) (with-chunk-tag-call m h p t s.stacked s.served i)

  pub given_back_sound : (cookie u : ℕ) (x : BlockChunk) (header : Header) (t : ℕ) → chunk_at l u ≡ Some x → IsFresh m x.place t
      → TaggedBlocks (with_header (with_chunk_tag m x.place t) cookie x.place.user header) (with_stack h x.place.class (x.place.block ∷ stack_of h x.place.class)) (without_chunk l u)
  unfolding with_header
  given_back_sound cookie u x header t at fresh =
      let p = x.place in
      let i : IsPlace h p = s.placed.place u x at in
      let h' = with_stack h p.class (p.block ∷ stack_of h p.class) in
      let pages = same-pages h p.class (p.block ∷ stack_of h p.class) in
      let m' = with_header (with_chunk_tag m p t) cookie p.user header in
      let call : IsCallOn m m' p t = with-bytes-at-call m (with_chunk_tag m p t) p t (p.user - 16) (to_le_bytes w64 (packed_header cookie p.user header)) (with-chunk-tag-call m h p t s.stacked s.served i) in
      let other : (v : ℕ) (y : BlockChunk) → chunk_at l v ≡ Some y → v ≢ u → y.place.block ≢ p.block = λ v y e n q. n (s.placed.apart v u y x e at q) in
      let step : IsStep m' l (without_chunk l u) p.block = record {
        chunk = λ v y e. let k = chunk_at-without l u v y e in inl (k.1, other v y k.1 k.0);
      } in
      let off : (v : ℕ) (y : BlockChunk) → chunk_at l v ≡ Some y → v ≢ u → is_member (stack_of h' y.place.class) y.place.block ≡ false = λ v y e n.
      off-stack p.class (p.block ∷ stack_of h p.class) y.place.class y.place.block (s.placed.unstacked v y e)
      (λ q. member-other p.block (stack_of h p.class) y.place.block (other v y e n) ∙ sym (ap (λ c. is_member (stack_of h c) y.place.block) q) ∙ s.placed.unstacked v y e) in
      record {
        whole = call.whole;
        limit = let e = call.limit in let f = s.served.limit in omega arith;
        placed = live-without h' u pages off;
        tagged = keeps-with-chunk-tag m m' h h' l (without_chunk l u) p t s.stacked s.placed s.tagged i fresh.half call pages step;
      }

  -- ---- the third call: a chunk gets another size in its block

  pub present-tag : (u : ℕ) (x : BlockChunk) → chunk_at l u ≡ Some x → tag_at m x.place.user ≡ x.tag
  present-tag u x at = let i = s.placed.place u x at in let some = i.some in (s.tagged.chunks u x at).inside x.place.user (omega arith) (omega arith)

  pub live_half : (u : ℕ) (x : BlockChunk) → chunk_at l u ≡ Some x → IsHalfTag x.place.class x.place.block x.tag
  live_half u x at =
      let i = s.placed.place u x at in
      let above = i.above in
      let within = i.within in
      let some = i.some in
      let e = present-tag u x at in
      elim (s.tagged.halves x.place.class x.place.block x.place.user i.carved (omega arith) (omega arith)) [
        | inl z ↦ absurd ((s.tagged.chunks u x at).some (sym e ∙ z))
        | inr k ↦ subst (IsHalfTag x.place.class x.place.block) e k
      ]

  pub resized_call : (cookie u size : ℕ) (x : BlockChunk) (header : Header) → chunk_at l u ≡ Some x → IsPlace h (with_size x.place size) → IsCallOn m (with_header (after_retag_tail m x.place size) cookie x.place.user header) (with_size x.place size) x.tag
  unfolding with_header
  resized_call cookie u size x header at j =
      with-bytes-at-call m (after_retag_tail m x.place size) (with_size x.place size) x.tag (x.place.user - 16) (to_le_bytes w64 (packed_header cookie x.place.user header))
      (after-retag-tail-fits m h x.place size x.tag s.stacked s.served (s.placed.place u x at) j (s.tagged.chunks u x at) s.tagged.outside (present-tag u x at)).call

  pub resized_sound : (cookie u size : ℕ) (x : BlockChunk) → chunk_at l u ≡ Some x → IsPlace h (with_size x.place size)
      → TaggedBlocks (with_header (after_retag_tail m x.place size) cookie x.place.user (record (x.header) { size_or_unused_bytes = size })) h (with_chunk l (resized_chunk x size))
  unfolding with_header
  resized_sound cookie u size x at j =
      let p = x.place in
      let x' = resized_chunk x size in
      let header = x'.header in
      let i : IsPlace h p = s.placed.place u x at in
      let fit = after-retag-tail-fits m h p size x.tag s.stacked s.served i j (s.tagged.chunks u x at) s.tagged.outside (present-tag u x at) in
      let m1 = after_retag_tail m p size in
      let m' = with_header m1 cookie p.user header in
      let bytes = to_le_bytes w64 (packed_header cookie p.user header) in
      let call : IsCallOn m m' (with_size p size) x.tag = with-bytes-at-call m m1 (with_size p size) x.tag (p.user - 16) bytes fit.call in
      let own : IsTagged m' (with_size p size) x.tag = with-bytes-at-with-chunk-tag m1 (with_size p size) x.tag (p.user - 16) bytes fit.tags in
      let here : p.user ≡ u = s.placed.user u x at in
      let pages : IsSamePages h h = record { pages = λ c hc. refl } in
      let others : (v : ℕ) (y : BlockChunk) → chunk_at l v ≡ Some y → v ≢ p.user → (y.place.block ≢ p.block) × (is_member (stack_of h y.place.class) y.place.block ≡ false) = λ v y e n.
      ((λ q. n (s.placed.apart v u y x e at q ∙ sym here)), s.placed.unstacked v y e) in
      let step : IsStep m' l (with_chunk l x') p.block = record {
        chunk = λ v y e. elim (chunk_at-with l x' v y e) [
          | inl a ↦ inr (subst (λ (z : BlockChunk). IsTagged m' z.place z.tag) a.1 own)
          | inr a ↦ inl (a.1, (others v y a.1 a.0).0)
        ];
      } in
      let old = s.placed.header u x at in
      record {
        whole = call.whole;
        limit = let e = call.limit in let f = s.served.limit in omega arith;
        placed = live-with h x' pages j (record { class = old.class; state = old.state; size = refl; offset = old.offset }) (s.placed.unstacked u x at) others;
        tagged = keeps-with-chunk-tag m m' h h l (with_chunk l x') (with_size p size) x.tag s.stacked s.placed s.tagged j (live_half u x at) call pages step;
      }
