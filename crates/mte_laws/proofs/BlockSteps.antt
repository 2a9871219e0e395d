-- Careful runs keep the live chunks Sound, and what is freed as it is until an allocation takes its block.
use Rattle.std.proofs.Common.{◌≡◌, ◌≢◌, ℕ, ◌+◌, ◌/◌, ◌%◌, ◌<◌, ◌≤◌, ◌⊎◌, true, cond, Some, List, ◌∷◌, refl, sym, ap, subst, ◌∙◌, inl, inr, arith}
use Rattle.std.proofs.lemmas.Bool.{cases_eq, cases_lt}
use Rattle.std.specs.Ordering.{nat_cmp, eq_by_cmp}
use Rattle.std.specs.Cmp.{nat_cmp_total}
use Rattle.std.specs.FinMap.{get-insert}
use Rattle.mte_tags.specs.Memory.{Memory, pages_left, with_new_pages, without_pages, IsFree as AreFree, ArePages, tag_cases, tag_at, attrs_cases, attrs_at}
use Rattle.mte_tags.specs.declared.attrs.Attrs.{Attrs}
use Rattle.mte_tags.specs.Accesses.{with_bytes_at}
use Rattle.mte_tags.specs.Whole.{IsWhole}
use Rattle.mte_tags.proofs.Whole.{whole-with-bytes-at, whole-with_new_pages, unmapped}
use Rattle.mte_tags.proofs.PageLaws.{attrs_at-with-bytes-at, attrs_at-with_new_pages_out, limit-with_new_pages, page_at-without_pages_out, attrs_at-without_pages_in, page_at-no_attrs}
use Rattle.mte_tags.proofs.ByteLaws.{tag_at-with-bytes-at}
use Rattle.mte_tags.specs.RandomTags.{after_draw}
use Rattle.scudo_header.specs.declared.headers.Header.{Header}
use Rattle.scudo_primary.specs.Pools.{is_member}
use Rattle.scudo_header.specs.declared.headers.State.TheVariants.{Available}
use Rattle.scudo_primary.proofs.ListLemmas.{member-other}
use Rattle.mte_laws.proofs.Grows.{tag_at-with_new_pages, limit-without_pages}
use Rattle.scudo_heap.specs.Stacks.{StackState, stack_of, after_push}
use Rattle.scudo_heap.specs.declared.chunk.Place.{Place}
use Rattle.mte_laws.specs.LiveChunks.{IsPlace, IsHalfTag, BlockChunk, LiveBlocks, chunk_at, with_chunk, without_chunk, IsCarved}
use Rattle.scudo_heap.specs.Placing.{World, after_give_back, after_resize}
use Rattle.scudo_heap.specs.Chunks.{with_size, end_of, excluded_tags, with_header, with_chunk_tag, after_retag_tail}
use Rattle.mte_laws.proofs.Views.{IsStacked, SoundBlocks, TaggedBlocks}
use Rattle.mte_laws.proofs.Freed.{Freed, IsStale}
use Rattle.mte_laws.proofs.Blocks.{block-in, same-class}
use Rattle.mte_laws.proofs.BlockCalls.{room}
use Rattle.mte_laws.proofs.Draws.{after-draw-fresh}
use Rattle.mte_tags.proofs.StateLaws.{limit-with-bytes-at}
use Rattle.scudo_heap.proofs.SoundLemmas.{stack-own, stack-other}
use Rattle.mte_laws.proofs.BlockSounds.{present, given_back_call, given_back_sound, resized_call, resized_sound, resized_chunk}
use Rattle.mte_laws.proofs.Stales.{stale-call, stale-after-give-back}
use Rattle.mte_laws.proofs.SoundAllocations.{IsSoundIn, IsKept}
use Rattle.common.specs.declared.ranges.TheConstants.{SECONDARY_START, SECONDARY_END}

-- ---- memories that differ in no tag and no attributes below the chunks with pages of their own, and there get no tag but 0

pub record IsSameTags (m m' : Memory) : Type 0 where
  pub limit : m'.limit ≡ m.limit
  pub attrs : (a : ℕ) → a < SECONDARY_START + 16 → attrs_at m' (a / 4096) ≡ attrs_at m (a / 4096)
  pub tags : (a : ℕ) → a < SECONDARY_START + 16 → tag_at m' a ≡ tag_at m a
  pub high : (a : ℕ) → a < SECONDARY_END → (tag_at m' a ≡ tag_at m a) ⊎ (tag_at m' a ≡ 0)
  pub whole : IsWhole m'

pub same-with-bytes-at : (m : Memory) (a : ℕ) (bs : List ℕ) → IsWhole m → IsSameTags m (with_bytes_at m a bs)
same-with-bytes-at m a bs w = record { limit = limit-with-bytes-at m a bs; attrs = λ x l. attrs_at-with-bytes-at m a bs (x / 4096); tags = λ x l. tag_at-with-bytes-at m a bs x; high = λ x l. inl (tag_at-with-bytes-at m a bs x); whole = whole-with-bytes-at m a bs w }

-- a place and the granules beside it lie below
below : (m : Memory) (h : StackState) (p : Place) (a : ℕ) → IsStacked h → IsPlace h p → a < end_of p + 16 → a < SECONDARY_START + 16
below m h p a k i l =
    let r = room h p k i in
    let b = r.block in
    let within = b.within in
    let few = b.few in
    let high = b.high in
    let rw = r.within in
    omega arith

pub same-tags-then : (a b c : Memory) → IsSameTags a b → IsSameTags b c → IsSameTags a c
same-tags-then a b c h k = record {
  limit = k.limit ∙ h.limit;
  attrs = λ x l. k.attrs x l ∙ h.attrs x l;
  tags = λ x l. k.tags x l ∙ h.tags x l;
  high = λ x l. elim (k.high x l) [
    | inl e ↦ elim (h.high x l) [ inl f ↦ inl (e ∙ f) | inr f ↦ inr (e ∙ f) ]
    | inr e ↦ inr e
  ];
  whole = k.whole;
}

pub same-tags_sound : (m m' : Memory) (h : StackState) (l : LiveBlocks) → IsSameTags m m' → SoundBlocks m h l → TaggedBlocks m' h l
same-tags_sound m m' h l e s = record {
  whole = e.whole;
  limit = let f = s.served.limit in let g = e.limit in omega arith;
  placed = s.placed;
  tagged = record {
    chunks = λ u x g.
        let o = s.tagged.chunks u x g in
        let i = s.placed.place u x g in
        record {
          some = o.some;
          inside = λ a v w. e.tags a (below m h x.place a s.stacked i (omega arith)) ∙ o.inside a v w;
          before = λ a v w. e.tags a (below m h x.place a s.stacked i (omega arith)) ∙ o.before a v w;
          after = λ a v w. e.tags a (below m h x.place a s.stacked i w) ∙ o.after a v w;
        };
    halves = λ c b a k x y. subst (λ t. (t ≡ 0) ⊎ IsHalfTag c b t) (sym (e.tags a (let i = block-in h c b s.stacked k in let iw = i.within in let few = i.few in let high = i.high in omega arith))) (s.tagged.halves c b a k x y);
    outside = λ a x y o. elim (e.high a y) [ inl f ↦ f ∙ s.tagged.outside a x y o | inr f ↦ f ];
  };
}

pub same-tags_stale : (m m' : Memory) (h : StackState) (f : Freed) → IsStacked h → IsSameTags m m' → IsStale m h f → IsStale m' h f
same-tags_stale m m' h f k e st = record { place = st.place; stacked = st.stacked; inside = λ a l u. e.tags a (below m h f.place a k st.place (omega arith)) ∙ st.inside a l u; other = st.other }

pub at-with : (l : LiveBlocks) (x : BlockChunk) (u : ℕ) → chunk_at (with_chunk l x) u ≡ cond (eq_by_cmp nat_cmp u x.place.user) (Some x) (chunk_at l u)
unfolding chunk_at with_chunk
at-with l x u = get-insert nat_cmp_total l x.place.user x u

-- ---- free

-- a live chunk's block is not free
pub stale-other : (w : World) (l : LiveBlocks) (f : Freed) (u : ℕ) (x : BlockChunk) → IsSoundIn w l → IsStale w.memory w.heap.stacks f → chunk_at l u ≡ Some x → f.place.block ≢ x.place.block
stale-other w l f u x s st e = λ q.
    let i = s.placed.place u x e in
    let c : f.place.class ≡ x.place.class = same-class w.heap.stacks f.place.class x.place.class x.place.block s.stacked (subst (IsCarved w.heap.stacks f.place.class) q st.place.carved) i.carved in
    let on : is_member (stack_of w.heap.stacks x.place.class) x.place.block ≡ true = sym (ap (λ t. is_member (stack_of w.heap.stacks t) x.place.block) c) ∙ sym (ap (is_member (stack_of w.heap.stacks f.place.class)) q) ∙ st.stacked in
    let off = s.placed.unstacked u x e in
    cc

pub after-give-back-kept : (w : World) (l : LiveBlocks) (x : BlockChunk) (header : Header) → IsSoundIn w l → chunk_at l x.place.user ≡ Some x → IsKept w (after_give_back w x.place header) (without_chunk l x.place.user)
unfolding after_give_back after_push
after-give-back-kept w l x header s e =
    let i = s.placed.place x.place.user x e in
    let t = (after_draw w.rgsr (excluded_tags w.memory x.place)).tag in
    let m' = with_header (with_chunk_tag w.memory x.place t) w.heap.cookie x.place.user (record header { state = Available }) in
    record {
      sound = given_back_sound w.memory w.heap.stacks l s w.heap.cookie x.place.user x _ t e (after-draw-fresh w.memory x.place w.rgsr (present w.memory w.heap.stacks l s x.place i));
      stale = λ f st on. stale-after-give-back w.memory m' w.heap.stacks x.place t f s.stacked i (given_back_call w.memory w.heap.stacks l s w.heap.cookie x.place _ t i) (stale-other w l f x.place.user x s st e) st;
    }

-- ---- realloc

pub after-resize-kept : (w : World) (l : LiveBlocks) (size : ℕ) (x : BlockChunk) → IsSoundIn w l → chunk_at l x.place.user ≡ Some x → IsPlace w.heap.stacks (with_size x.place size) → IsKept w (after_resize w x.place x.header size) (with_chunk l (resized_chunk x size))
unfolding after_resize
after-resize-kept w l size x s e j =
    let m' = with_header (after_retag_tail w.memory x.place size) w.heap.cookie x.place.user (record (x.header) { size_or_unused_bytes = size }) in
    record {
      sound = resized_sound w.memory w.heap.stacks l s w.heap.cookie x.place.user size x e j;
      stale = λ f st on. stale-call w.memory m' w.heap.stacks w.heap.stacks (with_size x.place size) x.tag f s.stacked j (resized_call w.memory w.heap.stacks l s w.heap.cookie x.place.user size x _ e j) (record { pages = λ c hc. refl }) (stale-other w l f x.place.user x s st e) on st;
    }

-- a block that is free after another one was freed was free before
pub free-before : (w : World) (p : Place) (header : Header) (d b : ℕ) → b ≢ p.block → is_member (stack_of (after_give_back w p header).heap.stacks d) b ≡ true → is_member (stack_of w.heap.stacks d) b ≡ true
unfolding after_give_back after_push
free-before w p header d b n on = elim (cases_eq d p.class) [
  | inl q ↦ ap (λ t. is_member (stack_of w.heap.stacks t) b) q ∙ sym (member-other p.block (stack_of w.heap.stacks p.class) b n) ∙ sym (ap (λ xs. is_member xs b) (ap (stack_of (after_push w.heap.stacks p.class p.block)) q ∙ stack-own w.heap.stacks p.class (p.block ∷ stack_of w.heap.stacks p.class))) ∙ on
  | inr k ↦ sym (ap (λ xs. is_member xs b) (stack-other w.heap.stacks p.class d (p.block ∷ stack_of w.heap.stacks p.class) k)) ∙ on
]

-- ---- chunks with pages of their own: what maps and unmaps pages above changes nothing below

pub same-mapped : (m : Memory) (q n : ℕ) (x : Attrs) → IsWhole m → AreFree m q n → n ≤ pages_left m → SECONDARY_START / 4096 < q → IsSameTags m (with_new_pages m q n x)
same-mapped m q n x w f left low = record {
  limit = limit-with_new_pages n m q x;
  attrs = λ a l. attrs_at-with_new_pages_out n m q x (a / 4096) (λ u v. omega arith);
  tags = λ a l. tag_at-with_new_pages m q n a x f;
  high = λ a l. inl (tag_at-with_new_pages m q n a x f);
  whole = whole-with_new_pages n m q x f left w;
}

pub same-unmapped : (m : Memory) (q n : ℕ) → IsWhole m → ArePages m q n → SECONDARY_START / 4096 < q → IsSameTags m (without_pages m q n)
unfolding attrs_at tag_at
same-unmapped m q n w p low = record {
  limit = limit-without_pages n m q;
  attrs = λ a l. ap attrs_cases (page_at-without_pages_out n m q (a / 4096) (λ u v. omega arith));
  tags = λ a l. ap (λ o. tag_cases o (a % 4096 / 16)) (page_at-without_pages_out n m q (a / 4096) (λ u v. omega arith));
  high = λ a l. elim (cases_lt (a / 4096) q) [
    | inl u ↦ inl (ap (λ o. tag_cases o (a % 4096 / 16)) (page_at-without_pages_out n m q (a / 4096) (λ x y. omega arith)))
    | inr u ↦ elim (cases_lt (a / 4096) (q + n)) [
      | inl v ↦ inr (ap (λ o. tag_cases o (a % 4096 / 16)) (page_at-no_attrs (without_pages m q n) (a / 4096) (attrs_at-without_pages_in n m q (a / 4096) u v)))
      | inr v ↦ inl (ap (λ o. tag_cases o (a % 4096 / 16)) (page_at-without_pages_out n m q (a / 4096) (λ x y. omega arith)))
    ]
  ];
  whole = (unmapped n m q p w).0;
}
