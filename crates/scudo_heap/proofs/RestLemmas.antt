-- What the heap's changes of one block leave: how many pages are left, the tag mode, the attributes.
use Rattle.std.proofs.Common.{◌≡◌, ℕ, ◌-◌, cond, nat_lt, Bool, true, false, List, refl, ◌∙◌}
use Rattle.std.specs.Int.{to_le_bytes, w64}
use Rattle.mte_tags.specs.Memory.{Memory, pages_left, attrs_at, with_granules}
use Rattle.mte_tags.specs.Accesses.{with_bytes_at}
use Rattle.mte_tags.proofs.PageLaws.{pages_left-with-bytes-at, pages_left-with_granules, attrs_at-with-bytes-at, attrs_at-with_granules}
use Rattle.mte_tags.proofs.StateLaws.{state-with-bytes-at, state-with_granules}
use Rattle.scudo_header.specs.Headers.{packed_header}
use Rattle.scudo_header.specs.declared.headers.Header.{Header}
use Rattle.scudo_heap.specs.declared.chunk.Place.{Place}
use Rattle.scudo_heap.specs.Chunks.{end_of, block_end, granules_of, with_chunk_tag, with_end_tag_0, with_header_tag_0, after_retag_tail, with_size, with_header}
use Rattle.mte_tags.specs.Memory.{tag_at}

pub record IsSameRest (m m' : Memory) : Type 0 where
  pub left : pages_left m' ≡ pages_left m
  pub state : m'.state ≡ m.state
  pub attrs : (q : ℕ) → attrs_at m' q ≡ attrs_at m q

pub rest-on : (a b c : Memory) → IsSameRest a b → IsSameRest b c → IsSameRest a c
rest-on a b c h k = record { left = k.left ∙ h.left; state = k.state ∙ h.state; attrs = λ q. k.attrs q ∙ h.attrs q }

pub rest-with-bytes-at : (m : Memory) (a : ℕ) (bs : List ℕ) → IsSameRest m (with_bytes_at m a bs)
rest-with-bytes-at m a bs = record { left = pages_left-with-bytes-at m a bs; state = state-with-bytes-at m a bs; attrs = attrs_at-with-bytes-at m a bs }

rest-granules : (m : Memory) (a n t : ℕ) (z : Bool) → IsSameRest m (with_granules m a n t z)
rest-granules m a n t z = record { left = pages_left-with_granules n m a t z; state = state-with_granules n m a t z; attrs = attrs_at-with_granules n m a t z }

pub rest-with-header : (m : Memory) (cookie user : ℕ) (header : Header) → IsSameRest m (with_header m cookie user header)
unfolding with_header
rest-with-header m cookie user header = rest-with-bytes-at m (user - 16) (to_le_bytes w64 (packed_header cookie user header))

pub rest-with-chunk-tag : (m : Memory) (p : Place) (t : ℕ) → IsSameRest m (with_chunk_tag m p t)
unfolding with_chunk_tag
rest-with-chunk-tag m p t = rest-granules m p.user (granules_of p.size) t true

rest-self : (m : Memory) → IsSameRest m m
rest-self m = record { left = refl; state = refl; attrs = λ q. refl }

rest-if : (b : Bool) (m n o : Memory) → IsSameRest m n → IsSameRest m o → IsSameRest m (cond b n o)
rest-if true m n o h k = h
rest-if false m n o h k = k

pub rest-with-end-tag-0 : (m : Memory) (p : Place) → IsSameRest m (with_end_tag_0 m p)
unfolding with_end_tag_0
rest-with-end-tag-0 m p = rest-if (nat_lt (end_of p) (block_end p)) m _ _ (rest-granules m (end_of p) 1 0 false) (rest-self m)

pub rest-after-place : (m : Memory) (p : Place) (t cookie : ℕ) (header : Header) → IsSameRest m (with_header (with_end_tag_0 (with_header_tag_0 (with_chunk_tag m p t) p) p) cookie p.user header)
unfolding with_header_tag_0
rest-after-place m p t cookie header =
    rest-on m _ _ (rest-with-chunk-tag m p t)
    (rest-on (with_chunk_tag m p t) _ _ (rest-granules (with_chunk_tag m p t) (p.user - 16) 1 0 false)
    (rest-on (with_header_tag_0 (with_chunk_tag m p t) p) _ _ (rest-with-end-tag-0 (with_header_tag_0 (with_chunk_tag m p t) p) p)
    (rest-with-header (with_end_tag_0 (with_header_tag_0 (with_chunk_tag m p t) p) p) cookie p.user header)))

pub rest-after-retag-tail : (m : Memory) (p : Place) (size : ℕ) → IsSameRest m (after_retag_tail m p size)
unfolding after_retag_tail
rest-after-retag-tail m p size =
    rest-if (nat_lt (granules_of p.size) (granules_of size)) m _ _
    (rest-on m _ _ (rest-granules m (end_of p) (granules_of size - granules_of p.size) (tag_at m p.user) true) (rest-with-end-tag-0 _ (with_size p size)))
    (rest-granules m (end_of (with_size p size)) (granules_of p.size - granules_of size) 0 false)
