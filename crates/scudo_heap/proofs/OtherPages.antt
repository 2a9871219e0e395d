-- The steps of the heap calls change only pages of a heap's ranges.
use Rattle.std.proofs.Common.{◌≡◌, ◌≢◌, ℕ, zero, suc, ◌+◌, ◌-◌, ◌*◌, ◌/◌, ◌%◌, ◌^◌, ◌<◌, ◌≤◌, nat_lt, Bool, true, false, cond, List, [], ◌∷◌, length, Option, Some, None, refl, ap, ◌∙◌, ◌⊎◌, inl, inr, arith}
use Rattle.std.proofs.lemmas.Bool.{cases_lt}
use Rattle.std.proofs.lemmas.Bool.Decides.{nat_tests}
use Rattle.std.specs.Int.{to_le_bytes, w64}
use Rattle.std.specs.List.{list_any}
use Rattle.a64_bits.specs.Addresses.{plain}
use Rattle.common.specs.declared.limits.TheConstants.{PAGE_SIZE}
use Rattle.mte_tags.specs.Memory.{Memory, Page, page_at, attrs_at, tag_at, with_byte_cases, with_byte, with_granule_cases, with_granule, with_granules, with_new_pages, without_pages}
use Rattle.mte_tags.specs.Accesses.{addresses, with_bytes, with_bytes_at}
use Rattle.mte_tags.specs.RandomTags.{after_draw}
use Rattle.mte_tags.specs.declared.attrs.Attrs.{Attrs}
use Rattle.mte_tags.proofs.Pages.{page_at-with_page_other}
use Rattle.mte_tags.proofs.PageLaws.{page_at-with_new_pages_out, page_at-without_pages_out}
use Rattle.scudo_header.specs.Classes.{size_of}
use Rattle.scudo_header.specs.Regions.{region_of}
use Rattle.scudo_header.specs.Headers.{packed_header}
use Rattle.scudo_header.specs.declared.headers.Header.{Header}
use Rattle.scudo_header.specs.declared.headers.Origin.{Origin}
use Rattle.scudo_header.specs.declared.headers.State.TheVariants.{Available}
use Rattle.scudo_primary.specs.Blocks.{IsBlock}
use Rattle.scudo_primary.specs.Blocks.{IsClass}
use Rattle.scudo_primary.proofs.BlockLemmas.{block-whole}
use Rattle.scudo_heap.specs.declared.chunk.Place.{Place}
use Rattle.scudo_heap.specs.Stacks.{pages_of}
use Rattle.scudo_heap.specs.Heaps.{HeapState}
use Rattle.scudo_heap.specs.Chunks.{granules_of, end_of, block_end, with_size, excluded_tags, with_chunk_tag, with_end_tag_0, with_header_tag_0, after_retag_tail, with_header}
use Rattle.scudo_heap.specs.Placing.{World, new_header, after_place, after_give_back, after_resize}
use Rattle.scudo_heap.specs.Allocation.{place_in, need_of}
use Rattle.scudo_heap.specs.Served.{HeapOwnsItsPages, heap_page, is_inside}
use Rattle.scudo_heap.specs.Inner.{IsAlign}
use Rattle.scudo_heap.specs.Others.{KeepsOthers}
use Rattle.scudo_heap.proofs.ClassLemmas.{fits-in, user-above}

pub branch : {A : Type 0} (P : A → Type 0) (b : Bool) (x y : A) → (b ≡ true → P x) → (b ≡ false → P y) → P (cond b x y)
branch P true x y f g = f refl
branch P false x y f g = g refl

pub same : (m : Memory) → KeepsOthers m m
same m = λ q o. refl

pub after : (a b c : Memory) → KeepsOthers a b → KeepsOthers b c → KeepsOthers a c
after a b c h k = λ q o. k q o ∙ h q o

-- ---- bytes, tags and pages of the ranges

byte_in_place : (m : Memory) (q o b r : ℕ) (p : Option Page) → r ≢ q → page_at (with_byte_cases m q o b p) r ≡ page_at m r
byte_in_place m q o b r None n = refl
byte_in_place m q o b r (Some p) n = page_at-with_page_other m q _ r n

byte_others : (m : Memory) (a b : ℕ) → 285212672 ≤ a → a < 1056964608 → KeepsOthers m (with_byte m a b)
unfolding with_byte
byte_others m a b l h = λ q o. byte_in_place m (a / 4096) (a % 4096) b q (page_at m (a / 4096)) (λ e. o (omega arith) (omega arith))

bytes_others : (k : ℕ) (m : Memory) (a : ℕ) (bs : List ℕ) → 285212672 ≤ a → a + k ≤ 1056964608 → KeepsOthers m (with_bytes m (addresses a k) bs)
unfolding with_bytes addresses
bytes_others zero m a bs l h = same m
bytes_others (suc zero) m a (b ∷ bs) l h = byte_others m a b l (omega arith)
bytes_others (suc (suc k)) m a (b ∷ bs) l h =
    after m (with_byte m a b) _ (byte_others m a b l (omega arith))
    (bytes_others (suc k) (with_byte m a b) ((a + 1) % 2 ^ 56) bs (omega arith) (omega arith))
bytes_others (suc k) m a [] l h = same m

pub written_others : (m : Memory) (a : ℕ) (bs : List ℕ) → 285212672 ≤ a → a + length bs ≤ 1056964608 → KeepsOthers m (with_bytes_at m a bs)
unfolding with_bytes_at
written_others m a bs l h = bytes_others (length bs) m (plain a) bs (omega arith) (omega arith)

word_length : (v : ℕ) → length (to_le_bytes w64 v) ≡ 8
word_length v = refl

pub headed_others : (m : Memory) (cookie user : ℕ) (header : Header) → 285212688 ≤ user → user < 1056964608 → KeepsOthers m (with_header m cookie user header)
unfolding with_header
headed_others m cookie user header l h =
    let n = word_length (packed_header cookie user header) in
    written_others m (user - 16) (to_le_bytes w64 (packed_header cookie user header)) (omega arith) (omega arith)

granule_in_place : (m : Memory) (q g t r : ℕ) (z : Bool) (p : Option Page) → r ≢ q → page_at (with_granule_cases m q g t z p) r ≡ page_at m r
granule_in_place m q g t r z None n = refl
granule_in_place m q g t r z (Some p) n = page_at-with_page_other m q _ r n

granule_others : (m : Memory) (a t : ℕ) (z : Bool) → 285212672 ≤ a → a < 1056964608 → KeepsOthers m (with_granule m a t z)
unfolding with_granule
granule_others m a t z l h = λ q o. granule_in_place m (a / 4096) (a % 4096 / 16) t q z (page_at m (a / 4096)) (λ e. o (omega arith) (omega arith))

granules_others : (n : ℕ) (m : Memory) (a t : ℕ) (z : Bool) → 285212672 ≤ a → a + 16 * n ≤ 1056964608 → KeepsOthers m (with_granules m a n t z)
unfolding with_granules
granules_others zero m a t z l h = same m
granules_others (suc n) m a t z l h =
    after m (with_granule m a t z) _ (granule_others m a t z l (omega arith))
    (granules_others n (with_granule m a t z) ((a + 16) % 2 ^ 56) t z (omega arith) (omega arith))

pub new_others : (m : Memory) (q n : ℕ) (x : Attrs) → 69632 ≤ q → q + n ≤ 258048 → KeepsOthers m (with_new_pages m q n x)
new_others m q n x l h = λ r o. page_at-with_new_pages_out n m q x r (λ a b. o (omega arith) (omega arith))

pub gone_others : (m : Memory) (q n : ℕ) → 69632 ≤ q → q + n ≤ 258048 → KeepsOthers m (without_pages m q n)
gone_others m q n l h = λ r o. page_at-without_pages_out n m q r (λ a b. o (omega arith) (omega arith))

-- ---- a chunk of a size class

-- a place and the granules around it lie in the ranges, with the place's whole block
pub record IsHere (p : Place) : Type 0 where
  pub low : 285212688 ≤ p.user
  pub within : end_of p ≤ block_end p
  pub high : block_end p + 16 ≤ 1056964608

tagged_others : (m : Memory) (p : Place) (t : ℕ) → IsHere p → KeepsOthers m (with_chunk_tag m p t)
unfolding with_chunk_tag
tagged_others m p t k =
    let low = k.low in
    let within = k.within in
    let high = k.high in
    granules_others (granules_of p.size) m p.user t true (omega arith) (omega arith)

opened_others : (m : Memory) (p : Place) → IsHere p → KeepsOthers m (with_header_tag_0 m p)
unfolding with_header_tag_0
opened_others m p k =
    let low = k.low in
    let within = k.within in
    let high = k.high in
    granules_others 1 m (p.user - 16) 0 false (omega arith) (omega arith)

closed_others : (m : Memory) (p : Place) → 285212672 ≤ p.user → end_of p + 16 ≤ 1056964608 → KeepsOthers m (with_end_tag_0 m p)
unfolding with_end_tag_0
closed_others m p low high =
    branch (KeepsOthers m) (nat_lt (end_of p) (block_end p)) _ m
    (λ t. granules_others 1 m (end_of p) 0 false (omega arith) (omega arith))
    (λ t. same m)

head_others : (m : Memory) (p : Place) (cookie : ℕ) (header : Header) → IsHere p → KeepsOthers m (with_header m cookie p.user header)
head_others m p cookie header k =
    let low = k.low in
    let within = k.within in
    let high = k.high in
    headed_others m cookie p.user header low (omega arith)

pub placed_others : (w : World) (o : Origin) (p : Place) → IsHere p → KeepsOthers w.memory (after_place w o p).memory
unfolding after_place
placed_others w o p k =
    let low = k.low in
    let within = k.within in
    let high = k.high in
    let a = with_chunk_tag w.memory p (after_draw w.rgsr (excluded_tags w.memory p)).tag in
    let b = with_header_tag_0 a p in
    let c = with_end_tag_0 b p in
    after w.memory a _ (tagged_others w.memory p (after_draw w.rgsr (excluded_tags w.memory p)).tag k)
    (after a b _ (opened_others a p k)
    (after b c _ (closed_others b p (omega arith) (omega arith))
    (head_others c p w.heap.cookie (new_header o p) k)))

pub given_others : (w : World) (p : Place) (header : Header) → IsHere p → KeepsOthers w.memory (after_give_back w p header).memory
unfolding after_give_back
given_others w p header k =
    let a = with_chunk_tag w.memory p (after_draw w.rgsr (excluded_tags w.memory p)).tag in
    after w.memory a _ (tagged_others w.memory p (after_draw w.rgsr (excluded_tags w.memory p)).tag k)
    (head_others a p w.heap.cookie (record header { state = Available }) k)

refitted_others : (m : Memory) (p : Place) (size : ℕ) → IsHere p → end_of (with_size p size) ≤ block_end p → KeepsOthers m (after_retag_tail m p size)
unfolding after_retag_tail
refitted_others m p size k holds =
    let low = k.low in
    let within = k.within in
    let high = k.high in
    branch (KeepsOthers m) (nat_lt (granules_of p.size) (granules_of size)) _ _
    (λ t.
    let more : granules_of p.size < granules_of size = grind (arith, nat_tests) in
    let a = with_granules m (end_of p) (granules_of size - granules_of p.size) (tag_at m p.user) true in
    after m a _ (granules_others (granules_of size - granules_of p.size) m (end_of p) (tag_at m p.user) true (omega arith) (omega arith))
    (closed_others a (with_size p size) (omega arith) (omega arith)))
    (λ t.
    let less : granules_of size ≤ granules_of p.size = grind (arith, nat_tests) in
    granules_others (granules_of p.size - granules_of size) m (end_of (with_size p size)) 0 false (omega arith) (omega arith))

pub resized_others : (w : World) (p : Place) (header : Header) (size : ℕ) → IsHere p → end_of (with_size p size) ≤ block_end p → KeepsOthers w.memory (after_resize w p header size).memory
unfolding after_resize
resized_others w p header size k holds =
    let a = after_retag_tail w.memory p size in
    after w.memory a _ (refitted_others w.memory p size k holds)
    (head_others a p w.heap.cookie (record header { size_or_unused_bytes = size }) k)

-- where blocks lie
pub block-high : (c pages b : ℕ) → IsClass c → IsBlock c pages b → pages ≤ 8000 → (285212672 ≤ b) × (b + size_of c + 16 ≤ 1056964608)
block-high c pages b k h few =
    let w = block-whole c pages b k h in
    let inside = h.inside in
    let high = k.high in
    (omega arith, omega arith)

pub here-new : (c pages b a z : ℕ) → IsClass c → IsBlock c pages b → pages ≤ 8000 → IsAlign a → need_of a z ≤ size_of c → IsHere (place_in c b a z)
here-new c pages b a z k h few al need =
    let at = block-high c pages b k h few in
    let first = at.0 in
    let last = at.1 in
    let least = al.least in
    let above = user-above b a (omega arith) in
    let fits = fits-in c pages b a z k h al need in
    record { low = omega arith; within = fits.within; high = last }

-- ---- the pages of the ranges

page-either : (m : Memory) (q : ℕ) (b : Bool) → attrs_at m q ≡ heap_page b → (attrs_at m q ≡ None) ⊎ (attrs_at m q ≡ Some 11)
page-either m q true e = inr e
page-either m q false e = inl e

pub range_pages : (m : Memory) (h : HeapState) (q : ℕ) → HeapOwnsItsPages m h → 69632 ≤ q → q < 258048 → (attrs_at m q ≡ None) ⊎ (attrs_at m q ≡ Some 11)
range_pages m h q v l u = elim (cases_lt q 249856) [
  | inl b ↦
      let c = (q - 65536) / 4096 in
      let i = (q - 65536) % 4096 in
      let e : q ≡ region_of c / PAGE_SIZE + i = omega arith in
      page-either m q (nat_lt i (pages_of h.stacks c)) (ap (attrs_at m) e ∙ v.regions c i (omega arith) (omega arith) (omega arith))
  | inr b ↦
      let e : q ≡ 4096 * q / PAGE_SIZE = omega arith in
      page-either m q (list_any (is_inside (4096 * q)) h.maps.mappings) (ap (attrs_at m) e ∙ v.mappings (4096 * q) (omega arith) (omega arith))
]
