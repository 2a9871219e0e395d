-- A new chunk is live with its header, its bytes are zero, and its address is aligned.
use Rattle.std.proofs.Common.{◌≡◌, ℕ, zero, suc, ◌+◌, ◌-◌, ◌*◌, ◌/◌, ◌%◌, ◌^◌, ◌<◌, ◌≤◌, ◌==◌, ◌||◌, nat_lt, max, true, false, Some, Ok, refl, sym, ap, subst, ◌∙◌, arith}
use Rattle.std.proofs.lemmas.Bool.{cond-true, cond-false, eqb-true}
use Rattle.std.proofs.lemmas.List.{get_or-replicate}
use Rattle.std.proofs.lemmas.Nat.Gcd.{dvd_trans, dvd_of_mod-eq-zero, mod-eq-zero_of_dvd}
use Rattle.std.proofs.Math.Nat.{mul-mod_left}
use Rattle.std.specs.Cmp.{nat_cmp_total}
use Rattle.std.specs.FinMap.{get-insert}
use Rattle.std.specs.Int.{to_le_bytes, w64}
use Rattle.std.specs.List.{list_any, range_with_len}
use Rattle.a64_bits.specs.Addresses.{plain}
use Rattle.common.specs.declared.limits.TheConstants.{PAGE_SIZE}
use Rattle.mte_tags.specs.Memory.{Memory, byte_at, byte_cases, with_granules, with_new_pages, new_page}
use Rattle.mte_tags.specs.Accesses.{read_bytes}
use Rattle.mte_tags.specs.RandomTags.{after_draw}
use Rattle.mte_tags.specs.declared.attrs.Attrs.{Attrs}
use Rattle.mte_tags.proofs.ByteLaws.{read_bytes-with-bytes-at, byte_at-written_other}
use Rattle.mte_tags.proofs.PageLaws.{page_at-with_new_pages_in}
use Rattle.mte_tags.proofs.Pages.{tied_same}
use Rattle.mte_tags.proofs.TagLaws.{byte_at-with_granules_kept, byte_at-with_granules_zero}
use Rattle.mte_tags.proofs.Whole.{whole-with_new_pages}
use Rattle.scudo_header.specs.Headers.{packed_header}
use Rattle.scudo_header.specs.declared.headers.Origin.{Origin}
use Rattle.scudo_header.specs.declared.headers.Origin.TheVariants as origin
use Rattle.scudo_header.proofs.ClassLemmas.{all_below, below-true}
use Rattle.scudo_heap.specs.declared.chunk.Chunk.{Chunk}
use Rattle.scudo_heap.specs.declared.chunk.Chunk.TheVariants.{Small, Large}
use Rattle.scudo_heap.specs.declared.chunk.Place.{Place}
use Rattle.scudo_heap.specs.Inner.{IsAlign, IsOpen}
use Rattle.scudo_heap.specs.Stacks.{StackState}
use Rattle.scudo_heap.specs.Chunks.{end_of, block_end, granules_of, excluded_tags, with_chunk_tag, with_header_tag_0, with_end_tag_0, with_header}
use Rattle.scudo_heap.specs.Placing.{World, heap_attrs, new_header, after_place}
use Rattle.scudo_heap.specs.Large.{mapping_for, large_header, large_placed}
use Rattle.scudo_heap.specs.Allocation.{AllocationResult, no_chunk, is_alignment, after_allocate, after_malloc, after_calloc, after_memalign}
use Rattle.scudo_heap.specs.Freeing.{usable_size_of}
use Rattle.scudo_heap.specs.Checks.{usable_size_cases}
use Rattle.scudo_heap.specs.Realloc.{user_of_chunk}
use Rattle.scudo_heap.specs.Calls.{after_call}
use Rattle.scudo_heap.proofs.AllocationLemmas.{power-align}
use Rattle.scudo_heap.proofs.OpenLemmas.{open-mapped}
use Rattle.scudo_heap.proofs.ServedLemmas.{places-of, pages-free, pages-open}
use Rattle.mte_laws.specs.LiveChunks.{BlockChunk, LiveBlocks, IsPlace, new_chunk}
use Rattle.mte_laws.specs.LivePages.{PageChunk, LivePages, large_at, with_large, new_large}
use Rattle.mte_laws.specs.CarefulRuns.{State, Live, HasHeader, with_made_chunk, state_after_call, IsLiveBlock, IsLiveLarge}
use Rattle.mte_laws.specs.SoundHeaps.{Sound}
use Rattle.mte_laws.proofs.Views.{SoundBlocks}
use Rattle.mte_laws.proofs.Draws.{IsFresh}
use Rattle.mte_laws.proofs.BlockCalls.{fenced, fenced-both, block-open}
use Rattle.mte_laws.proofs.BlockSteps.{at-with}
use Rattle.mte_laws.proofs.SoundAllocations.{IsSoundIn, branch, fresh_in}
use Rattle.mte_laws.proofs.MadeLarges.{at, large}
use Rattle.mte_laws.proofs.FoundStates.{large-named}
use Rattle.mte_laws.proofs.Larges.{check-pointer-of}
use Rattle.mte_laws.proofs.Freeings.{named, not-null}
use Rattle.mte_laws.proofs.Disciplines.{not-zero}
use Rattle.mte_laws.specs.NewChunks.{HasNewChunk, NewChunksAreLive, IsZero, NewChunksAreZero, SizesAndAlignments}
use Rattle.mte_laws.proofs.Allocations.{IsReadyIn, IsNext, IsMappable, each-allocation}

-- the header of a new chunk is there
abbrev pub HasNewHeader : World → Origin → Chunk → Type 0
HasNewHeader w o (Small p tag) = HasHeader w p.user (new_header o p)
HasNewHeader w o (Large m size) = HasHeader w m.user (large_header o m size)

-- a new chunk as the heap writes it
pub record IsWritten (w : World) (o : Origin) (align : ℕ) (x : Chunk) : Type 0 where
  pub header : HasNewHeader w o x
  pub zero : IsZero w.memory x
  pub multiple : user_of_chunk x % align ≡ 0

-- ---- in a block

header-written : (m : Memory) (h : StackState) (l : LiveBlocks) (s : SoundBlocks m h l) (cookie : ℕ) (p : Place) (o : Origin) (t : ℕ) → IsFresh m p t → IsPlace h p
    → read_bytes (with_header (fenced m p t) cookie p.user (new_header o p)) (p.user - 16) 8 ≡ to_le_bytes w64 (packed_header cookie p.user (new_header o p))
unfolding with_header
header-written m h l s cookie p o t fresh i =
    let bytes = to_le_bytes w64 (packed_header cookie p.user (new_header o p)) in
    let both = fenced-both m h p t s.stacked s.served i fresh.some s.tagged.outside in
    let around = block-open m h p s.stacked s.served i in
    let above = i.above in
    let within = i.within in
    let below = around.below in
    let opened : IsOpen (fenced m p t) (p.user - 16) (p.user - 16 + 8) = record { pages = λ a x y. both.0.attrs (a / 4096) ∙ around.at a (omega arith) (omega arith); below = omega arith } in
    read_bytes-with-bytes-at (fenced m p t) (p.user - 16) bytes (omega arith) (open-mapped (fenced m p t) (p.user - 16) 8 8 refl opened) both.0.whole

header-placed : (w : World) (l : LiveBlocks) (o : Origin) (p : Place) → IsSoundIn w l → IsPlace w.heap.stacks p → HasHeader (after_place w o p) p.user (new_header o p)
unfolding after_place
header-placed w l o p s i = header-written w.memory w.heap.stacks l s w.heap.cookie p o (after_draw w.rgsr (excluded_tags w.memory p)).tag (fresh_in w l p s i) i

zero-placed : (w : World) (l : LiveBlocks) (o : Origin) (p : Place) → IsSoundIn w l → IsPlace w.heap.stacks p → (a : ℕ) → p.user ≤ a → a < end_of p → byte_at (after_place w o p).memory a ≡ 0
unfolding after_place with_header with_end_tag_0 with_header_tag_0 with_chunk_tag
zero-placed w l o p s i a low high =
    let t = (after_draw w.rgsr (excluded_tags w.memory p)).tag in
    let bytes = to_le_bytes w64 (packed_header w.heap.cookie p.user (new_header o p)) in
    let m1 = with_chunk_tag w.memory p t in
    let m2 = with_header_tag_0 m1 p in
    let m3 = with_end_tag_0 m2 p in
    let around = block-open w.memory w.heap.stacks p s.stacked s.served i in
    let above = i.above in
    let within = i.within in
    let below = around.below in
    let al = i.aligned in
    byte_at-written_other m3 (p.user - 16) bytes a (λ j k q. omega arith)
    ∙ branch (λ k. byte_at k a ≡ byte_at m2 a) (nat_lt (end_of p) (block_end p)) (with_granules m2 (end_of p) 1 0 false) m2 (λ _. byte_at-with_granules_kept 1 m2 (end_of p) 0 a) (λ _. refl)
    ∙ byte_at-with_granules_kept 1 m1 (p.user - 16) 0 a
    ∙ byte_at-with_granules_zero (granules_of p.size) w.memory p.user t a ((a - p.user) / 16) (omega arith) (omega arith) (omega arith) s.served.whole

block-written : (s : State) (v : World) (o : Origin) (a : ℕ) (p : Place) → IsReadyIn s v → IsNext v a p → IsWritten (after_place v o p) o a (Small p (after_place v o p).rgsr.tag)
block-written s v o a p r i = record {
  header = header-placed v s.live.blocks o p r.sound i.place;
  zero = λ addr low high. zero-placed v s.live.blocks o p r.sound i.place addr low high;
  multiple = i.multiple;
}

-- ---- in pages of its own

new-page-byte : (m : Memory) (q n a : ℕ) (x : Attrs) → q ≤ a / 4096 → a / 4096 < q + n → byte_at (with_new_pages m q n x) a ≡ 0
unfolding byte_at new_page
new-page-byte m q n a x low high = ap (λ p. byte_cases p (a % 4096)) (page_at-with_new_pages_in n m q x (a / 4096) low high) ∙ get_or-replicate 4096 (a % 4096) 0 0 (omega arith)

pages-written : (s : State) (o : Origin) (a size n start : ℕ) → Sound s → IsAlign a → IsMappable s a size n start → IsWritten (large_placed s.world o (mapping_for start n a size) size) o a (Large (mapping_for start n a size) size)
unfolding large_placed with_header
pages-written s o a size n start k al g =
    let w = s.world in
    let m = mapping_for start n a size in
    let there = at o s a size n start k al g.some g.small g.few g.need g.place g.left in
    let fits = large o s a size n start k al g.some g.small g.few g.need g.place g.left in
    let aligned = there.aligned in
    let above = there.above in
    let end = there.below in
    let first_byte = fits.above in
    let last_byte = fits.below in
    let first = with_new_pages w.memory (start / PAGE_SIZE) n heap_attrs in
    let bytes = to_le_bytes w64 (packed_header w.heap.cookie m.user (large_header o m size)) in
    let free = pages-free w.memory w.heap.maps n start (places-of w.memory w.heap k.heap.owned) there in
    let whole = whole-with_new_pages n w.memory (start / PAGE_SIZE) heap_attrs free g.left k.whole in
    let opened = pages-open w.memory n start (m.user - 16) (m.user - 16 + 8) aligned (omega arith) (omega arith) (omega arith) in
    record {
      header = read_bytes-with-bytes-at first (m.user - 16) bytes (omega arith) (open-mapped first (m.user - 16) 8 8 refl opened) whole;
      zero = λ addr low high.
          byte_at-written_other first (m.user - 16) bytes addr (λ j k q. omega arith)
          ∙ new-page-byte w.memory (start / PAGE_SIZE) n addr heap_attrs (omega arith) (omega arith);
      multiple = mul-mod_left ((start + PAGE_SIZE * n - size) / a) a;
    }

-- ---- the calls

some-is : (x y : Chunk) → Some x ≡ Some y → x ≡ y
some-is x y e = cc

abbrev pub IsMadeWritten : Origin → ℕ → AllocationResult → Type 0
IsMadeWritten o align r = (x : Chunk) → r.chunk ≡ Some x → IsWritten r.world o align x

pub allocate-written : (o : Origin) (s : State) (a size : ℕ) → Sound s → IsAlign a → IsMadeWritten o a (after_allocate s.world o a size)
allocate-written o s a size k al =
    each-allocation (IsMadeWritten o a) o s a k al
    (λ x e. cc)
    (λ v p r i. λ x e. subst (IsWritten (after_place v o p) o a) (some-is (Small p (after_place v o p).rgsr.tag) x e) (block-written s v o a p r i))
    (λ z n start g. λ x e. subst (IsWritten (large_placed s.world o (mapping_for start n a z) z) o a) (some-is (Large (mapping_for start n a z) z) x e) (pages-written s o a z n start k al g))
    size

pub least-align : IsAlign 16
least-align = record { least = omega arith; most = omega arith; multiple = refl }

pub malloc-written : (s : State) (size : ℕ) → Sound s → IsMadeWritten origin.Malloc 16 (after_malloc s.world size)
unfolding after_malloc
malloc-written s size k = allocate-written origin.Malloc s 16 size k least-align

pub calloc-written : (s : State) (count size : ℕ) → Sound s → IsMadeWritten origin.Malloc 16 (after_calloc s.world count size)
unfolding after_calloc
calloc-written s count size k = allocate-written origin.Malloc s 16 (count * size) k least-align

pub memalign-written : (s : State) (align size : ℕ) → Sound s → IsMadeWritten origin.Memalign (max align 16) (after_memalign s.world align size)
unfolding after_memalign
memalign-written s align size k =
    branch (IsMadeWritten origin.Memalign (max align 16)) (is_alignment align) (after_allocate s.world origin.Memalign (max align 16) size) (no_chunk s.world)
    (λ t. allocate-written origin.Memalign s (max align 16) size k (power-align align t))
    (λ t. λ x e. cc)

large-at-same : (g : LivePages) (x : PageChunk) → large_at (with_large g x) x.mapping.user ≡ Some x
unfolding large_at with_large
large-at-same g x = get-insert nat_cmp_total g x.mapping.user x x.mapping.user ∙ cond-true _ _ _ (tied_same x.mapping.user)

pub made-live : (o : Origin) (l : Live) (x : Chunk) (w : World) → HasNewHeader w o x → HasNewChunk (record { world = w; live = with_made_chunk o l (Some x) }) o x
made-live o l (Small p t) w h = record { live = at-with l.blocks (new_chunk o p t) p.user ∙ cond-true _ _ _ (tied_same p.user); header = h }
made-live o l (Large m size) w h = record { live = large-at-same l.pages (new_large o m size); header = h }

result-live : (o : Origin) (l : Live) (x : Chunk) (r : AllocationResult) → r.chunk ≡ Some x → HasNewHeader r.world o x → HasNewChunk (record { world = r.world; live = with_made_chunk o l r.chunk }) o x
result-live o l x r e h = subst (λ c. HasNewChunk (record { world = r.world; live = with_made_chunk o l c }) o x) (sym e) (made-live o l x r.world h)

pub new-live : NewChunksAreLive
unfolding after_call state_after_call
new-live = record {
  malloc = λ s size x k e. result-live origin.Malloc s.live x (after_malloc s.world size) e (malloc-written s size k x e).header;
  calloc = λ s count size x k e. result-live origin.Malloc s.live x (after_calloc s.world count size) e (calloc-written s count size k x e).header;
  memalign = λ s align size x k e. result-live origin.Memalign s.live x (after_memalign s.world align size) e (memalign-written s align size k x e).header;
}

pub new-zero : NewChunksAreZero
unfolding after_call state_after_call
new-zero = record {
  malloc = λ s size x k e. (malloc-written s size k x e).zero;
  calloc = λ s count size x k e. (calloc-written s count size k x e).zero;
  memalign = λ s align size x k e. (memalign-written s align size k x e).zero;
}

-- ---- sizes and alignments

power_table : all_below (λ k. max (2 ^ k) 16 % 2 ^ k == 0) 13 ≡ true
power_table = refl

divides-at : (len a n : ℕ) → a + len ≤ 13 → list_any (λ k. n == 2 ^ k) (range_with_len a len) ≡ true → max n 16 % n ≡ 0
divides-at zero a n l e = cc
divides-at (suc len) a n l e = elim (n == 2 ^ a) as (λ b. (n == 2 ^ a) ≡ b → (b || list_any (λ k. n == 2 ^ k) (range_with_len (a + 1) len)) ≡ true → max n 16 % n ≡ 0) [
  | true ↦ λ t f. subst (λ k. max k 16 % k ≡ 0) (sym (eqb-true _ _ t)) (eqb-true _ _ (below-true 13 (λ k. max (2 ^ k) 16 % 2 ^ k == 0) power_table a (omega arith)))
  | false ↦ λ t f. divides-at len (a + 1) n (omega arith) f
] refl e

memalign-multiple : (s : State) (align size : ℕ) (x : Chunk) → Sound s → (after_memalign s.world align size).chunk ≡ Some x → user_of_chunk x % align ≡ 0
unfolding after_memalign
memalign-multiple s align size x k e =
    let u = user_of_chunk x in
    let m : u % max align 16 ≡ 0 = (memalign-written s align size k x e).multiple in
    branch (λ (r : AllocationResult). r.chunk ≡ Some x → u % align ≡ 0) (is_alignment align) (after_allocate s.world origin.Memalign (max align 16) size) (no_chunk s.world)
    (λ t f. mod-eq-zero_of_dvd align (dvd_trans align (dvd_of_mod-eq-zero align (divides-at 13 0 align (omega arith) t)) (dvd_of_mod-eq-zero (max align 16) m)))
    (λ t f. cc) e

block-size : (s : State) (pointer : ℕ) (x : BlockChunk) → Sound s → IsLiveBlock s (plain pointer) x → usable_size_of s.world.memory s.world.heap pointer ≡ Ok x.place.size
unfolding usable_size_of
block-size s pointer x k l =
    cond-false _ _ _ (not-null pointer (not-zero s pointer x k l)) ∙ ap usable_size_cases (named s pointer x k l).1

pages-size : (s : State) (pointer : ℕ) (x : PageChunk) → Sound s → IsLiveLarge s (plain pointer) x → usable_size_of s.world.memory s.world.heap pointer ≡ Ok x.size
unfolding usable_size_of
pages-size s pointer x k l =
    let u = plain pointer in
    let start = k.large.above u x l.live in
    let within = k.large.within u x l.live in
    let unused = (k.large.header u x l.live).unused in
    let user : x.mapping.user ≡ u = (check-pointer-of s.world.heap.maps.mappings u x.mapping k.heap.parts.mappings (k.large.place u x l.live)).user in
    cond-false _ _ _ (not-null pointer (λ z. omega arith)) ∙ ap usable_size_cases (large-named s pointer x k l) ∙ ap Ok (omega arith)

pub sizes-and-alignments : SizesAndAlignments
sizes-and-alignments = record {
  blocks = λ s u x k e.
      let user = k.placed.user u x e in
      let aligned = (k.placed.place u x e).aligned in
      omega arith;
  pages = λ s u x k e. k.large.aligned u x e;
  memalign = memalign-multiple;
  block_size = block-size;
  pages_size = pages-size;
}
