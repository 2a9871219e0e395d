-- What the heap calls leave: pages elsewhere as they were, and a heap that is sound with its memory.
use Rattle.std.proofs.Common.{◌≡◌, ◌≢◌, ℕ, ◌+◌, ◌*◌, ◌/◌, ◌%◌, ◌^◌, ◌<◌, ◌≤◌, ◌==◌, ◌&&◌, nat_le, min, max, true, false, List, [], ◌∷◌, Option, Some, None, Result, Ok, Err, refl, sym, ap, ◌∙◌, arith}
use Rattle.std.proofs.lemmas.Bool.Decides.{nat_tests}
use Rattle.a64_bits.specs.Addresses.{plain}
use Rattle.common.specs.declared.limits.TheConstants.{PAGE_SIZE}
use Rattle.mte_tags.specs.Memory.{Memory, pages_left, with_new_pages}
use Rattle.mte_tags.specs.Accesses.{read_bytes}
use Rattle.mte_tags.specs.RandomTags.{after_draw}
use Rattle.mte_tags.proofs.ByteLaws.{length-read_bytes}
use Rattle.scudo_header.specs.Classes.{size_of, class_for}
use Rattle.scudo_header.specs.declared.headers.Header.{Header}
use Rattle.scudo_header.specs.declared.headers.Origin.{Origin}
use Rattle.scudo_header.specs.declared.headers.Origin.TheVariants.{Malloc, Memalign}
use Rattle.scudo_header.specs.declared.headers.State.TheVariants.{Available}
use Rattle.scudo_primary.specs.Blocks.{IsBlock, IsClass}
use Rattle.scudo_primary.specs.Pools.{is_member}
use Rattle.scudo_primary.proofs.BlockLemmas.{size-IsSize}
use Rattle.scudo_secondary.specs.Mappings.{AreMappings, place_of, is_place}
use Rattle.scudo_secondary.specs.declared.mappings.Mapping.{Mapping}
use Rattle.scudo_heap.specs.declared.abort.HeapAbort.{HeapAbort}
use Rattle.scudo_header.specs.declared.config.TheConstants.{MAX_REQUEST}
use Rattle.scudo_heap.specs.declared.chunk.Place.{Place}
use Rattle.scudo_heap.specs.declared.chunk.Chunk.{Chunk}
use Rattle.scudo_heap.specs.declared.chunk.Found.{Found}
use Rattle.scudo_heap.specs.declared.chunk.Found.TheVariants.{InBlock, InPages}
use Rattle.scudo_heap.specs.Stacks.{ClassHeap, AreSound, pages_of, stack_of}
use Rattle.scudo_heap.specs.Heaps.{HeapState, with_more}
use Rattle.scudo_heap.specs.Chunks.{end_of, block_end, with_size, excluded_tags, with_chunk_tag, after_retag_tail}
use Rattle.scudo_heap.specs.Placing.{World, heap_attrs, more_pages, next_page, pages_for, after_grow, new_header, after_place, after_give_back, after_resize}
use Rattle.scudo_heap.specs.Large.{mapping_for, large_header, large_placed, large_given_back}
use Rattle.scudo_heap.specs.Allocation.{AllocationResult, no_chunk, place_in, is_empty, with_free_block, after_take, after_class_allocation, map_chunk_cases, after_large_allocation, nonzero_size, need_of, allocate_cases, after_allocate, after_malloc, after_calloc, after_memalign, is_alignment, allocation_of}
use Rattle.scudo_heap.specs.Checks.{size_found, check_pointer}
use Rattle.scudo_heap.specs.Freeing.{without_chunk, free_cases, free_of}
use Rattle.scudo_heap.specs.Realloc.{user_of, user_of_chunk, after_copy, with_copied_bytes, move_to_cases, after_move, after_resize_in_block, with_new_size, realloc_cases, reallocation_of, checked_realloc_cases, after_realloc}
use Rattle.scudo_heap.specs.Served.{HeapOwnsItsPages}
use Rattle.scudo_heap.specs.Inner.{IsAlign, IsFound, IsFoundBlock, IsLarge}
use Rattle.scudo_heap.specs.Others.{KeepsOthers}
use Rattle.scudo_heap.specs.Sound.{IsSound, IsSoundWorld}
use Rattle.scudo_heap.proofs.AllocationLemmas.{power-align}
use Rattle.scudo_heap.proofs.BesideLemmas.{is-with-free-block, class-enough, place-fits, empty-of, malloc-beside}
use Rattle.scudo_heap.proofs.CheckLemmas.{mapping-bounds}
use Rattle.scudo_heap.proofs.FoundLemmas.{check-pointer-is}
use Rattle.scudo_heap.proofs.LargeLemmas.{after_map_chunk, is-large}
use Rattle.scudo_heap.proofs.MapLemmas.{is-at, and-both}
use Rattle.scudo_heap.proofs.ServedLemmas.{class-after-carve, same-after-pop, same-after-push}
use Rattle.mte_tags.proofs.StateLaws.{state-with_new_pages, state-without_pages}
use Rattle.scudo_heap.proofs.FirstLemmas.{served-same}
use Rattle.scudo_heap.proofs.RestLemmas.{IsSameRest, rest-on, rest-with-bytes-at, rest-with-header, rest-with-chunk-tag, rest-after-place, rest-after-retag-tail}
use Rattle.scudo_heap.proofs.SoundLemmas.{sound-changed, sound-same, sound-after-pop, sound-after-push, sound-after-grow, sound-more, sound-less}
use Rattle.scudo_heap.proofs.OtherPages.{branch, same, after, IsHere, placed_others, given_others, resized_others, written_others, headed_others, new_others, gone_others, block-high, here-new}

-- ---- what a step leaves

-- the other pages and the tag mode as they were, and a sound world
pub record IsLeft (w r : World) : Type 0 where
  pub others : KeepsOthers w.memory r.memory
  pub state : r.memory.state ≡ w.memory.state
  pub sound : IsSoundWorld w → IsSoundWorld r

pub left-same : (w : World) → IsLeft w w
left-same w = record { others = same w.memory; state = refl; sound = λ v. v }

left-after : (a b c : World) → IsLeft a b → IsLeft b c → IsLeft a c
left-after a b c h k = record { others = after a.memory b.memory c.memory h.others k.others; state = k.state ∙ h.state; sound = λ v. k.sound (h.sound v) }

-- ---- a chunk of a size class

placed_left : (w : World) (o : Origin) (p : Place) → IsHere p → IsClass p.class → IsLeft w (after_place w o p)
unfolding after_place
placed_left w o p k c =
    let e = rest-after-place w.memory p (after_draw w.rgsr (excluded_tags w.memory p)).tag w.heap.cookie (new_header o p) in
    record {
      others = placed_others w o p k;
      state = e.state;
      sound = λ v. sound-changed w _ _ _ e (same-after-pop w.heap.stacks p.class) (sound-after-pop w.heap.stacks p.class c v.parts.stacks) v;
    }

pub given_rest : (w : World) (p : Place) (header : Header) → IsSameRest w.memory (after_give_back w p header).memory
unfolding after_give_back
given_rest w p header =
    let t = (after_draw w.rgsr (excluded_tags w.memory p)).tag in
    let a = with_chunk_tag w.memory p t in
    rest-on w.memory a _ (rest-with-chunk-tag w.memory p t) (rest-with-header a w.heap.cookie p.user (record header { state = Available }))

pub given_sound : (w : World) (p : Place) (header : Header) → IsClass p.class → IsBlock p.class (pages_of w.heap.stacks p.class) p.block → is_member (stack_of w.heap.stacks p.class) p.block ≡ false → IsSoundWorld w → IsSoundWorld (after_give_back w p header)
unfolding after_give_back
given_sound w p header k block off v = sound-changed w _ _ _ (given_rest w p header) (same-after-push w.heap.stacks p.class p.block) (sound-after-push w.heap.stacks p.class p.block k block off v.parts.stacks) v

given_left : (w : World) (p : Place) (header : Header) → IsHere p → (IsSoundWorld w → IsFoundBlock w.heap.stacks p header) → IsLeft w (after_give_back w p header)
given_left w p header k f = record {
  others = given_others w p header k;
  state = (given_rest w p header).state;
  sound = λ v.
      let found = f v in
      let q = found.place in
      given_sound w p header (record { low = q.low; high = q.high }) q.carved found.used v;
}

pub resized_rest : (w : World) (p : Place) (header : Header) (size : ℕ) → IsSameRest w.memory (after_resize w p header size).memory
unfolding after_resize
resized_rest w p header size =
    let a = after_retag_tail w.memory p size in
    rest-on w.memory a _ (rest-after-retag-tail w.memory p size) (rest-with-header a w.heap.cookie p.user (record header { size_or_unused_bytes = size }))

pub resized_sound : (w : World) (p : Place) (header : Header) (size : ℕ) → IsSoundWorld w → IsSoundWorld (after_resize w p header size)
unfolding after_resize
resized_sound w p header size v = let e = resized_rest w p header size in sound-same w _ v e.attrs e.left

resized_left : (w : World) (p : Place) (header : Header) (size : ℕ) → IsHere p → end_of (with_size p size) ≤ block_end p → IsLeft w (after_resize w p header size)
resized_left w p header size k holds = record { others = resized_others w p header size k holds; state = (resized_rest w p header size).state; sound = resized_sound w p header size }

-- ---- what an allocation leaves

-- a chunk for z bytes, if there is one, lies in the ranges
pub record IsMade (w : World) (z : ℕ) (d : AllocationResult) : Type 0 where
  pub left : IsLeft w d.world
  pub chunk : (x : Chunk) → d.chunk ≡ Some x → (285212672 ≤ user_of_chunk x) × (user_of_chunk x + z ≤ 1056964608)

no-chunk : (x : Chunk) → None ≡ Some x → ⊥
no-chunk x e = cc

some-of : (x y : Chunk) → Some x ≡ Some y → x ≡ y
some-of x y e = cc

not-made : (w : World) (z : ℕ) → IsMade w z (no_chunk w)
not-made w z = record { left = left-same w; chunk = λ x e. absurd (no-chunk x e) }

after-take-made : (w r : World) (o : Origin) (a z c : ℕ) (xs : List ℕ) → IsLeft w r → IsClass c → ((b : ℕ) (more : List ℕ) → xs ≡ b ∷ more → IsHere (place_in c b a z)) → IsMade w z (after_take w r o a z c xs)
after-take-made w r o a z c [] h class k = not-made w z
after-take-made w r o a z c (b ∷ more) h class k =
    let p = place_in c b a z in
    let here = k b more refl in
    let low = here.low in
    let within = here.within in
    let high = here.high in
    record {
      left = left-after w r _ h (placed_left r o p here class);
      chunk = λ x e.
          let u : p.user ≡ user_of_chunk x = ap user_of_chunk (some-of _ x e) in
          (omega arith, omega arith);
    }

pages-after-grow : (w : World) (c : ℕ) → pages_of (after_grow w c).heap.stacks c ≡ pages_of w.heap.stacks c + more_pages c
unfolding after_grow
pages-after-grow w c = ap (λ (k : ClassHeap). k.pages) (class-after-carve w.heap.stacks c (more_pages c))

record IsClassReady (w r : World) (c : ℕ) : Type 0 where
  left : IsLeft w r
  few : pages_of r.heap.stacks c ≤ 8000

after-grow-others : (w : World) (c : ℕ) → HeapOwnsItsPages w.memory w.heap → IsClass c → KeepsOthers w.memory (after_grow w c).memory
unfolding after_grow
after-grow-others w c v k =
    let few = v.few c k.low k.high in
    let high = k.high in
    let s = size-IsSize c k in
    let most = s.most in
    new_others w.memory (next_page w.heap.stacks c) (more_pages c) heap_attrs (omega arith) (omega arith)

after-grow-state : (w : World) (c : ℕ) → (after_grow w c).memory.state ≡ w.memory.state
unfolding after_grow
after-grow-state w c = state-with_new_pages (more_pages c) w.memory (next_page w.heap.stacks c) heap_attrs

class-with-free-block : (w : World) (c : ℕ) → HeapOwnsItsPages w.memory w.heap → IsClass c → IsClassReady w (with_free_block w c) c
unfolding with_free_block
class-with-free-block w c v k =
    let few = v.few c k.low k.high in
    let s = size-IsSize c k in
    let most = s.most in
    let grows = pages-after-grow w c in
    branch (λ r. IsClassReady w r c) (is_empty (stack_of w.heap.stacks c) && nat_le (more_pages c) (pages_left w.memory)) _ w
    (λ t.
    let b = and-both (is_empty (stack_of w.heap.stacks c)) (nat_le (more_pages c) (pages_left w.memory)) t in
    let enough = b.1 in
    record {
      left = record {
        others = after-grow-others w c v k;
        state = after-grow-state w c;
        sound = sound-after-grow w c k (empty-of (stack_of w.heap.stacks c) b.0) (grind (arith, nat_tests));
      };
      few = omega arith;
    })
    (λ t. record { left = left-same w; few = omega arith })

pub class-made : (w : World) (o : Origin) (a z c : ℕ) → HeapOwnsItsPages w.memory w.heap → AreSound w.heap.stacks → IsClass c → IsAlign a → need_of a z ≤ size_of c → IsMade w z (after_class_allocation w o a z c)
unfolding after_class_allocation
class-made w o a z c v s k al need =
    let r = with_free_block w c in
    let is = class-with-free-block w c v k in
    let top = is-with-free-block w c s k in
    after-take-made w r o a z c (stack_of r.heap.stacks c) is.left k
    (λ b more e. here-new c (pages_of r.heap.stacks c) b a z k (top.top b more e) is.few al need)

after-place-large : (w : World) (o : Origin) (m : Mapping) (size : ℕ) → m.start % 4096 ≡ 0 → 1023414272 ≤ m.start → m.start + 4096 * m.pages ≤ 1056964608 → m.start + 16 ≤ m.user → m.user < m.start + 4096 * m.pages → KeepsOthers w.memory (large_placed w o m size).memory
unfolding large_placed
after-place-large w o m size even low high first last =
    let a = with_new_pages w.memory (m.start / PAGE_SIZE) m.pages heap_attrs in
    after w.memory a _ (new_others w.memory (m.start / PAGE_SIZE) m.pages heap_attrs (omega arith) (omega arith))
    (headed_others a w.heap.cookie m.user (large_header o m size) (omega arith) (omega arith))

pub large_left : (w : World) (o : Origin) (m : Mapping) (size : ℕ) → is_place w.heap.maps.mappings m.pages m.start ≡ true → IsLarge m size → m.pages ≤ pages_left w.memory → IsLeft w (large_placed w o m size)
unfolding large_placed
large_left w o m size place large enough =
    let at = is-at w.heap.maps.mappings m.pages m.start place in
    let even = at.aligned in
    let high = at.above in
    let last = at.below in
    let above = large.above in
    let below = large.below in
    let a = with_new_pages w.memory (m.start / PAGE_SIZE) m.pages heap_attrs in
    let e = rest-with-header a w.heap.cookie m.user (large_header o m size) in
    let mid : World = record w { memory = a; heap = record w.heap { maps = with_more w.heap.maps m } } in
    record {
      others = after-place-large w o m size even (omega arith) (omega arith) above below;
      state = e.state ∙ state-with_new_pages m.pages w.memory (m.start / PAGE_SIZE) heap_attrs;
      sound = λ v. sound-same mid _ (sound-more w m size place large enough v) e.attrs e.left;
    }

mapped-made : (w : World) (o : Origin) (a z n : ℕ) (p : Option ℕ) → place_of w.heap.maps.mappings n ≡ p → IsAlign a → 0 < z → z ≤ 2 ^ 20 → n ≤ 4096 → need_of a z ≤ PAGE_SIZE * n → IsMade w z (map_chunk_cases w o a z n p)
mapped-made w o a z n None e al some small few need = not-made w z
mapped-made w o a z n (Some start) e al some small few need =
    let m = mapping_for start n a z in
    let place = place-fits w.heap.maps.mappings n start e in
    let at = is-at w.heap.maps.mappings n start place in
    let high = at.above in
    let last = at.below in
    let large = is-large start n a z at.aligned at.above at.below few al some small need in
    let above = large.above in
    let within = large.within in
    branch (IsMade w z) (nat_le n (pages_left w.memory)) (after_map_chunk w o z m) (no_chunk w)
    (λ t. record {
      left = large_left w o m z place large (grind (arith, nat_tests));
      chunk = λ x f.
          let u : m.user ≡ user_of_chunk x = ap user_of_chunk (some-of _ x f) in
          (omega arith, omega arith);
    })
    (λ t. not-made w z)

mapping-made : (w : World) (o : Origin) (a z n : ℕ) → IsAlign a → 0 < z → z ≤ 2 ^ 20 → n ≤ 4096 → need_of a z ≤ PAGE_SIZE * n → IsMade w z (after_large_allocation w o a z n)
unfolding after_large_allocation
mapping-made w o a z n al some small few need = mapped-made w o a z n (place_of w.heap.maps.mappings n) refl al some small few need

made-made : (w : World) (o : Origin) (a z : ℕ) (c : Option ℕ) → class_for (need_of a z) ≡ c → HeapOwnsItsPages w.memory w.heap → AreSound w.heap.stacks → IsAlign a → 0 < z → z ≤ 2 ^ 20 → IsMade w z (allocate_cases w o a z c)
made-made w o a z None e v s al some small =
    let most = al.most in
    mapping-made w o a z (pages_for (need_of a z)) al some small (omega arith) (omega arith)
made-made w o a z (Some c) e v s al some small =
    let k = class-enough (need_of a z) c e in
    class-made w o a z c v s (record { low = k.low; high = k.high }) al k.holds

nonzero-size-some : (z : ℕ) → (0 < nonzero_size z) × (z ≤ nonzero_size z)
nonzero-size-some z = branch (λ n. (0 < n) × (z ≤ n)) (z == 0) 1 z (λ t. let e : z ≡ 0 = grind (arith, nat_tests) in (omega arith, omega arith)) (λ t. let e : z ≢ 0 = grind (arith, nat_tests) in (omega arith, omega arith))

nonzero-size-small : (z : ℕ) → z ≤ MAX_REQUEST → nonzero_size z ≤ 2 ^ 20
nonzero-size-small z l = branch (λ n. n ≤ 2 ^ 20) (z == 0) 1 z (λ t. omega arith) (λ t. omega arith)

made-fewer : (w : World) (z n : ℕ) (d : AllocationResult) → z ≤ n → IsMade w n d → IsMade w z d
made-fewer w z n d l h = record {
  left = h.left;
  chunk = λ x e.
      let b = h.chunk x e in
      let low = b.0 in
      let high = b.1 in
      (low, omega arith);
}

pub after-allocate-made : (w : World) (o : Origin) (a z : ℕ) → HeapOwnsItsPages w.memory w.heap → AreSound w.heap.stacks → IsAlign a → IsMade w z (after_allocate w o a z)
unfolding after_allocate
after-allocate-made w o a z v s al =
    branch (IsMade w z) (nat_le z MAX_REQUEST) (allocate_cases w o a (nonzero_size z) (class_for (need_of a (nonzero_size z)))) (no_chunk w)
    (λ t.
    let l : z ≤ MAX_REQUEST = grind (arith, nat_tests) in
    let q = nonzero-size-some z in
    made-fewer w z (nonzero_size z) _ q.1
    (made-made w o a (nonzero_size z) (class_for (need_of a (nonzero_size z))) refl v s al q.0 (nonzero-size-small z l)))
    (λ t. not-made w z)

pub least-align : IsAlign 16
least-align = record { least = omega arith; most = omega arith; multiple = refl }

malloc-made : (w : World) (z : ℕ) → HeapOwnsItsPages w.memory w.heap → AreSound w.heap.stacks → IsMade w z (after_malloc w z)
unfolding after_malloc
malloc-made w z v s = after-allocate-made w Malloc 16 z v s least-align

pub malloc_left : (w : World) (z : ℕ) → HeapOwnsItsPages w.memory w.heap → IsSound w.heap → IsLeft w (after_malloc w z).world
malloc_left w z v s = (malloc-made w z v s.stacks).left

pub calloc_left : (w : World) (n z : ℕ) → HeapOwnsItsPages w.memory w.heap → IsSound w.heap → IsLeft w (after_calloc w n z).world
unfolding after_calloc
calloc_left w n z v s = (after-allocate-made w Malloc 16 (n * z) v s.stacks least-align).left

pub memalign_left : (w : World) (a z : ℕ) → HeapOwnsItsPages w.memory w.heap → IsSound w.heap → IsLeft w (after_memalign w a z).world
unfolding after_memalign
memalign_left w a z v s =
    branch (λ (d : AllocationResult). IsLeft w d.world) (is_alignment a) (after_allocate w Memalign (max a 16) z) (no_chunk w)
    (λ t. (after-allocate-made w Memalign (max a 16) z v s.stacks (power-align a t)).left)
    (λ t. left-same w)

-- ---- a chunk that was found

record IsMapped (m : Mapping) : Type 0 where
  even : m.start % 4096 ≡ 0
  low : 1023414272 ≤ m.start
  high : m.start + 4096 * m.pages ≤ 1056964608
  first : m.start ≤ m.user
  last : m.user < m.start + 4096 * m.pages

abbrev IsThere : Found → Type 0
IsThere (InBlock p header) = IsHere p
IsThere (InPages m header) = IsMapped m

there : (m : Memory) (h : HeapState) (f : Found) → HeapOwnsItsPages m h → AreMappings h.maps.mappings → IsFound h f → IsThere f
there m h (InBlock p header) v k e =
    let q = e.place in
    let class : IsClass p.class = record { low = q.low; high = q.high } in
    let few = v.few p.class q.low q.high in
    let at = block-high p.class (pages_of h.stacks p.class) p.block class q.carved (omega arith) in
    let first = at.0 in
    let last = at.1 in
    let above = q.above in
    record { low = omega arith; within = q.within; high = last }
there m h (InPages n header) v k e =
    let b = mapping-bounds h.maps.mappings n.user n k e in
    let above = b.above in
    let last = b.last in
    record { even = b.aligned; low = omega arith; high = omega arith; first = b.first; last = b.below }

-- it is freed
without_left : (w : World) (f : Found) → IsThere f → (IsSoundWorld w → IsFound w.heap f) → IsLeft w (without_chunk w f)
unfolding without_chunk large_given_back
without_left w (InBlock p header) k found = given_left w p header k found
without_left w (InPages m header) k found =
    let even = k.even in
    let low = k.low in
    let high = k.high in
    record {
      others = gone_others w.memory (m.start / PAGE_SIZE) m.pages (omega arith) (omega arith);
      state = state-without_pages m.pages w.memory (m.start / PAGE_SIZE);
      sound = λ v. sound-less w m (found v) v;
    }

pub without_sound : (w : World) (f : Found) → IsFound w.heap f → IsSoundWorld w → IsSoundWorld (without_chunk w f)
without_sound w f found v = (without_left w f (there w.memory w.heap f v.owned v.parts.mappings found) (λ _. found)).sound v

-- ---- free

freed_left : (w : World) (r : Result Found HeapAbort) → ((f : Found) → r ≡ Ok f → IsThere f × IsFound w.heap f) → IsLeft w (free_cases w r).world
freed_left w (Err e) k = left-same w
freed_left w (Ok f) k = let q = k f refl in without_left w f q.0 (λ v. q.1)

pub free_left : (w : World) (pointer : ℕ) → HeapOwnsItsPages w.memory w.heap → IsSound w.heap → IsLeft w (free_of w pointer).world
unfolding free_of
free_left w pointer v s =
    branch (λ x. IsLeft w x.world) (pointer == 0) _ (free_cases w (check_pointer w.memory w.heap (plain pointer)))
    (λ t. left-same w)
    (λ t. freed_left w (check_pointer w.memory w.heap (plain pointer)) (λ f e. let found = check-pointer-is w.memory w.heap (plain pointer) f e in (there w.memory w.heap f v s.mappings found, found)))

-- ---- realloc

pub copied-rest : (m : Memory) (from to n : ℕ) → IsSameRest m (after_copy m from to n)
unfolding after_copy
copied-rest m from to n = rest-with-bytes-at m to (read_bytes m from n)

copied_others : (m : Memory) (from to n : ℕ) → 285212672 ≤ to → to + n ≤ 1056964608 → KeepsOthers m (after_copy m from to n)
unfolding after_copy
copied_others m from to n l h =
    let e = length-read_bytes m from n in
    written_others m to (read_bytes m from n) l (omega arith)

copied_left : (w : World) (f : Found) (x : Chunk) (size : ℕ) → 285212672 ≤ user_of_chunk x → user_of_chunk x + size ≤ 1056964608 → IsLeft w (with_copied_bytes w f x size)
copied_left w f x size low high =
    let n = min (size_found f) size in
    let e = copied-rest w.memory (user_of f) (user_of_chunk x) n in
    record {
      others = copied_others w.memory (user_of f) (user_of_chunk x) n low (omega arith);
      state = e.state;
      sound = λ v. sound-same w _ v e.attrs e.left;
    }

after-move-left : (w : World) (f : Found) (size : ℕ) (d : AllocationResult) → d ≡ after_malloc w size → AreSound w.heap.stacks → AreMappings w.heap.maps.mappings → IsThere f → IsFound w.heap f → 0 < size → size ≤ MAX_REQUEST → IsMade w size d
    → (x : Option Chunk) → d.chunk ≡ x → IsLeft w (move_to_cases w f size d.world x).world
after-move-left w f size d is s ms k found some small h None e = left-same w
after-move-left w f size d is s ms k found some small h (Some x) e =
    let b = h.chunk x e in
    let copy = with_copied_bytes d.world f x size in
    let e1 = copied-rest d.world.memory (user_of f) (user_of_chunk x) (min (size_found f) size) in
    let made : allocation_of d.world (Some x) ≡ after_malloc w size = ap (allocation_of d.world) (sym e) ∙ is in
    left-after w d.world _ h.left
    (left-after d.world copy _ (copied_left d.world f x size b.0 b.1)
    (without_left copy f k (λ v.
    let owned = served-same copy.memory d.world.memory d.world.heap v.owned (λ q. sym (e1.attrs q)) (sym e1.left) in
    (malloc-beside w d.world size f x s ms owned some small found made).found)))

moved_left : (w : World) (f : Found) (size : ℕ) → HeapOwnsItsPages w.memory w.heap → IsSound w.heap → IsFound w.heap f → 0 < size → size ≤ MAX_REQUEST → IsLeft w (after_move w f size).world
unfolding after_move
moved_left w f size v s found some small =
    after-move-left w f size (after_malloc w size) refl s.stacks s.mappings (there w.memory w.heap f v s.mappings found) found some small (malloc-made w size v s.stacks) (after_malloc w size).chunk refl

size_left : (w : World) (f : Found) (size : ℕ) → HeapOwnsItsPages w.memory w.heap → IsSound w.heap → IsFound w.heap f → 0 < size → size ≤ MAX_REQUEST → IsLeft w (with_new_size w f size).world
unfolding with_new_size
size_left w (InBlock p header) size v s found some small =
    branch (λ (d : AllocationResult). IsLeft w d.world) (nat_le (end_of (with_size p size)) (block_end p)) (after_resize_in_block w p header size) (after_move w (InBlock p header) size)
    (λ t. resized_left w p header size (there w.memory w.heap (InBlock p header) v s.mappings found) (grind (arith, nat_tests)))
    (λ t. moved_left w (InBlock p header) size v s found some small)
size_left w (InPages m header) size v s found some small = moved_left w (InPages m header) size v s found some small

pub refound_left : (w : World) (f : Found) (size : ℕ) → HeapOwnsItsPages w.memory w.heap → IsSound w.heap → IsFound w.heap f → IsLeft w (realloc_cases w f size).world
unfolding realloc_cases
refound_left w f size v s found =
    branch (λ (d : AllocationResult). IsLeft w d.world) (size == 0) _ _
    (λ t. without_left w f (there w.memory w.heap f v s.mappings found) (λ _. found))
    (λ t. branch (λ (d : AllocationResult). IsLeft w d.world) (nat_le size MAX_REQUEST) (with_new_size w f size) (no_chunk w)
    (λ u. size_left w f size v s found (grind (arith, nat_tests)) (grind (arith, nat_tests)))
    (λ u. left-same w))

reallocated_left : (w : World) (size : ℕ) (r : Result Found HeapAbort) → HeapOwnsItsPages w.memory w.heap → IsSound w.heap → ((f : Found) → r ≡ Ok f → IsFound w.heap f) → IsLeft w (checked_realloc_cases w size r).world
reallocated_left w size (Err e) v s k = left-same w
reallocated_left w size (Ok f) v s k = refound_left w f size v s (k f refl)

pub realloc_left : (w : World) (pointer size : ℕ) → HeapOwnsItsPages w.memory w.heap → IsSound w.heap → IsLeft w (after_realloc w pointer size).world
unfolding after_realloc
realloc_left w pointer size v s =
    branch (λ x. IsLeft w x.world) (pointer == 0) (reallocation_of (after_malloc w size)) (checked_realloc_cases w size (check_pointer w.memory w.heap (plain pointer)))
    (λ t. malloc_left w size v s)
    (λ t. reallocated_left w size (check_pointer w.memory w.heap (plain pointer)) v s (check-pointer-is w.memory w.heap (plain pointer)))
