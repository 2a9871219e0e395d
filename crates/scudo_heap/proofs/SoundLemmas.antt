-- What the steps of the calls keep of a heap with its memory.
use Rattle.std.proofs.Common.{◌≡◌, ◌≢◌, ℕ, ◌+◌, ◌/◌, ◌≤◌, ◌==◌, not, true, false, List, [], ◌∷◌, drop, Some, sym, ap, subst, inl, inr, arith}
use Rattle.std.proofs.lemmas.Bool.{cases_eq}
use Rattle.common.specs.declared.limits.TheConstants.{PAGE_SIZE, MAX_PAGES}
use Rattle.common.specs.declared.ranges.TheConstants.{SECONDARY_START}
use Rattle.mte_tags.specs.Memory.{Memory, attrs_at, pages_left, with_new_pages, without_pages}
use Rattle.mte_tags.specs.declared.generator.Rgsr.{Rgsr}
use Rattle.scudo_primary.specs.Blocks.{IsBlock, IsClass, AreBlocks}
use Rattle.scudo_primary.proofs.BlockLists.{blocks-rest, blocks-more, blocks-carved}
use Rattle.scudo_primary.specs.Pools.{is_member}
use Rattle.scudo_secondary.specs.Mappings.{IsMapping, AreMappings, is_place, mapping_of, with_mapping}
use Rattle.scudo_secondary.specs.declared.mappings.Mapping.{Mapping}
use Rattle.scudo_secondary.proofs.PlaceLemmas.{place-facts}
use Rattle.scudo_secondary.proofs.MappingLemmas.{AreMappings-with_mapping, AreMappings-filter}
use Rattle.scudo_heap.specs.Stacks.{ClassHeap, StackState, AreSound, pages_of, stack_of, with_stack, after_pop, after_push, after_carve}
use Rattle.scudo_heap.specs.Heaps.{heap_of, with_more, with_less}
use Rattle.scudo_heap.specs.Placing.{World, world_of, heap_attrs, more_pages, after_grow}
use Rattle.scudo_heap.specs.Inner.{IsLarge}
use Rattle.scudo_heap.specs.Sound.{IsSoundWorld}
use Rattle.scudo_heap.proofs.StackLemmas.{class_at-with_class, class_at-with_class_other}
use Rattle.scudo_heap.proofs.MapLemmas.{is-at}
use Rattle.scudo_heap.proofs.ServedLemmas.{SamePages, same-with_stack, same-pages, served-on, served-less, served-more, served-after-grow, MayGrow, left-after-carve, class-after-carve, class-carved_other}
use Rattle.scudo_heap.proofs.RestLemmas.{IsSameRest}

-- ---- the stacks

pub stack-own : (s : StackState) (c : ℕ) (xs : List ℕ) → stack_of (with_stack s c xs) c ≡ xs
stack-own s c xs = ap (λ (k : ClassHeap). k.stack) (class_at-with_class s c (record { pages = pages_of s c; stack = xs }))

pub stack-other : (s : StackState) (c d : ℕ) (xs : List ℕ) → d ≢ c → stack_of (with_stack s c xs) d ≡ stack_of s d
stack-other s c d xs n = ap (λ (k : ClassHeap). k.stack) (class_at-with_class_other s c d (record { pages = pages_of s c; stack = xs }) n)

-- a class's stack is another list of its blocks
sound-with-stack : (s : StackState) (c : ℕ) (xs : List ℕ) → AreSound s → AreBlocks c (pages_of s c) xs → AreSound (with_stack s c xs)
sound-with-stack s c xs k is = record {
  each = λ d lo hi. subst (λ n. AreBlocks d n (stack_of (with_stack s c xs) d)) (sym ((same-with_stack s c xs).pages d)) (elim (cases_eq d c) [
    | inl q ↦ subst (λ t. AreBlocks t (pages_of s t) (stack_of (with_stack s c xs) t)) (sym q) (subst (AreBlocks c (pages_of s c)) (sym (stack-own s c xs)) is)
    | inr n ↦ subst (AreBlocks d (pages_of s d)) (sym (stack-other s c d xs n)) (k.each d lo hi)
  ]);
}

blocks-drop : (c n : ℕ) (xs : List ℕ) → AreBlocks c n xs → AreBlocks c n (drop 1 xs)
blocks-drop c n [] h = h
blocks-drop c n (x ∷ xs) h = blocks-rest c n x xs h

pub sound-after-pop : (s : StackState) (c : ℕ) → IsClass c → AreSound s → AreSound (after_pop s c)
unfolding after_pop
sound-after-pop s c k h = sound-with-stack s c (drop 1 (stack_of s c)) h (blocks-drop c (pages_of s c) (stack_of s c) (h.each c k.low k.high))

pub sound-after-push : (s : StackState) (c b : ℕ) → IsClass c → IsBlock c (pages_of s c) b → is_member (stack_of s c) b ≡ false → AreSound s → AreSound (after_push s c b)
unfolding after_push
sound-after-push s c b k block off h = sound-with-stack s c (b ∷ stack_of s c) h (blocks-more c (pages_of s c) b (stack_of s c) block off (h.each c k.low k.high))

pub sound-after-carve : (s : StackState) (c n : ℕ) → IsClass c → AreSound s → AreSound (after_carve s c n)
sound-after-carve s c n k h = record {
  each = λ d lo hi. elim (cases_eq d c) [
    | inl q ↦
        subst (λ t. AreBlocks t (pages_of (after_carve s c n) t) (stack_of (after_carve s c n) t)) (sym q)
        (subst (λ (t : ClassHeap). AreBlocks c t.pages t.stack) (sym (class-after-carve s c n)) (blocks-carved c (pages_of s c) n (stack_of s c) k (h.each c k.low k.high)))
    | inr o ↦ subst (λ (t : ClassHeap). AreBlocks d t.pages t.stack) (sym (class-carved_other s c n d o)) (h.each d lo hi)
  ];
}

-- ---- a heap with its memory

-- bytes and tags change, and one stack
pub sound-changed : (w : World) (m : Memory) (s : StackState) (r : Rgsr) → IsSameRest w.memory m → SamePages w.heap.stacks s → AreSound s → IsSoundWorld w → IsSoundWorld (world_of m (heap_of w.heap.cookie s w.heap.maps) r)
sound-changed w m s r e p h k =
    let left = p.left in
    record {
      owned = served-on w.memory m w.heap s w.heap.cookie k.owned e.attrs e.left p;
      room = λ c lo hi. let pages = p.pages c in let room = k.room c lo hi in omega arith;
      parts = record { stacks = h; mappings = k.parts.mappings };
    }

pub sound-same : (w : World) (m : Memory) → IsSoundWorld w → ((q : ℕ) → attrs_at m q ≡ attrs_at w.memory q) → pages_left m ≡ pages_left w.memory → IsSoundWorld (record w { memory = m })
sound-same w m k a l = record {
  owned = served-on w.memory m w.heap w.heap.stacks w.heap.cookie k.owned a l (same-pages w.heap.stacks);
  room = k.room;
  parts = k.parts;
}

-- a class without free blocks gets pages
pub sound-after-grow : (w : World) (c : ℕ) → IsClass c → stack_of w.heap.stacks c ≡ [] → more_pages c ≤ pages_left w.memory → IsSoundWorld w → IsSoundWorld (after_grow w c)
unfolding after_grow
sound-after-grow w c k z enough v =
    let s = w.heap.stacks in
    let n = more_pages c in
    let most = v.room c k.low k.high in
    let room = v.owned.room in
    let less = left-after-carve s c n in
    let may : MayGrow w.memory s c n = record { class = k; enough = enough; most = most } in
    record {
      owned = served-after-grow w.memory s c n w.heap.cookie w.heap.maps may v.owned;
      room = λ d lo hi. elim (cases_eq d c) [
        | inl e ↦
            let own : pages_of (after_carve s c n) c ≡ pages_of s c + n = ap (λ (t : ClassHeap). t.pages) (class-after-carve s c n) in
            subst (λ t. pages_of (after_carve s c n) t + (after_carve s c n).left ≤ MAX_PAGES) (sym e) (omega arith)
        | inr o ↦
            let other : pages_of (after_carve s c n) d ≡ pages_of s d = ap (λ (t : ClassHeap). t.pages) (class-carved_other s c n d o) in
            let old = v.room d lo hi in
            omega arith
      ];
      parts = record { stacks = sound-after-carve s c n k v.parts.stacks; mappings = v.parts.mappings };
    }

-- a mapping comes with its pages
mappings-more : (ms : List Mapping) (m : Mapping) (size : ℕ) → is_place ms m.pages m.start ≡ true → IsLarge m size → AreMappings ms → AreMappings (with_mapping ms m)
mappings-more ms m size place large k =
    let at = is-at ms m.pages m.start place in
    let below = at.below in
    let above = large.above in
    let one : IsMapping (SECONDARY_START + PAGE_SIZE) m = record { above = at.above; aligned = at.aligned; some = large.some; first = omega arith; last = large.below } in
    AreMappings-with_mapping ms m k one below (place-facts ms m.pages m.start place).fits.apart

pub sound-more : (w : World) (m : Mapping) (size : ℕ) → is_place w.heap.maps.mappings m.pages m.start ≡ true → IsLarge m size → m.pages ≤ pages_left w.memory → IsSoundWorld w
    → IsSoundWorld (record w { memory = with_new_pages w.memory (m.start / PAGE_SIZE) m.pages heap_attrs; heap = record w.heap { maps = with_more w.heap.maps m } })
unfolding with_more
sound-more w m size place large enough v = record {
  owned = served-more w.memory w.heap.stacks w.heap.maps m w.heap.cookie (is-at w.heap.maps.mappings m.pages m.start place) enough v.owned;
  room = v.room;
  parts = record { stacks = v.parts.stacks; mappings = mappings-more w.heap.maps.mappings m size place large v.parts.mappings };
}

-- and goes with them
pub sound-less : (w : World) (m : Mapping) → Some m ≡ mapping_of w.heap.maps.mappings m.user → IsSoundWorld w
    → IsSoundWorld (record w { memory = without_pages w.memory (m.start / PAGE_SIZE) m.pages; heap = record w.heap { maps = with_less w.heap.maps m } })
unfolding with_less
sound-less w m there v = record {
  owned = served-less w.memory w.heap m w.heap.cookie v.owned v.parts.mappings there;
  room = v.room;
  parts = record { stacks = v.parts.stacks; mappings = AreMappings-filter (λ n. not (n.user == m.user)) w.heap.maps.mappings v.parts.mappings };
}
