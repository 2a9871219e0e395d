-- What the condition of the calls gives, and what keeps it.
use Rattle.std.proofs.Common.{◌≡◌, ◌≢◌, ℕ, ◌+◌, ◌-◌, ◌*◌, ◌/◌, ◌%◌, ◌^◌, ◌<◌, ◌≤◌, ◌||◌, nat_lt, true, false, List, [], ◌∷◌, ◌++◌, zero, suc, drop, Some, refl, sym, ap, subst, ◌∙◌, inl, inr, arith}
use Rattle.std.proofs.lemmas.Bool.{cases_eq, cases_lt, cond-true, cond-false}
use Rattle.std.proofs.lemmas.Bool.Decides.{nat_tests}
use Rattle.std.specs.List.{list_any}
use Rattle.mte_tags.specs.Memory.{Memory, attrs_at, pages_left}
use Rattle.scudo_header.specs.Classes.{size_of}
use Rattle.scudo_header.specs.Regions.{region_of}
use Rattle.scudo_primary.specs.Blocks.{IsBlock}
use Rattle.scudo_primary.specs.Blocks.{IsClass}
use Rattle.scudo_primary.proofs.BlockLemmas.{size-pos, block-whole}
use Rattle.std.proofs.Math.Nat.{le-div_iff_mul-le, div-mul-le_self}
use Rattle.scudo_primary.specs.Blocks.{carved_count, blocks_from}
use Rattle.common.specs.declared.limits.TheConstants.{MAX_PAGES}
use Rattle.scudo_heap.specs.Placing.{heap_attrs, next_page}
use Rattle.scudo_secondary.specs.Mappings as secondary
use Rattle.scudo_secondary.specs.Mappings.{SecondaryState}
use Rattle.common.specs.declared.limits.TheConstants.{PAGE_SIZE}
use Rattle.common.specs.declared.ranges.TheConstants.{REGION_SIZE}
use Rattle.scudo_heap.specs.Stacks.{ClassHeap, StackState, class_at, with_class, pages_of, stack_of, after_pop, after_push, carved_class, after_carve}
use Rattle.scudo_heap.specs.Heaps.{HeapState, heap_of}
use Rattle.scudo_heap.specs.Served.{HeapOwnsItsPages, heap_page, is_inside}
use Rattle.scudo_secondary.specs.declared.mappings.Mapping.{Mapping}
use Rattle.mte_tags.specs.Memory.{IsFree, with_new_pages, without_pages}
use Rattle.mte_tags.proofs.PageLaws.{page_at-no_attrs, attrs_at-with_new_pages_in, attrs_at-with_new_pages_out, pages_left-with_new_pages, attrs_at-without_pages_in, attrs_at-without_pages_out}
use Rattle.mte_tags.proofs.Whole.{pages_left-without_pages}
use Rattle.scudo_heap.specs.Heaps.{with_less, with_more}
use Rattle.scudo_heap.specs.Inner.{ArePlaces, AreRegions, IsOpen}
use Rattle.scudo_secondary.proofs.MappingLemmas.{pages_of-with_mapping}
use Rattle.scudo_heap.proofs.MapLemmas.{IsAt, inside-more, inside-in, inside-low, inside-high, others_of, without}
use Rattle.scudo_heap.proofs.StackLemmas.{class_at-with_class, class_at-with_class_other}

pub lt-true : (a b : ℕ) → a < b → nat_lt a b ≡ true
lt-true a b h = grind (arith, nat_tests)

pub lt-false : (a b : ℕ) → b ≤ a → nat_lt a b ≡ false
lt-false a b h = grind (arith, nat_tests)

pub regions-of : (m : Memory) (h : HeapState) → HeapOwnsItsPages m h → AreRegions m h.stacks
regions-of m h v = let room = v.room in record { room = omega arith; few = v.few; regions = v.regions }

-- a class's page
page_there : (m : Memory) (s : StackState) (c i : ℕ) → AreRegions m s → IsClass c → i < pages_of s c → attrs_at m (region_of c / PAGE_SIZE + i) ≡ Some 11
page_there m s c i v k l =
    let few = v.few c k.low k.high in
    v.regions c i k.low k.high (omega arith) ∙ cond-true _ _ _ (lt-true i (pages_of s c) l)

-- a block of the heap can be read and written
pub block-open-in : (m : Memory) (s : StackState) (c b : ℕ) → AreRegions m s → IsClass c → IsBlock c (pages_of s c) b → IsOpen m b (b + size_of c)
block-open-in m s c b v k block =
    let whole = block-whole c (pages_of s c) b k block in
    let inside = block.inside in
    let few = v.few c k.low k.high in
    let high = k.high in
    record {
      pages = λ a lo hi.
          let i : (a - region_of c) / PAGE_SIZE < pages_of s c = omega arith in
          let q : a / PAGE_SIZE ≡ region_of c / PAGE_SIZE + (a - region_of c) / PAGE_SIZE = omega arith in
          ap (attrs_at m) q ∙ page_there m s c ((a - region_of c) / PAGE_SIZE) v k i;
      below = omega arith;
    }

pub block-open : (m : Memory) (h : HeapState) (c b : ℕ) → HeapOwnsItsPages m h → IsClass c → IsBlock c (pages_of h.stacks c) b → IsOpen m b (b + size_of c)
block-open m h c b v k block = block-open-in m h.stacks c b (regions-of m h v) k block

-- ---- bytes, tags and stacks change, and the pages stay

pub record SamePages (s s' : StackState) : Type 0 where
  pub left : s'.left ≡ s.left
  pub pages : (d : ℕ) → pages_of s' d ≡ pages_of s d

left-with_class : (s : StackState) (c : ℕ) (k : ClassHeap) → (with_class s c k).left ≡ s.left
unfolding with_class
left-with_class s c k = refl

pub same-with_stack : (s : StackState) (c : ℕ) (stack : List ℕ) → SamePages s (with_class s c (record { pages = pages_of s c; stack = stack }))
same-with_stack s c stack = record {
  left = left-with_class s c _;
  pages = λ d. elim (cases_eq d c) [
    | inl e ↦ subst (λ t. pages_of (with_class s c (record { pages = pages_of s c; stack = stack })) t ≡ pages_of s t) (sym e) (ap (λ (k : ClassHeap). k.pages) (class_at-with_class s c _))
    | inr n ↦ ap (λ (k : ClassHeap). k.pages) (class_at-with_class_other s c d _ n)
  ];
}

pub same-after-push : (s : StackState) (c b : ℕ) → SamePages s (after_push s c b)
unfolding after_push
same-after-push s c b = same-with_stack s c (b ∷ stack_of s c)

pub same-after-pop : (s : StackState) (c : ℕ) → SamePages s (after_pop s c)
unfolding after_pop
same-after-pop s c = same-with_stack s c (drop 1 (stack_of s c))

pub served-on : (m m' : Memory) (h : HeapState) (s : StackState) (cookie : ℕ) → HeapOwnsItsPages m h → ((q : ℕ) → attrs_at m' q ≡ attrs_at m q) → pages_left m' ≡ pages_left m → SamePages h.stacks s → HeapOwnsItsPages m' (heap_of cookie s h.maps)
served-on m m' h s cookie v a l p =
    let room = v.room in
    let left = p.left in
    let limit = v.limit in
    record {
      room = omega arith;
      limit = omega arith;
      few = λ c lo hi. subst (λ n. n ≤ REGION_SIZE / PAGE_SIZE) (sym (p.pages c)) (v.few c lo hi);
      regions = λ c i lo hi k. a _ ∙ v.regions c i lo hi k ∙ ap (λ n. heap_page (nat_lt i n)) (sym (p.pages c));
      mappings = λ x lo hi. a _ ∙ v.mappings x lo hi;
    }

-- ---- a mapping and its pages go

pub mapping-open : (m : Memory) (h : HeapState) (n : Mapping) → HeapOwnsItsPages m h → secondary.AreMappings h.maps.mappings → Some n ≡ secondary.mapping_of h.maps.mappings n.user → IsOpen m n.start (secondary.end_of n)
mapping-open m h n v k e =
    let w = without h.maps.mappings n k e in
    let above = w.above in
    let last = w.last in
    record {
      pages = λ a lo hi. v.mappings a (omega arith) (omega arith) ∙ ap heap_page (w.there a (inside-in a n lo hi));
      below = omega arith;
    }

less-mappings : (ms : SecondaryState) (n : Mapping) → (with_less ms n).mappings ≡ others_of n.user ms.mappings
unfolding with_less
less-mappings ms n = refl

less-limit : (ms : SecondaryState) (n : Mapping) → (with_less ms n).limit ≡ ms.limit
unfolding with_less
less-limit ms n = refl

pub served-less : (m : Memory) (h : HeapState) (n : Mapping) (cookie : ℕ) → HeapOwnsItsPages m h → secondary.AreMappings h.maps.mappings → Some n ≡ secondary.mapping_of h.maps.mappings n.user
    → HeapOwnsItsPages (without_pages m (n.start / PAGE_SIZE) n.pages) (heap_of cookie h.stacks (with_less h.maps n))
served-less m h n cookie v k e =
    let w = without h.maps.mappings n k e in
    let above = w.above in
    let last = w.last in
    let aligned = w.aligned in
    let room = v.room in
    let limit = v.limit in
    let sum = w.pages in
    let list = less-mappings h.maps n in
    let same = less-limit h.maps n in
    let pages = ap secondary.pages_of list in
    let left = pages_left-without_pages n.pages m (n.start / PAGE_SIZE) in
    let out = λ (q : ℕ) (o : n.start / PAGE_SIZE ≤ q → q < n.start / PAGE_SIZE + n.pages → ⊥). attrs_at-without_pages_out n.pages m (n.start / PAGE_SIZE) q o in
    record {
      room = omega arith;
      limit = omega arith;
      few = v.few;
      regions = λ c i lo hi l. out _ (λ x y. omega arith) ∙ v.regions c i lo hi l;
      mappings = λ a lo hi. elim (is_inside a n) as (λ b. is_inside a n ≡ b → attrs_at (without_pages m (n.start / PAGE_SIZE) n.pages) (a / PAGE_SIZE) ≡ heap_page (list_any (is_inside a) (with_less h.maps n).mappings)) [
        | true ↦ λ t. (elim (cases_lt a n.start) [
          | inl l ↦ (let f = inside-low a n l in cc)
          | inr l ↦ (elim (cases_lt a (secondary.end_of n)) [
            | inl u ↦ attrs_at-without_pages_in n.pages m (n.start / PAGE_SIZE) (a / PAGE_SIZE) (omega arith) (omega arith) ∙ ap heap_page (sym (ap (list_any (is_inside a)) list ∙ w.in_it a t))
            | inr u ↦ (let f = inside-high a n u in cc)
          ])
        ])
        | false ↦ λ t. (out (a / PAGE_SIZE) (λ x y. (let f : is_inside a n ≡ true = inside-in a n (omega arith) (omega arith) in cc))
            ∙ v.mappings a lo hi ∙ ap heap_page (sym (ap (list_any (is_inside a)) list ∙ w.out_of_it a t)))
      ] refl;
    }

-- ---- a class gets pages

pub left-after-carve : (s : StackState) (c n : ℕ) → (after_carve s c n).left ≡ s.left - n
unfolding after_carve
left-after-carve s c n = refl

pub class-after-carve : (s : StackState) (c n : ℕ) → class_at (after_carve s c n) c ≡ carved_class c (class_at s c) n
unfolding after_carve class_at with_class
class-after-carve s c n = class_at-with_class s c (carved_class c (class_at s c) n)

pub class-carved_other : (s : StackState) (c n d : ℕ) → d ≢ c → class_at (after_carve s c n) d ≡ class_at s d
unfolding after_carve class_at with_class
class-carved_other s c n d o = class_at-with_class_other s c d (carved_class c (class_at s c) n) o

-- where it may get n pages
pub record MayGrow (m : Memory) (s : StackState) (c n : ℕ) : Type 0 where
  pub class : IsClass c
  pub enough : n ≤ pages_left m
  pub most : pages_of s c + s.left ≤ MAX_PAGES

pub next-free : (m : Memory) (s : StackState) (c n : ℕ) → AreRegions m s → MayGrow m s c n → IsFree m (next_page s c) n
next-free m s c n v g = λ i l.
    let k = g.class in
    let enough = g.enough in
    let most = g.most in
    let room = v.room in
    page_at-no_attrs m (next_page s c + i)
    (ap (attrs_at m) (let e : next_page s c + i ≡ region_of c / PAGE_SIZE + (pages_of s c + i) = omega arith in e)
    ∙ v.regions c (pages_of s c + i) k.low k.high (omega arith) ∙ cond-false _ _ _ (lt-false (pages_of s c + i) (pages_of s c) (omega arith)))

new-in : (m : Memory) (s : StackState) (c n q : ℕ) → next_page s c ≤ q → q < next_page s c + n → attrs_at (with_new_pages m (next_page s c) n heap_attrs) q ≡ Some 11
new-in m s c n q a b = attrs_at-with_new_pages_in n m (next_page s c) heap_attrs q a b

new-out : (m : Memory) (s : StackState) (c n q : ℕ) → (next_page s c ≤ q → q < next_page s c + n → ⊥) → attrs_at (with_new_pages m (next_page s c) n heap_attrs) q ≡ attrs_at m q
new-out m s c n q o = attrs_at-with_new_pages_out n m (next_page s c) heap_attrs q o

own-region : (m : Memory) (s : StackState) (c n i : ℕ) → AreRegions m s → MayGrow m s c n → i < REGION_SIZE / PAGE_SIZE
    → attrs_at (with_new_pages m (next_page s c) n heap_attrs) (region_of c / PAGE_SIZE + i) ≡ heap_page (nat_lt i (pages_of s c + n))
own-region m s c n i v g l =
    let k = g.class in
    elim (cases_lt i (pages_of s c)) [
      | inl a ↦ new-out m s c n _ (λ x y. omega arith) ∙ page_there m s c i v k a ∙ sym (cond-true _ _ _ (lt-true i (pages_of s c + n) (omega arith)))
      | inr a ↦ elim (cases_lt i (pages_of s c + n)) [
        | inl b ↦ new-in m s c n _ (omega arith) (omega arith) ∙ sym (cond-true _ _ _ (lt-true i (pages_of s c + n) b))
        | inr b ↦ new-out m s c n _ (λ x y. omega arith) ∙ v.regions c i k.low k.high l ∙ cond-false _ _ _ (lt-false i (pages_of s c) a) ∙ sym (cond-false _ _ _ (lt-false i (pages_of s c + n) b))
      ]
    ]

pub regions-grown : (m : Memory) (s : StackState) (c n : ℕ) → AreRegions m s → MayGrow m s c n → AreRegions (with_new_pages m (next_page s c) n heap_attrs) (after_carve s c n)
regions-grown m s c n v g =
    let k = g.class in
    let low = k.low in
    let high = k.high in
    let enough = g.enough in
    let most = g.most in
    let room = v.room in
    let few = v.few c low high in
    let left = pages_left-with_new_pages n m (next_page s c) heap_attrs (next-free m s c n v g) in
    let less = left-after-carve s c n in
    let own : pages_of (after_carve s c n) c ≡ pages_of s c + n = ap (λ (t : ClassHeap). t.pages) (class-after-carve s c n) in
    record {
      room = omega arith;
      few = λ d lo hi. elim (cases_eq d c) [
        | inl e ↦ subst (λ t. pages_of (after_carve s c n) t ≤ REGION_SIZE / PAGE_SIZE) (sym e) (omega arith)
        | inr o ↦ subst (λ (t : ClassHeap). t.pages ≤ REGION_SIZE / PAGE_SIZE) (sym (class-carved_other s c n d o)) (v.few d lo hi)
      ];
      regions = λ d i lo hi l. elim (cases_eq d c) [
        | inl e ↦ subst (λ t. attrs_at (with_new_pages m (next_page s c) n heap_attrs) (region_of t / PAGE_SIZE + i) ≡ heap_page (nat_lt i (pages_of (after_carve s c n) t))) (sym e)
            (own-region m s c n i v g l ∙ ap (λ t. heap_page (nat_lt i t)) (sym own))
        | inr o ↦ new-out m s c n _ (λ x y. omega arith) ∙ v.regions d i lo hi l ∙ ap (λ (t : ClassHeap). heap_page (nat_lt i t.pages)) (sym (class-carved_other s c n d o))
      ];
    }

pub served-after-grow : (m : Memory) (s : StackState) (c n cookie : ℕ) (ms : SecondaryState) → MayGrow m s c n → HeapOwnsItsPages m (heap_of cookie s ms) → HeapOwnsItsPages (with_new_pages m (next_page s c) n heap_attrs) (heap_of cookie (after_carve s c n) ms)
served-after-grow m s c n cookie ms g v =
    let r = regions-of m (heap_of cookie s ms) v in
    let new = regions-grown m s c n r g in
    let k = g.class in
    let low = k.low in
    let high = k.high in
    let enough = g.enough in
    let most = g.most in
    let room = v.room in
    let limit = v.limit in
    let few = v.few c low high in
    let left = pages_left-with_new_pages n m (next_page s c) heap_attrs (next-free m s c n r g) in
    let less = left-after-carve s c n in
    record {
      room = omega arith;
      limit = omega arith;
      few = new.few;
      regions = new.regions;
      mappings = λ a lo hi. new-out m s c n _ (λ x y. omega arith) ∙ v.mappings a lo hi;
    }

-- at least one block becomes whole
more-whole : (x k s : ℕ) → 0 < s → s ≤ k → x / s + 1 ≤ (x + k) / s
more-whole x k s p l =
    let a = div-mul-le_self x s in
    let e : (x / s + 1) * s ≡ x / s * s + s = grind arith in
    (le-div_iff_mul-le p).1 (omega arith)

some-append : (c m n : ℕ) (xs : List ℕ) → 0 < n → blocks_from c m n ++ xs ≡ [] → ⊥
some-append c m zero xs l e = omega arith
some-append c m (suc n) xs l e = cc

pub grown-some : (s : StackState) (c n : ℕ) → IsClass c → size_of c ≤ PAGE_SIZE * n → stack_of (after_carve s c n) c ≡ [] → ⊥
grown-some s c n k l e =
    let more = more-whole (PAGE_SIZE * pages_of s c) (PAGE_SIZE * n) (size_of c) (size-pos c k) l in
    let sum : PAGE_SIZE * (pages_of s c + n) ≡ PAGE_SIZE * pages_of s c + PAGE_SIZE * n = omega arith in
    let count = ap (λ t. t / size_of c) sum in
    some-append c (carved_count c (pages_of s c)) (carved_count c (pages_of s c + n) - carved_count c (pages_of s c)) (stack_of s c) (omega arith)
    (ap (λ (t : ClassHeap). t.stack) (sym (class-after-carve s c n)) ∙ e)

-- ---- a mapping and its pages come

pub places-of : (m : Memory) (h : HeapState) → HeapOwnsItsPages m h → ArePlaces m h.maps
places-of m h v = let room = v.room in let limit = v.limit in record { room = omega arith; mappings = v.mappings }

pub pages-free : (m : Memory) (ms : SecondaryState) (pages start : ℕ) → ArePlaces m ms → IsAt ms.mappings pages start → IsFree m (start / PAGE_SIZE) pages
pages-free m ms pages start v w = λ i l.
    let above = w.above in
    let below = w.below in
    let aligned = w.aligned in
    let q : start / PAGE_SIZE + i ≡ (start + PAGE_SIZE * i) / PAGE_SIZE = omega arith in
    page_at-no_attrs m (start / PAGE_SIZE + i)
    (ap (attrs_at m) q ∙ v.mappings (start + PAGE_SIZE * i) (omega arith) (omega arith) ∙ ap heap_page (w.out (start + PAGE_SIZE * i) (omega arith) (omega arith)))

pub pages-open : (m : Memory) (pages start lo hi : ℕ) → start % PAGE_SIZE ≡ 0 → start + PAGE_SIZE * pages ≤ 2 ^ 30 → start ≤ lo → hi ≤ start + PAGE_SIZE * pages → IsOpen (with_new_pages m (start / PAGE_SIZE) pages heap_attrs) lo hi
pages-open m pages start lo hi e b l h = record {
  pages = λ a x y. attrs_at-with_new_pages_in pages m (start / PAGE_SIZE) heap_attrs (a / PAGE_SIZE) (omega arith) (omega arith);
  below = omega arith;
}

more-mappings : (ms : SecondaryState) (n : Mapping) → (with_more ms n).mappings ≡ secondary.with_mapping ms.mappings n
unfolding with_more
more-mappings ms n = refl

more-limit : (ms : SecondaryState) (n : Mapping) → (with_more ms n).limit ≡ ms.limit
unfolding with_more
more-limit ms n = refl

pub served-more : (m : Memory) (s : StackState) (ms : SecondaryState) (n : Mapping) (cookie : ℕ) → IsAt ms.mappings n.pages n.start → n.pages ≤ pages_left m → HeapOwnsItsPages m (heap_of cookie s ms)
    → HeapOwnsItsPages (with_new_pages m (n.start / PAGE_SIZE) n.pages heap_attrs) (heap_of cookie s (with_more ms n))
served-more m s ms n cookie w enough v =
    let above = w.above in
    let below = w.below in
    let aligned = w.aligned in
    let room = v.room in
    let limit = v.limit in
    let list = more-mappings ms n in
    let same = more-limit ms n in
    let pages = ap secondary.pages_of list ∙ pages_of-with_mapping ms.mappings n in
    let left = pages_left-with_new_pages n.pages m (n.start / PAGE_SIZE) heap_attrs (pages-free m ms n.pages n.start (places-of m (heap_of cookie s ms) v) w) in
    let out = λ (q : ℕ) (o : n.start / PAGE_SIZE ≤ q → q < n.start / PAGE_SIZE + n.pages → ⊥). attrs_at-with_new_pages_out n.pages m (n.start / PAGE_SIZE) heap_attrs q o in
    record {
      room = omega arith;
      limit = omega arith;
      few = v.few;
      regions = λ c i lo hi l. out _ (λ x y. omega arith) ∙ v.regions c i lo hi l;
      mappings = λ a lo hi. elim (is_inside a n) as (λ b. is_inside a n ≡ b → attrs_at (with_new_pages m (n.start / PAGE_SIZE) n.pages heap_attrs) (a / PAGE_SIZE) ≡ heap_page (list_any (is_inside a) (with_more ms n).mappings)) [
        | true ↦ λ t. (elim (cases_lt a n.start) [
          | inl l ↦ (let f = inside-low a n l in cc)
          | inr l ↦ (elim (cases_lt a (secondary.end_of n)) [
            | inl u ↦ attrs_at-with_new_pages_in n.pages m (n.start / PAGE_SIZE) heap_attrs (a / PAGE_SIZE) (omega arith) (omega arith)
                ∙ sym (ap heap_page (ap (list_any (is_inside a)) list ∙ inside-more ms.mappings n a ∙ ap (λ b. b || list_any (is_inside a) ms.mappings) t))
            | inr u ↦ (let f = inside-high a n u in cc)
          ])
        ])
        | false ↦ λ t. (out (a / PAGE_SIZE) (λ x y. (let f : is_inside a n ≡ true = inside-in a n (omega arith) (omega arith) in cc))
            ∙ v.mappings a lo hi ∙ sym (ap heap_page (ap (list_any (is_inside a)) list ∙ inside-more ms.mappings n a ∙ ap (λ b. b || list_any (is_inside a) ms.mappings) t)))
      ] refl;
    }

pub same-pages : (s : StackState) → SamePages s s
same-pages s = record { left = refl; pages = λ d. refl }
