-- The condition of the calls, at the start and after what others do.
use Rattle.std.proofs.Common.{◌≡◌, ℕ, ◌+◌, ◌/◌, ◌<◌, ◌≤◌, nat_lt, Bool, true, false, Result, is_ok, List, None, refl, sym, ap, subst, ◌∙◌, arith, []}
use Rattle.std.proofs.lemmas.Bool.{cond-false}
use Rattle.mte_tags.specs.Memory.{Memory, attrs_at, attrs_cases, pages_left, no_pages, with_granules}
use Rattle.mte_tags.specs.declared.state.TagMode.{TagMode}
use Rattle.std.specs.Prelude.{if◌then◌else◌}
use Rattle.mte_tags.specs.Accesses.{after_write, after_read}
use Rattle.mte_tags.specs.declared.fault.MemFault.{MemFault}
use Rattle.mte_tags.proofs.PageLaws.{attrs_at-with_granules, pages_left-with_granules}
use Rattle.mte_tags.proofs.Pages.{page_at-no_pages}
use Rattle.mte_tags.proofs.StateLaws.{attrs-after_read, attrs-after_write, left-after_read, left-after_write}
use Rattle.scudo_primary.specs.Blocks.{IsClass}
use Rattle.scudo_heap.specs.Stacks.{ClassHeap, empty_class, empty_stacks, memory_for, class_at}
use Rattle.scudo_heap.specs.Heaps.{HeapState, empty_heap}
use Rattle.common.specs.declared.limits.TheConstants.{PAGE_SIZE, MAX_PAGES}
use Rattle.common.specs.declared.ranges.TheConstants.{SECONDARY_END}
use Rattle.scudo_header.specs.Regions.{region_of}
use Rattle.scudo_secondary.specs.Mappings.{pages_of}
use Rattle.scudo_heap.specs.Served.{HeapOwnsItsPages, IsUntouched}
use Rattle.scudo_heap.proofs.StackLemmas.{class_at-stacks_by}
use Rattle.scudo_heap.proofs.ServedLemmas.{served-on, same-pages, lt-false}
use Rattle.mte_tags.specs.declared.generator.Rgsr.{Rgsr}
use Rattle.scudo_secondary.proofs.MappingLemmas.{none_ordered}
use Rattle.scudo_heap.specs.Placing.{world_of}
use Rattle.scudo_heap.specs.Sound.{IsSoundWorld}
use Rattle.scudo_heap.specs.Inner.{AreHeapParts}
use Rattle.scudo_primary.specs.Blocks.{AreBlocks}
use Rattle.scudo_primary.proofs.BlockLists.{no-blocks}

left-most : (m : Memory) → pages_left m ≤ m.limit
unfolding pages_left
left-most m = omega arith

left-empty : (n : ℕ) → (empty_stacks n).left ≡ n
unfolding empty_stacks
left-empty n = refl

class-empty : (n : ℕ) (c : ℕ) → IsClass c → class_at (empty_stacks n) c ≡ empty_class
unfolding empty_stacks
class-empty n c h = class_at-stacks_by n (memory_for n) (λ _. empty_class) c h

pub served-first : (m : Memory) (cookie pages : ℕ) → m.limit ≤ pages → IsUntouched m → HeapOwnsItsPages m (empty_heap cookie pages)
served-first m cookie pages l u =
    let most = left-most m in
    let left = left-empty pages in
    record {
      room = omega arith;
      limit = omega arith;
      few = λ c lo hi. let e = ap (λ (k : ClassHeap). k.pages) (class-empty pages c (record { low = lo; high = hi })) in omega arith;
      regions = λ c i lo hi k. u _ (omega arith) (omega arith)
          ∙ sym (cond-false _ _ _ (ap (λ (t : ClassHeap). nat_lt i t.pages) (class-empty pages c (record { low = lo; high = hi })) ∙ lt-false i 0 (omega arith)));
      mappings = λ a lo hi. u _ (omega arith) (omega arith);
    }

pub parts-first : (cookie pages : ℕ) → pages ≤ MAX_PAGES → AreHeapParts (empty_heap cookie pages)
parts-first cookie pages most =
    let left = left-empty pages in
    let class : (c : ℕ) → IsClass c → class_at (empty_stacks pages) c ≡ empty_class = λ c k. class-empty pages c k in
    record {
      room = λ c lo hi. let e = ap (λ (k : ClassHeap). k.pages) (class c (record { low = lo; high = hi })) in omega arith;
      sound = record {
        stacks = record {
          each = λ c lo hi. subst (λ (k : ClassHeap). AreBlocks c k.pages k.stack) (sym (class c (record { low = lo; high = hi }))) (no-blocks c 0);
        };
        mappings = none_ordered [] refl;
      };
    }

pub sound-first : (m : Memory) (cookie pages : ℕ) (r : Rgsr) → m.limit ≤ pages → pages ≤ MAX_PAGES → IsUntouched m → IsSoundWorld (world_of m (empty_heap cookie pages) r)
sound-first m cookie pages r l most u = let p = parts-first cookie pages most in record { owned = served-first m cookie pages l u; room = p.room; parts = p.sound }

limit-no_pages : (n : ℕ) (mode : TagMode) → (no_pages n mode).limit ≡ n
unfolding no_pages
limit-no_pages n mode = refl

attrs-no_pages : (n : ℕ) (mode : TagMode) (q : ℕ) → attrs_at (no_pages n mode) q ≡ None
unfolding attrs_at
attrs-no_pages n mode q = ap attrs_cases (page_at-no_pages n mode q)

-- a heap and a memory that are new
pub served-new : (m : Memory) (h : HeapState) (cookie pages n : ℕ) (mode : TagMode) → m ≡ no_pages n mode → h ≡ empty_heap cookie pages → n ≤ pages → HeapOwnsItsPages m h
served-new m h cookie pages n mode em eh l =
    let limit = limit-no_pages n mode in
    subst (λ t. HeapOwnsItsPages t h) (sym em) (subst (HeapOwnsItsPages (no_pages n mode)) (sym eh) (served-first (no_pages n mode) cookie pages (omega arith) (λ q lo hi. attrs-no_pages n mode q)))

pub served-same : (m m' : Memory) (h : HeapState) → HeapOwnsItsPages m h → ((q : ℕ) → attrs_at m' q ≡ attrs_at m q) → pages_left m' ≡ pages_left m → HeapOwnsItsPages m' h
served-same m m' h v a l = served-on m m' h h.stacks h.cookie v a l (same-pages h.stacks)

-- the pages elsewhere may change
pub served-others : (m m' : Memory) (h : HeapState) → HeapOwnsItsPages m h → ((q : ℕ) → region_of 1 / PAGE_SIZE ≤ q → q < SECONDARY_END / PAGE_SIZE → attrs_at m' q ≡ attrs_at m q) → pages_left m' + pages_of h.maps.mappings ≤ h.stacks.left → HeapOwnsItsPages m' h
served-others m m' h v a l = record {
  room = l;
  limit = v.limit;
  few = v.few;
  regions = λ c i lo hi k. a _ (omega arith) (omega arith) ∙ v.regions c i lo hi k;
  mappings = λ x lo hi. a _ (omega arith) (omega arith) ∙ v.mappings x lo hi;
}

-- ---- accesses

pub served-read : (m : Memory) (a n : ℕ) (check : Bool) (h : HeapState) → HeapOwnsItsPages m h → HeapOwnsItsPages (after_read m a n check) h
served-read m a n check h v = served-same m _ h v (λ q. attrs-after_read m a n check q) (left-after_read m a n check)

pub served-write : (m : Memory) (a : ℕ) (bytes : List ℕ) (check : Bool) (h : HeapState) → HeapOwnsItsPages m h → HeapOwnsItsPages (after_write m a bytes check) h
served-write m a bytes check h v = served-same m _ h v (λ q. attrs-after_write m a bytes check q) (left-after_write m a bytes check)

pub served-tags : (m : Memory) (a n tag : ℕ) (zero_bytes : Bool) (h : HeapState) → HeapOwnsItsPages m h → HeapOwnsItsPages (with_granules m a n tag zero_bytes) h
served-tags m a n tag zero_bytes h v = served-same m _ h v (λ q. attrs_at-with_granules n m a tag zero_bytes q) (pages_left-with_granules n m a tag zero_bytes)

-- an access that was made or not
pub served-either : (b : Bool) (m n k : Memory) (h : HeapState) → HeapOwnsItsPages m h → HeapOwnsItsPages n h → k ≡ (if b then n else m) → HeapOwnsItsPages k h
served-either true m n k h v w e = subst (λ t. HeapOwnsItsPages t h) (sym e) w
served-either false m n k h v w e = subst (λ t. HeapOwnsItsPages t h) (sym e) v

pub served-with-bytes-at : (m m' : Memory) (a : ℕ) (bs : List ℕ) (h : HeapState) (r : Result (Unit {0}) MemFault) → HeapOwnsItsPages m h → m' ≡ (if is_ok r then after_write m a bs false else m) → HeapOwnsItsPages m' h
served-with-bytes-at m m' a bs h r v e = served-either (is_ok r) m (after_write m a bs false) m' h v (served-write m a bs false h v) e

pub ruleset served_laws = (served-new, served-with-bytes-at)
