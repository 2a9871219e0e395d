-- What the tags of the size classes need, of the heap's condition.
use Rattle.std.proofs.Common.{◌≡◌, ℕ, ◌+◌, ◌-◌, ◌/◌, ◌<◌, ◌≤◌, ◌⊎◌, Bool, true, false, Option, Some, None, nat_lt, refl, ap, ◌∙◌, inl, inr, arith}
use Rattle.std.proofs.lemmas.Bool.{cases_lt, cond-true, cond-false}
use Rattle.mte_tags.specs.Memory.{Memory, attrs_at}
use Rattle.scudo_header.specs.Regions.{region_of}
use Rattle.common.specs.declared.limits.TheConstants.{PAGE_SIZE}
use Rattle.common.specs.declared.ranges.TheConstants.{REGIONS_START, REGION_SIZE, SECONDARY_START}
use Rattle.scudo_primary.specs.Blocks.{IsClass}
use Rattle.scudo_secondary.specs.Mappings.{AreMappings}
use Rattle.scudo_heap.specs.Stacks.{pages_of}
use Rattle.scudo_heap.specs.Placing.{World}
use Rattle.scudo_heap.specs.Sound.{IsSoundWorld}
use Rattle.mte_laws.specs.LiveChunks.{LiveBlocks}
use Rattle.scudo_heap.specs.Heaps.{HeapState}
use Rattle.scudo_heap.specs.Served.{HeapOwnsItsPages, heap_page}
use Rattle.scudo_heap.proofs.MapLemmas.{none-below}
use Rattle.scudo_heap.proofs.ServedLemmas.{lt-true, lt-false}
use Rattle.mte_laws.specs.CarefulRuns.{State}
use Rattle.mte_laws.specs.SoundHeaps.{Sound}
use Rattle.mte_laws.proofs.Views.{IsStacked, SoundBlocks, TaggedBlocks}

heap_page_is : (b : Bool) → (heap_page b ≡ None) ⊎ (heap_page b ≡ Some 11)
heap_page_is true = inr refl
heap_page_is false = inl refl

of_heap_page : (o : Option ℕ) (b : Bool) → o ≡ heap_page b → (o ≡ None) ⊎ (o ≡ Some 11)
of_heap_page o b e = elim (heap_page_is b) [ inl f ↦ inl (e ∙ f) | inr f ↦ inr (e ∙ f) ]

-- before the first mapping nothing is mapped
pub before-mappings : (m : Memory) (h : HeapState) (a : ℕ) → HeapOwnsItsPages m h → AreMappings h.maps.mappings → SECONDARY_START ≤ a → a < SECONDARY_START + PAGE_SIZE → attrs_at m (a / PAGE_SIZE) ≡ None
unfolding AreMappings
before-mappings m h a v k l u = v.mappings a l (omega arith) ∙ ap heap_page (none-below h.maps.mappings (SECONDARY_START + PAGE_SIZE) a k u)

in-region : (m : Memory) (h : HeapState) (c a : ℕ) → HeapOwnsItsPages m h → IsClass c → region_of c ≤ a → a < region_of c + REGION_SIZE → attrs_at m (a / PAGE_SIZE) ≡ heap_page (nat_lt ((a - region_of c) / PAGE_SIZE) (pages_of h.stacks c))
in-region m h c a v k l u =
    let e : a / PAGE_SIZE ≡ region_of c / PAGE_SIZE + (a - region_of c) / PAGE_SIZE = omega arith in
    ap (attrs_at m) e ∙ v.regions c ((a - region_of c) / PAGE_SIZE) k.low k.high (omega arith)

others : (m : Memory) (h : HeapState) (a : ℕ) → HeapOwnsItsPages m h → AreMappings h.maps.mappings → region_of 1 ≤ a → a < SECONDARY_START + 16 → (attrs_at m (a / 4096) ≡ None) ⊎ (attrs_at m (a / 4096) ≡ Some 11)
others m h a v k l u = elim (cases_lt a SECONDARY_START) [
  | inl y ↦
      let c = (a - REGIONS_START) / REGION_SIZE in
      let class : IsClass c = record { low = omega arith; high = omega arith } in
      of_heap_page (attrs_at m (a / 4096)) _ (in-region m h c a v class (omega arith) (omega arith))
  | inr y ↦ inl (before-mappings m h a v k y (omega arith))
]

pub stacked-of : (w : World) → IsSoundWorld w → IsStacked w.heap.stacks
stacked-of w v = record {
  few = λ c k. let few = v.owned.few c k.low k.high in omega arith;
  blocks = λ c b k e. (v.parts.stacks.each c k.low k.high).carved b e;
  distinct = λ c k. (v.parts.stacks.each c k.low k.high).distinct;
}

pub blocks-with : (w : World) (l : LiveBlocks) → IsSoundWorld w → TaggedBlocks w.memory w.heap.stacks l → SoundBlocks w.memory w.heap.stacks l
blocks-with w l k t =
    let m = w.memory in
    let h = w.heap in
    let v = k.owned in
    record {
      stacked = stacked-of w k;
      served = record {
        whole = t.whole;
        limit = t.limit;
        mapped = λ c a hc l u. let few = v.few c hc.low hc.high in in-region m h c a v hc l (omega arith) ∙ cond-true _ _ _ (lt-true ((a - region_of c) / PAGE_SIZE) (pages_of h.stacks c) (omega arith));
        others = λ a l u. others m h a v k.parts.mappings l u;
        free = λ c a hc l u. in-region m h c a v hc (omega arith) (omega arith) ∙ cond-false _ _ _ (lt-false ((a - region_of c) / PAGE_SIZE) (pages_of h.stacks c) (omega arith));
      };
      placed = t.placed;
      tagged = t.tagged;
    }

pub blocks-of : (s : State) → Sound s → SoundBlocks s.world.memory s.world.heap.stacks s.live.blocks
blocks-of s k = blocks-with s.world s.live.blocks k.heap (record { whole = k.whole; limit = k.limit; placed = k.placed; tagged = k.tagged })
