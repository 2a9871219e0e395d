-- When a memory is one that a heap may be used with: the condition of the heap calls, which each of
-- them keeps.
use Rattle.std.specs.Prelude.{◌≡◌, ℕ, ◌+◌, ◌/◌, ◌<◌, ◌≤◌, ◌&&◌, nat_lt, nat_le, Bool}
use Rattle.std.specs.Prelude.{Option, Some, None, if◌then◌else◌}
use Rattle.std.specs.List.{list_any}
use Rattle.mte_tags.specs.Memory.{Memory, attrs_at, pages_left, data_attrs}
use Rattle.mte_tags.specs.declared.generator.Rgsr.{Rgsr}
use Rattle.scudo_header.specs.Regions.{region_of}
use Rattle.scudo_header.specs.declared.config.TheConstants.{CLASSES}
use Rattle.scudo_secondary.specs.Mappings as secondary
use Rattle.scudo_secondary.specs.declared.mappings.Mapping.{Mapping}
use Rattle.common.specs.declared.limits.TheConstants.{PAGE_SIZE}
use Rattle.common.specs.declared.ranges.TheConstants.{REGION_SIZE}
use Rattle.common.specs.declared.ranges.TheConstants.{SECONDARY_START, SECONDARY_END}
use Rattle.scudo_heap.specs.Stacks.{pages_of}
use Rattle.scudo_heap.specs.Heaps.{HeapState}

-- READ, WRITE and TAGGED where a page is the heap's, else no page.
abbrev pub heap_page : Bool → Option ℕ
heap_page mine = if mine then Some data_attrs.0 else None

-- Whether an address is in a mapping.
abbrev pub is_inside : ℕ → Mapping → Bool
is_inside a m = nat_le m.start a && nat_lt a (secondary.end_of m)

-- room: the heap has capacity for all pages that are left in the memory; it is so from the start
-- where the memory may have at most the pages that the heap was made for
-- few: a class's pages are in its region
-- regions: of a class's region exactly its pages are mapped
-- mappings: of the range of chunks with pages of their own exactly theirs are mapped
pub record HeapOwnsItsPages (m : Memory) (h : HeapState) : Type 0 where
  pub room : pages_left m + secondary.pages_of h.maps.mappings ≤ h.stacks.left
  pub limit : h.stacks.left ≤ h.maps.limit
  pub few :
      (class : ℕ) → 0 < class → class ≤ CLASSES → pages_of h.stacks class ≤ REGION_SIZE / PAGE_SIZE
  pub regions :
      (class i : ℕ) → 0 < class → class ≤ CLASSES → i < REGION_SIZE / PAGE_SIZE
      → attrs_at m (region_of class / PAGE_SIZE + i)
      ≡ heap_page (nat_lt i (pages_of h.stacks class))
  pub mappings :
      (a : ℕ) → SECONDARY_START ≤ a → a < SECONDARY_END
      → attrs_at m (a / PAGE_SIZE) ≡ heap_page (list_any (is_inside a) h.maps.mappings)

-- The tag that a generator drew last is one.
abbrev pub HasTag : Rgsr → Type 0
HasTag r = r.tag < 16

-- no page is where those of a heap are: from the first class's region to the end of the range of
-- chunks with pages of their own
abbrev pub IsUntouched : Memory → Type 0
IsUntouched m =
    (page : ℕ) → region_of 1 / PAGE_SIZE ≤ page → page < SECONDARY_END / PAGE_SIZE
    → attrs_at m page ≡ None
