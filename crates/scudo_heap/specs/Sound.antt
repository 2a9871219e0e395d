-- The invariant of every heap, whatever the calls were, and of a heap with its memory.
use Rattle.std.specs.Prelude.{ℕ, ◌+◌, ◌<◌, ◌≤◌}
use Rattle.scudo_header.specs.declared.config.TheConstants.{CLASSES}
use Rattle.scudo_secondary.specs.Mappings.{AreMappings}
use Rattle.common.specs.declared.limits.TheConstants.{MAX_PAGES}
use Rattle.scudo_heap.specs.Stacks.{StackState, AreSound, pages_of}
use Rattle.scudo_heap.specs.Heaps.{HeapState}
use Rattle.scudo_heap.specs.Placing.{World}
use Rattle.scudo_heap.specs.Served.{HeapOwnsItsPages}

-- The invariant of every heap.
pub record IsSound (h : HeapState) : Type 0 where
  pub stacks : AreSound h.stacks
  pub mappings : AreMappings h.maps.mappings

-- A class may have all pages that are left: with its own they are within the limit.
abbrev pub HasRoom : StackState → Type 0
HasRoom s =
    (class : ℕ) → 0 < class → class ≤ CLASSES → pages_of s class + s.left ≤ MAX_PAGES

-- The invariant of a heap with its memory: it holds at the start, and each call and each access
-- keeps it. owned: the condition of the calls
pub record IsSoundWorld (w : World) : Type 0 where
  pub owned : HeapOwnsItsPages w.memory w.heap
  pub room : HasRoom w.heap.stacks
  pub parts : IsSound w.heap
