-- The chunks with pages of their own (Scudo, secondary.h). Their tags all stay 0, and none is
-- drawn.
use Rattle.std.specs.Prelude.{ℕ, ◌+◌, ◌-◌, ◌*◌, ◌/◌}
use Rattle.mte_tags.specs.Memory.{with_new_pages, without_pages}
use Rattle.scudo_header.specs.declared.headers.Header.{Header}
use Rattle.scudo_header.specs.declared.headers.Origin.{Origin}
use Rattle.scudo_header.specs.declared.headers.State.TheVariants.{Allocated}
use Rattle.scudo_secondary.specs.Mappings as secondary
use Rattle.scudo_secondary.specs.declared.mappings.Mapping.{Mapping}
use Rattle.common.specs.declared.limits.TheConstants.{PAGE_SIZE}
use Rattle.scudo_heap.specs.Heaps.{with_more, with_less}
use Rattle.scudo_heap.specs.Chunks.{with_header}
use Rattle.scudo_heap.specs.Placing.{World, heap_attrs}

-- The mapping of a chunk in `pages` pages from an address on: it ends as near to their end as its
-- alignment allows.
abbrev pub mapping_for : ℕ → ℕ → ℕ → ℕ → Mapping
mapping_for start pages align size = record {
  start = start;
  pages = pages;
  user = (start + PAGE_SIZE * pages - size) / align * align;
}

-- The bytes of a mapping from its user address on that a chunk of a size leaves.
abbrev pub unused_in : Mapping → ℕ → ℕ
unused_in m size = secondary.end_of m - m.user - size

-- The header of a chunk with pages of its own.
abbrev pub large_header : Origin → Mapping → ℕ → Header
large_header origin m size = record {
  class_id = 0;
  state = Allocated;
  origin = origin;
  size_or_unused_bytes = unused_in m size;
  offset = 0;
}

-- A chunk with pages of its own is made in a mapping.
unfoldable pub large_placed : World → Origin → Mapping → ℕ → World
large_placed w origin m size = record w {
  memory =
      with_header (with_new_pages w.memory
      (m.start / PAGE_SIZE) m.pages heap_attrs) w.heap.cookie m.user
      (large_header origin m size);
  heap = record w.heap { maps = with_more w.heap.maps m };
}

-- A chunk with pages of its own is freed: its pages are unmapped.
unfoldable pub large_given_back : World → Mapping → World
large_given_back w m = record w {
  memory = without_pages w.memory (m.start / PAGE_SIZE) m.pages;
  heap = record w.heap { maps = with_less w.heap.maps m };
}
