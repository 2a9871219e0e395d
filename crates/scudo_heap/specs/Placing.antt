-- Heap calls for a chunk of a size class: its tags, its header and its block.
--     after_grow w class            a class without free blocks gets pages
--     after_place w origin p        the chunk is made in the block on top of its class's stack
--     after_give_back w p header    the chunk is freed
--     after_resize w p header size  it gets another size in its block
use Rattle.std.specs.Prelude.{ℕ, ◌+◌, ◌-◌, ◌/◌}
use Rattle.mte_tags.specs.Memory.{Memory, with_new_pages, data_attrs}
use Rattle.mte_tags.specs.RandomTags.{after_draw}
use Rattle.mte_tags.specs.declared.attrs.Attrs.{Attrs}
use Rattle.mte_tags.specs.declared.generator.Rgsr.{Rgsr}
use Rattle.scudo_header.specs.Classes.{size_of}
use Rattle.scudo_header.specs.Regions.{region_of}
use Rattle.scudo_header.specs.declared.headers.Header.{Header}
use Rattle.scudo_header.specs.declared.headers.Origin.{Origin}
use Rattle.scudo_header.specs.declared.headers.State.TheVariants.{Available, Allocated}
use Rattle.common.specs.declared.limits.TheConstants.{PAGE_SIZE}
use Rattle.scudo_heap.specs.declared.chunk.Place.{Place}
use Rattle.scudo_heap.specs.Stacks.{StackState, pages_of, after_pop, after_push, after_carve}
use Rattle.scudo_heap.specs.Heaps.{HeapState}
use Rattle.scudo_heap.specs.Chunks.{with_chunk_tag, with_end_tag_0, with_header_tag_0, with_header}
use Rattle.scudo_heap.specs.Chunks.{excluded_tags, after_retag_tail}

-- The parts that a heap call changes: the tenant's memory, its heap, and its generator of random
-- tags.
pub record World : Type 0 where
  pub memory : Memory
  pub heap : HeapState
  pub rgsr : Rgsr

-- A world of its parts.
abbrev pub world_of : Memory → HeapState → Rgsr → World
world_of m h r = record { memory = m; heap = h; rgsr = r }

-- The attributes of the heap's pages: those of data.
abbrev pub heap_attrs : Attrs
heap_attrs = data_attrs

-- The pages that hold `size` bytes.
abbrev pub pages_for : ℕ → ℕ
pages_for size = (size + (PAGE_SIZE - 1)) / PAGE_SIZE

-- ---- pages for a class: as many as one block needs

-- The pages that a class gets at once.
abbrev pub more_pages : ℕ → ℕ
more_pages class = pages_for (size_of class)

-- The first page of a class's region that is not mapped.
abbrev pub next_page : StackState → ℕ → ℕ
next_page s class = region_of class / PAGE_SIZE + pages_of s class

-- A class gets pages, which are mapped and carved.
unfoldable pub after_grow : World → ℕ → World
after_grow w class = record w {
  memory = with_new_pages w.memory (next_page w.heap.stacks class) (more_pages class) heap_attrs;
  heap = record w.heap { stacks = after_carve w.heap.stacks class (more_pages class) };
}

-- ---- a new chunk

-- The header of a new chunk.
abbrev pub new_header : Origin → Place → Header
new_header origin p = record {
  class_id = p.class;
  state = Allocated;
  origin = origin;
  size_or_unused_bytes = p.size;
  offset = (p.user - p.block - 16) / 16;
}

-- A tag is drawn for the chunk's granules, which become zero; the granules next to them get tag 0,
-- and the header is written. The block is no longer free.
unfoldable pub after_place : World → Origin → Place → World
after_place w origin p =
    let drawn = after_draw w.rgsr (excluded_tags w.memory p) in
    let tagged = with_chunk_tag w.memory p drawn.tag in
    let closed = with_end_tag_0 (with_header_tag_0 tagged p) p in
    record {
      memory = with_header closed w.heap.cookie p.user (new_header origin p);
      heap = record w.heap { stacks = after_pop w.heap.stacks p.class };
      rgsr = drawn.rgsr;
    }

-- ---- a chunk that is freed

-- Another tag is drawn for its granules, which become zero, and the header says that it is free.
-- Its block comes on top of the stack.
unfoldable pub after_give_back : World → Place → Header → World
after_give_back w p header =
    let drawn = after_draw w.rgsr (excluded_tags w.memory p) in
    let tagged = with_chunk_tag w.memory p drawn.tag in
    record {
      memory = with_header tagged w.heap.cookie p.user (record header { state = Available });
      heap = record w.heap { stacks = after_push w.heap.stacks p.class p.block };
      rgsr = drawn.rgsr;
    }

-- ---- a chunk that gets another size in its block

-- A chunk has another size in its block.
unfoldable pub after_resize : World → Place → Header → ℕ → World
after_resize w p header size = record w {
  memory =
      with_header (after_retag_tail w.memory p size) w.heap.cookie p.user
      (record header { size_or_unused_bytes = size });
}
