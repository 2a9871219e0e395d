-- The memory after an image was loaded.
use Rattle.std.specs.Prelude.{ℕ, ◌+◌, ◌==◌, List, [], ◌∷◌, if◌then◌else◌, slice_range}
use Rattle.mte_tags.specs.Memory.{Memory, with_new_pages}
use Rattle.mte_tags.specs.Accesses.{with_bytes_at}
use Rattle.mte_tags.specs.declared.attrs.Attrs.{Attrs}
use Rattle.mte_tags.specs.declared.attrs.TheConstants.Attrs.{READ, EXEC, DATA}
use Rattle.mte_elf.specs.Images.{first_page, page_count, is_readable, is_writable, is_executable}
use Rattle.mte_elf.specs.declared.image.Segment.{Segment}

-- the attributes of a segment's pages: what may be written is DATA, which is READ, WRITE and TAGGED
abbrev pub attrs_of : ℕ → Attrs
attrs_of flags = record {
  0 = (if is_writable flags then DATA.0 else (if is_readable flags then READ.0 else 0))
      + (if is_executable flags then EXEC.0 else 0);
}

-- a segment's bytes that are in the file
abbrev pub file_part : List ℕ → Segment → List ℕ
file_part file s = if s.filesz == 0 then [] else slice_range file s.offset (s.offset + s.filesz)

-- a memory with a segment's pages, which hold the segment's part of the file and zeros
unfoldable pub with_segment : List ℕ → Memory → Segment → Memory
with_segment file m s =
    with_bytes_at (with_new_pages m (first_page s) (page_count s) (attrs_of s.flags)) s.vaddr
    (file_part file s)

-- a memory with the pages of segments
unfoldable pub with_segments : List ℕ → Memory → List Segment → Memory
with_segments file m [] = m
with_segments file m (s ∷ more) = with_segments file (with_segment file m s) more
