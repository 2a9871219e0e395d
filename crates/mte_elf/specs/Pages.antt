-- The contents of an image's pages (System V ABI, Program Loading), each page by itself.
use Rattle.std.specs.Prelude.{ℕ, ◌+◌, ◌-◌, ◌*◌, nat_lt, nat_le, ◌&&◌, Bool, List, [], ◌∷◌, map}
use Rattle.std.specs.Prelude.{replicate, slice_index, if◌then◌else◌, Option, Some, None}
use Rattle.std.specs.List.{range_with_len}
use Rattle.mte_tags.specs.Memory.{Page}
use Rattle.mte_elf.specs.Images.{first_page, last_page}
use Rattle.mte_elf.specs.Loading.{attrs_of}
use Rattle.mte_elf.specs.declared.image.Segment.{Segment}

-- an address of a segment whose byte is in the file
abbrev pub stands_in_file : Segment → ℕ → Bool
stands_in_file s a = nat_le s.vaddr a && nat_lt a (s.vaddr + s.filesz)

-- the byte at an address of a page that a segment touches
abbrev pub byte_of : List ℕ → Segment → ℕ → ℕ
byte_of file s a = if stands_in_file s a then slice_index file (s.offset + (a - s.vaddr)) else 0

-- a page that a segment touches: its attributes, its bytes from the first address to the last,
-- every tag 0
unfoldable pub segment_page : List ℕ → Segment → ℕ → Page
segment_page file s q = record {
  attrs = (attrs_of s.flags).0;
  bytes = map (byte_of file s) (range_with_len (4096 * q) 4096);
  tags = replicate 256 0;
}

-- Whether a page is one of a segment.
abbrev pub touches_page : Segment → ℕ → Bool
touches_page s q = nat_le (first_page s) q && nat_le q (last_page s)

-- a page of an image, if a segment touches it
abbrev pub image_page : List ℕ → List Segment → ℕ → Option Page
image_page file [] q = None
image_page file (s ∷ more) q =
    if touches_page s q then Some (segment_page file s q) else image_page file more q

-- a page of a memory with an image: the image's, and elsewhere the memory's own
abbrev pub page_or : Option Page → Option Page → Option Page
page_or (Some p) own = Some p
page_or None own = own
