-- An ELF64 file as numbers: its file header and its table of program headers (System V ABI, Object
-- Files).
use Rattle.std.specs.Prelude.{ℕ, zero, suc, ◌+◌, ◌≤◌, ◌==◌, nat_lt, ◌&&◌, Bool, List, [], ◌∷◌, drop}
use Rattle.std.specs.Prelude.{map, filter, length}
use Rattle.byteorder.specs.Endian.{little_number}
use Rattle.mte_elf.specs.declared.headers.ProgramHeader.{ProgramHeader}
use Rattle.mte_elf.specs.declared.image.Segment.{Segment}

-- the number of n bytes at a place of the file, the lowest byte first
unfoldable pub number_at : List ℕ → ℕ → ℕ → ℕ
number_at file n at = little_number n (drop at file)

-- The file has n bytes from a place on.
abbrev pub HasField : List ℕ → ℕ → ℕ → Type 0
HasField file n at = at + n ≤ length file

-- The file has the 64 bytes of a file header.
abbrev pub HasFileHeader : List ℕ → Type 0
HasFileHeader file = 64 ≤ length file

-- e_type
abbrev pub file_type_of : List ℕ → ℕ
file_type_of file = number_at file 2 16

-- e_machine
abbrev pub machine_of : List ℕ → ℕ
machine_of file = number_at file 2 18

-- e_entry
abbrev pub entry_of : List ℕ → ℕ
entry_of file = number_at file 8 24

-- e_phoff
abbrev pub table_offset_of : List ℕ → ℕ
table_offset_of file = number_at file 8 32

-- e_phentsize
abbrev pub header_size_of : List ℕ → ℕ
header_size_of file = number_at file 2 54

-- e_phnum
abbrev pub header_count_of : List ℕ → ℕ
header_count_of file = number_at file 2 56

-- the program header of 56 bytes at a place
unfoldable pub header_at : List ℕ → ℕ → ProgramHeader
header_at file at = record {
  kind = number_at file 4 at;
  flags = number_at file 4 (at + 4);
  offset = number_at file 8 (at + 8);
  vaddr = number_at file 8 (at + 16);
  filesz = number_at file 8 (at + 32);
  memsz = number_at file 8 (at + 40);
}

-- n of them, one after the other
abbrev pub headers_from : List ℕ → ℕ → ℕ → List ProgramHeader
headers_from file at zero = []
headers_from file at (suc n) = header_at file at ∷ headers_from file (at + 56) n

-- the table of program headers
abbrev pub headers_of : List ℕ → List ProgramHeader
headers_of file = headers_from file (table_offset_of file) (header_count_of file)

-- PT_INTERP
abbrev pub is_interpreter : ProgramHeader → Bool
is_interpreter header = header.kind == 3

-- PT_LOAD, with bytes in memory
abbrev pub is_loaded : ProgramHeader → Bool
is_loaded header = (header.kind == 1) && nat_lt 0 header.memsz

-- The segment of a program header.
abbrev pub segment_of : ProgramHeader → Segment
segment_of header = record {
  vaddr = header.vaddr;
  memsz = header.memsz;
  offset = header.offset;
  filesz = header.filesz;
  flags = header.flags;
}

-- the segments that are loaded, in the order of the headers
abbrev pub segments_of : List ℕ → List Segment
segments_of file = map segment_of (filter is_loaded (headers_of file))
