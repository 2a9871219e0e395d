-- Which files are images, and what an image holds (System V ABI, Object Files and Program Loading).
use Rattle.std.specs.Prelude.{ℕ, ◌+◌, ◌-◌, ◌*◌, ◌/◌, ◌%◌, ◌==◌, nat_lt, nat_le, ◌&&◌, ◌||◌, Bool}
use Rattle.std.specs.Prelude.{false, not, List, [], ◌∷◌, ◌++◌, length, Option, Some, None}
use Rattle.std.specs.Prelude.{if◌then◌else◌, nat_eq, sum_by}
use Rattle.std.specs.List.{list_any, list_all, starts_with}
use Rattle.mte_elf.specs.Headers.{file_type_of, machine_of, entry_of, table_offset_of}
use Rattle.mte_elf.specs.Headers.{header_size_of, header_count_of, headers_of, is_interpreter}
use Rattle.mte_elf.specs.Headers.{segments_of}
use Rattle.common.specs.declared.ranges.TheConstants.{IMAGE_START, IMAGE_END}
use Rattle.mte_elf.specs.declared.image.Segment.{Segment}
use Rattle.mte_elf.specs.declared.error.ElfError.{ElfError}
use Rattle.mte_elf.specs.declared.error.ElfError.TheVariants.{Short, NotElf64, NotAarch64, NotExec}
use Rattle.mte_elf.specs.declared.error.ElfError.TheVariants.{BadHeaders, Interpreter, SegmentRange}
use Rattle.mte_elf.specs.declared.error.ElfError.TheVariants.{Overlap, NoEntry}

-- 0x7F 'E' 'L' 'F', 64 bits, little-endian, version 1
abbrev pub identification : List ℕ
identification = 0x7F ∷ 0x45 ∷ 0x4C ∷ 0x46 ∷ 2 ∷ 1 ∷ 1 ∷ []

-- the table has 1 to 64 headers of 56 bytes, and ends in the file
abbrev pub has_table : List ℕ → Bool
has_table file =
    (header_size_of file == 56) && nat_lt 0 (header_count_of file)
    && nat_le (header_count_of file) 64
    && nat_le (table_offset_of file + 56 * header_count_of file) (length file)

-- a segment's file part is no larger than the segment and is in the file, and its addresses are
-- in the range for images
abbrev pub is_in_range : ℕ → Segment → Bool
is_in_range size s =
    nat_le s.filesz s.memsz && ((s.filesz == 0) || nat_le (s.offset + s.filesz) size)
    && nat_le IMAGE_START s.vaddr && nat_le (s.vaddr + s.memsz) IMAGE_END

-- the first and the last page that a segment touches
abbrev pub first_page : Segment → ℕ
first_page s = s.vaddr / 4096

-- The number of the last page of a segment.
abbrev pub last_page : Segment → ℕ
last_page s = (s.vaddr + s.memsz - 1) / 4096

-- how many pages it touches
abbrev pub page_count : Segment → ℕ
page_count s = last_page s + 1 - first_page s

-- Whether two segments have a page in common.
abbrev pub share_page : Segment → Segment → Bool
share_page s t = nat_le (first_page s) (last_page t) && nat_le (first_page t) (last_page s)

-- some two of the segments touch one page
abbrev pub any_share_page : List Segment → Bool
any_share_page [] = false
any_share_page (s ∷ more) = list_any (share_page s) more || any_share_page more

-- what p_flags says: PF_R is 4, PF_W is 2, PF_X is 1
abbrev pub is_readable : ℕ → Bool
is_readable flags = flags / 4 % 2 == 1

-- PF_W
abbrev pub is_writable : ℕ → Bool
is_writable flags = flags / 2 % 2 == 1

-- PF_X
abbrev pub is_executable : ℕ → Bool
is_executable flags = flags % 2 == 1

-- the entry is an address of an executable segment
abbrev pub is_entry : ℕ → Segment → Bool
is_entry entry s =
    is_executable s.flags && nat_le s.vaddr entry && nat_lt entry (s.vaddr + s.memsz)

-- the first test of a list that fails
abbrev pub first_refusal : List (Bool × ElfError) → Option ElfError
first_refusal [] = None
first_refusal (test ∷ more) = if test.0 then Some test.1 else first_refusal more

-- what a file's header and its program headers are tested for, in this order, each test with its
-- refusal
abbrev pub header_tests : List ℕ → List (Bool × ElfError)
header_tests file =
    (nat_lt (length file) 64, Short)
    ∷ (not (starts_with nat_eq file identification), NotElf64)
    ∷ (not (machine_of file == 183), NotAarch64)
    ∷ (not (file_type_of file == 2), NotExec)
    ∷ (not (has_table file), BadHeaders)
    ∷ (list_any is_interpreter (headers_of file), Interpreter)
    ∷ []

-- and then its segments
abbrev pub segment_tests : List ℕ → List (Bool × ElfError)
segment_tests file =
    (not (list_all (is_in_range (length file)) (segments_of file)), SegmentRange)
    ∷ (any_share_page (segments_of file), Overlap)
    ∷ (not (list_any (is_entry (entry_of file)) (segments_of file)), NoEntry)
    ∷ []

-- The tests of a file, in this order, each with its refusal.
abbrev pub tests_of : List ℕ → List (Bool × ElfError)
tests_of file = header_tests file ++ segment_tests file

-- why a file is no image by its headers alone
abbrev pub header_refusal : List ℕ → Option ElfError
header_refusal file = first_refusal (header_tests file)

-- why a file is no image, if it is none
unfoldable pub refusal_of : List ℕ → Option ElfError
refusal_of file = first_refusal (tests_of file)

-- how many pages an image has
abbrev pub pages_of : List ℕ → ℕ
pages_of file = sum_by page_count (segments_of file)
