-- Loops over program headers and segments.
use Rattle.std.proofs.Common.{◌≡◌, ℕ, zero, suc, ◌+◌, ◌*◌, ◌-◌, ◌<◌, ◌≤◌, List, [], ◌∷◌, ◌++◌, length, drop, get_or, true, false, ◌&&◌, refl, arith, append_assoc, sum_by, count_by, filter, map, ◌^◌, take, Bool, nat_le}
use Rattle.std.specs.List.{list_any, list_all}
use Rattle.std.proofs.lemmas.List.{take_all, append-nil, length-map}
use Rattle.std.proofs.lemmas.List.Sums.{sum_by-cons, length-filter, count_by-le-length}
use Rattle.std.proofs.lemmas.Bool.{leb-true}
use Rattle.std.proofs.lemmas.List.{drop_more}
use Rattle.mte_elf.specs.Headers.{header_at, headers_from}
use Rattle.mte_elf.specs.Images.{any_share_page, share_page, is_in_range, page_count, has_table}
use Rattle.mte_elf.specs.Headers.{is_loaded, segment_of, header_count_of, table_offset_of}
use Rattle.mte_elf.specs.declared.image.Segment.{Segment}
use Rattle.mte_elf.specs.declared.headers.ProgramHeader.{ProgramHeader}

-- what a test of two parts tells
pub and_true : (a b : Bool) → (a && b) ≡ true → (a ≡ true) × (b ≡ true)
and_true true b h = (refl, h)
and_true false b h = cc

pub headers_from-next : (file : List ℕ) (at i count : ℕ) (xs all : List ProgramHeader) → i < count
    → xs ++ headers_from file (at + 56 * i) (count - i) ≡ all
    → (xs ++ header_at file (at + 56 * i) ∷ []) ++ headers_from file (at + 56 * (i + 1)) (count - (i + 1)) ≡ all
headers_from-next file at i count xs all below e =
    let one_more : count - i ≡ suc (count - (i + 1)) = omega arith in
    let next : at + 56 * i + 56 ≡ at + 56 * (i + 1) = omega arith in
    let f = rw one_more at e in
    let g = rw next at f in
    rw append_assoc g

pub length-headers_from : (file : List ℕ) (at count : ℕ) → length (headers_from file at count) ≡ count
length-headers_from file at zero = refl
length-headers_from file at (suc n) = rw (length-headers_from file (at + 56) n) refl

pub headers_from-all : (file : List ℕ) (at i count : ℕ) (xs all : List ProgramHeader) → count ≤ i
    → xs ++ headers_from file (at + 56 * i) (count - i) ≡ all → xs ≡ all
headers_from-all file at i count xs all over e =
    let none_left : count - i ≡ 0 = omega arith in
    rw (none_left, append-nil) at e

-- a search from one header to the next
pub any_header-next : (file : List ℕ) (at i count : ℕ) (p : ProgramHeader → Bool) (r : Bool) → i < count → p (header_at file (at + 56 * i)) ≡ false
    → list_any p (headers_from file (at + 56 * i) (count - i)) ≡ r
    → list_any p (headers_from file (at + 56 * (i + 1)) (count - (i + 1))) ≡ r
any_header-next file at i count p r below other e =
    let one_more : count - i ≡ suc (count - (i + 1)) = omega arith in
    let next : at + 56 * i + 56 ≡ at + 56 * (i + 1) = omega arith in
    let f = rw (one_more, other) at e in
    rw next at f

-- the code looks at the segments after the one at i
pub any_share_page-next : (segments : List Segment) (i n : ℕ) (d : Segment) → i < length segments
    → length (drop (i + 1) segments) ≤ n
    → list_any (share_page (get_or segments i d)) (take n (drop (i + 1) segments)) ≡ false
    → any_share_page (drop i segments) ≡ any_share_page (drop (i + 1) segments)
any_share_page-next segments i n d below enough none =
    let alone = rw (take_all n (drop (i + 1) segments) enough) at none in
    rw (drop_more segments i d below, alone) refl

-- a segment in range touches at most the pages below 0x10000000
pub page_count-le : (size : ℕ) (s : Segment) → is_in_range size s ≡ true → page_count s ≤ 65536
page_count-le size s h =
    let first : _ × (nat_le (s.vaddr + s.memsz) 0x10000000 ≡ true) = and_true _ (nat_le (s.vaddr + s.memsz) 0x10000000) h in
    let below : s.vaddr + s.memsz ≤ 0x10000000 = leb-true (s.vaddr + s.memsz) 0x10000000 first.1 in
    omega arith

pub page_counts-le : (size : ℕ) (segments : List Segment) → list_all (is_in_range size) segments ≡ true
    → sum_by page_count segments ≤ length segments * 65536
page_counts-le size [] h = omega arith
page_counts-le size (s ∷ more) h =
    let both = and_true (is_in_range size s) (list_all (is_in_range size) more) h in
    let one : page_count s ≤ 65536 = page_count-le size s both.0 in
    let others : sum_by page_count more ≤ length more * 65536 = page_counts-le size more both.1 in
    let all = sum_by-cons page_count s more in
    omega arith

pub pages-lt : (size count : ℕ) (headers : List ProgramHeader) → list_all (is_in_range size) (map segment_of (filter is_loaded headers)) ≡ true
    → length headers ≡ count → count ≤ 64 → sum_by page_count (map segment_of (filter is_loaded headers)) < 2 ^ 64
pages-lt size count headers h same few =
    let segments = map segment_of (filter is_loaded headers) in
    let total = page_counts-le size segments h in
    let long : length segments ≡ length (filter is_loaded headers) = length-map (filter is_loaded headers) segment_of in
    let some : length (filter is_loaded headers) ≡ count_by is_loaded headers = length-filter is_loaded headers in
    let most = count_by-le-length is_loaded headers in
    let number : length segments ≤ 64 = omega arith in
    let product : length segments * 65536 ≤ 64 * 65536 = omega arith in
    omega arith

pub header_count-le : (file : List ℕ) → has_table file ≡ true → header_count_of file ≤ 64
header_count-le file h =
    let three = and_true _ (nat_le (table_offset_of file + 56 * header_count_of file) (length file)) h in
    let count = and_true _ (nat_le (header_count_of file) 64) three.0 in
    leb-true (header_count_of file) 64 count.1
