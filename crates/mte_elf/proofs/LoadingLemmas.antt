-- Pages for segments, one after another.
use Rattle.std.proofs.Common.{◌≡◌, ℕ, zero, suc, ◌+◌, ◌*◌, ◌-◌, ◌/◌, ◌%◌, ◌^◌, ◌<◌, ◌≤◌, List, [], ◌∷◌, length, drop, get_or, true, false, Bool, ◌||◌, ◌&&◌, nat_le, nat_lt, Some, None, Option, refl, subst, ◌∙◌, arith, length-drop, sum_by, map, filter, not, if◌then◌else◌, ◌==◌}
use Rattle.std.specs.List.{list_any, list_all}
use Rattle.std.proofs.lemmas.Bool.{leb-true, le-leb}
use borrow.Author.Tests.{ltb-true}
use Rattle.std.proofs.lemmas.List.{drop_more, nil_from_length}
use Rattle.std.proofs.lemmas.List.Sums.{sum_by-cons}
use Rattle.a64_bits.specs.Addresses.{plain}
use Rattle.mte_tags.specs.Memory.{Memory, page_at, attrs_at, pages_left, with_new_pages, IsFree, new_page}
use Rattle.mte_tags.specs.Accesses.{with_bytes_at, addresses, AreMapped, IsMapped}
use Rattle.mte_tags.specs.declared.attrs.Attrs.{Attrs}
use Rattle.mte_tags.proofs.PageLaws.{page_at-with_new_pages_in, page_at-with_new_pages_out, pages_left-with_new_pages, pages_left-with-bytes-at, attrs_at-with-bytes-at, page_at-no_attrs}
use Rattle.mte_elf.specs.Images.{is_in_range, first_page, last_page, page_count, share_page, any_share_page, refusal_of, pages_of, tests_of, first_refusal}
use Rattle.mte_elf.specs.Headers.{is_loaded, segment_of, segments_of, headers_of}
use Rattle.mte_elf.specs.declared.error.ElfError.{ElfError}
use Rattle.mte_elf.specs.declared.error.ElfError.TheVariants.{Short}
use Rattle.mte_elf.specs.declared.headers.ProgramHeader.{ProgramHeader}
use Rattle.mte_elf.specs.Loading.{attrs_of, file_part, with_segment, with_segments}
use Rattle.mte_elf.specs.declared.image.Segment.{Segment}
use Rattle.mte_elf.proofs.ImageLemmas.{and_true}

-- bytes that lie in pages that were mapped
pub mapped_from : (n : ℕ) (m : Memory) (q k : ℕ) (x : Attrs) (a : ℕ) → 4096 * q ≤ a → a + n ≤ 4096 * (q + k) → q + k ≤ 2 ^ 18
    → AreMapped (with_new_pages m q k x) (addresses a n)
unfolding addresses
mapped_from zero m q k x a low high limit = tt
mapped_from (suc n) m q k x a low high limit =
    let page : page_at (with_new_pages m q k x) (a / 4096) ≡ Some (new_page x.0) = page_at-with_new_pages_in k m q x (a / 4096) (omega arith) (omega arith) in
    let next : (a + 1) % 2 ^ 56 ≡ a + 1 = omega arith in
    (rw page refl, rw next (mapped_from n m q k x (a + 1) (omega arith) (omega arith) limit))

-- what the test of a segment's range tells
pub record Ranges (size : ℕ) (s : Segment) : Type 0 where
  pub file : s.filesz ≤ s.memsz
  pub low : 4096 ≤ s.vaddr
  pub high : s.vaddr + s.memsz ≤ 0x10000000

pub ranges : (size : ℕ) (s : Segment) → is_in_range size s ≡ true → Ranges size s
ranges size s h =
    let last = and_true _ (nat_le (s.vaddr + s.memsz) 0x10000000) h in
    let third = and_true _ (nat_le 0x1000 s.vaddr) last.0 in
    let second = and_true (nat_le s.filesz s.memsz) _ third.0 in
    record {
      file = leb-true s.filesz s.memsz second.0;
      low = leb-true 0x1000 s.vaddr third.1;
      high = leb-true (s.vaddr + s.memsz) 0x10000000 last.1;
    }

pub segment_mapped : (m : Memory) (size : ℕ) (s : Segment) (n : ℕ) → is_in_range size s ≡ true → 0 < s.memsz → n ≡ s.filesz
    → IsMapped (with_new_pages m (first_page s) (page_count s) (attrs_of s.flags)) s.vaddr n
segment_mapped m size s n h some same =
    let r = ranges size s h in
    let file : s.filesz ≤ s.memsz = r.file in
    let high : s.vaddr + s.memsz ≤ 0x10000000 = r.high in
    let flat : plain s.vaddr ≡ s.vaddr = omega arith in
    rw flat (mapped_from n m (first_page s) (page_count s) (attrs_of s.flags) s.vaddr (omega arith) (omega arith) (omega arith))

abbrev pub has_bytes : Segment → Bool
has_bytes s = nat_lt 0 s.memsz

-- the pages of the segments are free
abbrev pub AreFree : Memory → List Segment → Type 0
AreFree m [] = Unit {0}
AreFree m (s ∷ more) = IsFree m (first_page s) (page_count s) × AreFree m more

-- what segments ask of a memory: pages that are free and apart, and as many left
pub record IsReady (size : ℕ) (m : Memory) (segments : List Segment) : Type 0 where
  pub in_range : list_all (is_in_range size) segments ≡ true
  pub some : list_all has_bytes segments ≡ true
  pub apart : any_share_page segments ≡ false
  pub free : AreFree m segments
  pub room : sum_by page_count segments ≤ pages_left m

pub has_no_attrs : (m : Memory) (q : ℕ) → page_at m q ≡ None → attrs_at m q ≡ None
unfolding attrs_at
has_no_attrs m q h = rw h refl

pub or_false : (a b : Bool) → (a || b) ≡ false → (a ≡ false) × (b ≡ false)
or_false true b h = cc
or_false false b h = (refl, h)

pub and_false : (a b : Bool) → (a && b) ≡ false → (a ≡ true) → (b ≡ false)
and_false true b h e = h
and_false false b h e = cc

-- a segment's pages stay free while another's are mapped and loaded
pub free_after : (file : List ℕ) (m : Memory) (s t : Segment) → 0 < s.memsz → 0 < t.memsz → share_page s t ≡ false
    → IsFree m (first_page t) (page_count t) → IsFree (with_segment file m s) (first_page t) (page_count t)
unfolding with_segment
free_after file m s t some_s some_t apart free i below =
    let out : first_page s ≤ first_page t + i → first_page t + i < first_page s + page_count s → ⊥ = λ low high.
    let one : nat_le (first_page s) (last_page t) ≡ true = le-leb (first_page s) (last_page t) (omega arith) in
    let other : nat_le (first_page t) (last_page s) ≡ true = le-leb (first_page t) (last_page s) (omega arith) in
    let both : true ≡ false = rw (one, other) at apart in
    cc in
    let mapped = with_new_pages m (first_page s) (page_count s) (attrs_of s.flags) in
    let before : page_at mapped (first_page t + i) ≡ None = page_at-with_new_pages_out (page_count s) m (first_page s) (attrs_of s.flags) (first_page t + i) out ∙ free i below in
    page_at-no_attrs (with_bytes_at mapped s.vaddr (file_part file s)) (first_page t + i)
    (attrs_at-with-bytes-at mapped s.vaddr (file_part file s) (first_page t + i) ∙ has_no_attrs mapped (first_page t + i) before)

pub all_free_after : (file : List ℕ) (m : Memory) (s : Segment) (more : List Segment) → 0 < s.memsz → list_all has_bytes more ≡ true
    → list_any (share_page s) more ≡ false → AreFree m more → AreFree (with_segment file m s) more
all_free_after file m s [] some_s some apart free = tt
all_free_after file m s (t ∷ more) some_s some apart free =
    let none = or_false (share_page s t) (list_any (share_page s) more) apart in
    let each = and_true (has_bytes t) (list_all has_bytes more) some in
    (free_after file m s t some_s (ltb-true 0 t.memsz each.0) none.0 free.0, all_free_after file m s more some_s each.1 none.1 free.1)

-- the first of some segments
pub ready_first : (size : ℕ) (m : Memory) (s : Segment) (more : List Segment) → IsReady size m (s ∷ more)
    → (is_in_range size s ≡ true) × (0 < s.memsz) × IsFree m (first_page s) (page_count s) × (page_count s ≤ pages_left m)
ready_first size m s more h =
    let total = sum_by-cons page_count s more in
    let room : sum_by page_count (s ∷ more) ≤ pages_left m = h.room in
    let bytes = and_true (has_bytes s) (list_all has_bytes more) h.some in
    ((and_true (is_in_range size s) (list_all (is_in_range size) more) h.in_range).0, ltb-true 0 s.memsz bytes.0, h.free.0, omega arith)

-- and the others after it
pub ready_next : (file : List ℕ) (size : ℕ) (m : Memory) (s : Segment) (more : List Segment) → IsReady size m (s ∷ more) → IsReady size (with_segment file m s) more
unfolding with_segment
ready_next file size m s more h =
    let total = sum_by-cons page_count s more in
    let room : sum_by page_count (s ∷ more) ≤ pages_left m = h.room in
    let bytes = and_true (has_bytes s) (list_all has_bytes more) h.some in
    let apart = or_false (list_any (share_page s) more) (any_share_page more) h.apart in
    let left : pages_left (with_segment file m s) ≡ pages_left m - page_count s =
    pages_left-with-bytes-at (with_new_pages m (first_page s) (page_count s) (attrs_of s.flags)) s.vaddr (file_part file s)
    ∙ pages_left-with_new_pages (page_count s) m (first_page s) (attrs_of s.flags) h.free.0 in
    record {
      in_range = (and_true (is_in_range size s) (list_all (is_in_range size) more) h.in_range).1;
      some = bytes.1;
      apart = apart.1;
      free = all_free_after file m s more (ltb-true 0 s.memsz bytes.0) bytes.1 apart.0 h.free.1;
      room = omega arith;
    }

-- a file that is refused nothing
pub peel : (b : Bool) (e : ElfError) (rest : Option ElfError) → (if b then Some e else rest) ≡ None → (b ≡ false) × (rest ≡ None)
peel true e rest h = cc
peel false e rest h = (refl, h)

pub not_false : (b : Bool) → not b ≡ false → b ≡ true
not_false true h = refl
not_false false h = cc

pub passes_at : (tests : List (Bool × ElfError)) → first_refusal tests ≡ None → (i : ℕ) (d : Bool × ElfError) → i < length tests → (get_or tests i d).0 ≡ false
passes_at [] h i d below = absurd (omega arith)
passes_at (t ∷ more) h zero d below = (peel t.0 t.1 (first_refusal more) h).0
passes_at (t ∷ more) h (suc i) d below = passes_at more (peel t.0 t.1 (first_refusal more) h).1 i d (omega arith)

pub accepted : (file : List ℕ) → refusal_of file ≡ None → (list_all (is_in_range (length file)) (segments_of file) ≡ true) × (any_share_page (segments_of file) ≡ false)
unfolding refusal_of
accepted file h =
    let at = passes_at (tests_of file) h in
    (not_false (list_all (is_in_range (length file)) (segments_of file)) (at 6 (true, Short) (omega arith)), at 7 (true, Short) (omega arith))

pub loaded_case : (h : ProgramHeader) (more : List ProgramHeader) (b : Bool) → is_loaded h ≡ b
    → list_all has_bytes (map segment_of (filter is_loaded more)) ≡ true
    → list_all has_bytes (map segment_of (filter is_loaded (h ∷ more))) ≡ true
loaded_case h more true e rest = let bytes = and_true (h.kind == 1) (nat_lt 0 h.memsz) e in rw (e, bytes.1, rest) refl
loaded_case h more false e rest = rw (e, rest) refl

pub loaded_have_bytes : (headers : List ProgramHeader) → list_all has_bytes (map segment_of (filter is_loaded headers)) ≡ true
loaded_have_bytes [] = refl
loaded_have_bytes (h ∷ more) = loaded_case h more (is_loaded h) refl (loaded_have_bytes more)

pub free_at_first : (size : ℕ) (m : Memory) (segments : List Segment) → list_all (is_in_range size) segments ≡ true → list_all has_bytes segments ≡ true
    → ((page : ℕ) → page < 65536 → page_at m page ≡ None) → AreFree m segments
free_at_first size m [] range some free = tt
free_at_first size m (s ∷ more) range some free =
    let all = and_true (is_in_range size s) (list_all (is_in_range size) more) range in
    let bytes = and_true (has_bytes s) (list_all has_bytes more) some in
    let r = ranges size s all.0 in
    let high : s.vaddr + s.memsz ≤ 0x10000000 = r.high in
    let positive : 0 < s.memsz = ltb-true 0 s.memsz bytes.0 in
    (λ i below. free (first_page s + i) (omega arith), free_at_first size m more all.1 bytes.1 free)

pub ready_at_first : (file : List ℕ) (m : Memory) → refusal_of file ≡ None → ((page : ℕ) → page < 65536 → page_at m page ≡ None)
    → pages_of file ≤ pages_left m → IsReady (length file) m (segments_of file)
ready_at_first file m h free room =
    let parts = accepted file h in
    let bytes = loaded_have_bytes (headers_of file) in
    record {
      in_range = parts.0;
      some = bytes;
      apart = parts.1;
      free = free_at_first (length file) m (segments_of file) parts.0 bytes free;
      room = room;
    }

-- a step over the segments, of which the code has another list that is the same
pub split_at : (segments items : List Segment) (i : ℕ) (d : Segment) → items ≡ segments → i < length items
    → drop i segments ≡ get_or items i d ∷ drop (i + 1) segments
split_at segments items i d same below =
    let long : i < length segments = subst (λ (z : List Segment). i < length z) same below in
    rw same (drop_more segments i d long)

pub ready_step : (file : List ℕ) (size : ℕ) (m m' : Memory) (segments items : List Segment) (i : ℕ) (d : Segment) → items ≡ segments → i < length items
    → IsReady size m (drop i segments) → m' ≡ with_segment file m (get_or items i d) → IsReady size m' (drop (i + 1) segments)
ready_step file size m m' segments items i d same below ready next =
    let split = split_at segments items i d same below in
    let cons : IsReady size m (get_or items i d ∷ drop (i + 1) segments) = rw split at ready in
    rw next (ready_next file size m (get_or items i d) (drop (i + 1) segments) cons)

pub rest_step : (file : List ℕ) (m m' all : Memory) (segments items : List Segment) (i : ℕ) (d : Segment) → items ≡ segments → i < length items
    → with_segments file m (drop i segments) ≡ all → m' ≡ with_segment file m (get_or items i d) → with_segments file m' (drop (i + 1) segments) ≡ all
unfolding with_segments
rest_step file m m' all segments items i d same below rest next =
    let split = split_at segments items i d same below in
    let cons = rw split at rest in
    rw next cons

pub rest_end : (file : List ℕ) (m all : Memory) (segments items : List Segment) (i : ℕ) → items ≡ segments → length items ≤ i
    → with_segments file m (drop i segments) ≡ all → m ≡ all
unfolding with_segments
rest_end file m all segments items i same over rest =
    let long : length segments ≤ i = subst (λ (z : List Segment). length z ≤ i) same over in
    let none : drop i segments ≡ [] = nil_from_length (drop i segments) (simp length-drop (omega arith)) in
    rw none at rest

-- pages above those of images stay free
pub free_above : (file : List ℕ) (size : ℕ) (segments : List Segment) (m : Memory) (q : ℕ) → list_all (is_in_range size) segments ≡ true → list_all has_bytes segments ≡ true
    → 65536 ≤ q → page_at m q ≡ None → page_at (with_segments file m segments) q ≡ None
unfolding with_segments with_segment
free_above file size [] m q range some high free = free
free_above file size (s ∷ more) m q range some high free =
    let all = and_true (is_in_range size s) (list_all (is_in_range size) more) range in
    let bytes = and_true (has_bytes s) (list_all has_bytes more) some in
    let r = ranges size s all.0 in
    let top : s.vaddr + s.memsz ≤ 0x10000000 = r.high in
    let positive : 0 < s.memsz = ltb-true 0 s.memsz bytes.0 in
    let out : first_page s ≤ q → q < first_page s + page_count s → ⊥ = λ low below. absurd (omega arith) in
    let mapped = with_new_pages m (first_page s) (page_count s) (attrs_of s.flags) in
    let before : page_at mapped q ≡ None = page_at-with_new_pages_out (page_count s) m (first_page s) (attrs_of s.flags) q out ∙ free in
    let after : page_at (with_segment file m s) q ≡ None =
    page_at-no_attrs (with_bytes_at mapped s.vaddr (file_part file s)) q (attrs_at-with-bytes-at mapped s.vaddr (file_part file s) q ∙ has_no_attrs mapped q before) in
    free_above file size more (with_segment file m s) q all.1 bytes.1 high after

pub left_after : (file : List ℕ) (size : ℕ) (segments : List Segment) (m : Memory) → IsReady size m segments
    → pages_left (with_segments file m segments) ≡ pages_left m - sum_by page_count segments
unfolding with_segments with_segment
left_after file size [] m ready = omega arith
left_after file size (s ∷ more) m ready =
    let total = sum_by-cons page_count s more in
    let left : pages_left (with_segment file m s) ≡ pages_left m - page_count s =
    pages_left-with-bytes-at (with_new_pages m (first_page s) (page_count s) (attrs_of s.flags)) s.vaddr (file_part file s)
    ∙ pages_left-with_new_pages (page_count s) m (first_page s) (attrs_of s.flags) ready.free.0 in
    let rest = left_after file size more (with_segment file m s) (ready_next file size m s more ready) in
    omega arith

-- what loading an image leaves
pub image_above : (file : List ℕ) (m : Memory) (q : ℕ) → refusal_of file ≡ None → 65536 ≤ q → page_at m q ≡ None → page_at (with_segments file m (segments_of file)) q ≡ None
image_above file m q h high free = free_above file (length file) (segments_of file) m q (accepted file h).0 (loaded_have_bytes (headers_of file)) high free

pub image_left : (file : List ℕ) (m : Memory) → refusal_of file ≡ None → ((page : ℕ) → page < 65536 → page_at m page ≡ None) → pages_of file ≤ pages_left m
    → pages_left (with_segments file m (segments_of file)) ≡ pages_left m - pages_of file
image_left file m h free room = left_after file (length file) (segments_of file) m (ready_at_first file m h free room)
