-- Each page after an image was loaded.
use Rattle.std.proofs.Common.{◌≡◌, ◌≢◌, ℕ, suc, ◌+◌, ◌*◌, ◌-◌, ◌/◌, ◌%◌, ◌^◌, ◌<◌, ◌≤◌, List, [], ◌∷◌, length, take, drop, get_or, set, true, false, nat_le, nat_lt, Some, None, Option, refl, ap, sym, subst, ◌∙◌, inl, inr, arith, length-drop, map, replicate, ◌==◌, get_or-set_same, get_or-set_other}
use Rattle.std.specs.List.{list_any, list_all, range_with_len, slice_range}
use Rattle.std.proofs.lemmas.Bool.{leb-true, le-leb, cases_eq, cases_Bool, cond-true, cond-false, eqb-true}
use borrow.Author.Tests.{ltb-true}
use Rattle.std.proofs.lemmas.List.{ext_get_or, length-set, length-replicate, get_or-replicate, get_or-take, get_or-drop, length-take-le}
use Rattle.std.proofs.lemmas.List.FromFn.{length-map-range_with_len, get_or-map-range_with_len}
use Rattle.a64_bits.specs.Addresses.{plain}
use Rattle.mte_tags.specs.Memory.{Memory, Page, page_at, with_byte_cases, with_byte, with_new_pages, new_page}
use Rattle.mte_tags.specs.Accesses.{with_bytes_at, with_bytes, addresses}
use Rattle.mte_tags.proofs.Pages.{page_at-with_page_same, page_at-with_page_other}
use Rattle.mte_tags.proofs.PageLaws.{page_at-with_new_pages_in, page_at-with_new_pages_out}
use Rattle.mte_elf.specs.Images.{is_in_range, first_page, last_page, page_count, share_page, any_share_page, refusal_of}
use Rattle.mte_elf.specs.Headers.{segments_of, headers_of}
use Rattle.mte_elf.specs.Loading.{attrs_of, file_part, with_segment, with_segments}
use Rattle.mte_elf.specs.Pages.{stands_in_file, byte_of, segment_page, touches_page, image_page, page_or}
use Rattle.mte_elf.specs.declared.image.Segment.{Segment}
use Rattle.mte_elf.proofs.ImageLemmas.{and_true}
use Rattle.mte_elf.proofs.LoadingLemmas.{ranges, has_bytes, or_false, accepted, loaded_have_bytes}

-- a byte that is written to another page leaves a page
other_in : (m : Memory) (r o b q : ℕ) (p : Option Page) → q ≢ r → page_at (with_byte_cases m r o b p) q ≡ page_at m q
other_in m r o b q None n = refl
other_in m r o b q (Some p) n = page_at-with_page_other m r _ q n

pub page_at-with_byte_other : (m : Memory) (a b q : ℕ) → q ≢ a / 4096 → page_at (with_byte m a b) q ≡ page_at m q
unfolding with_byte
page_at-with_byte_other m a b q n = other_in m (a / 4096) (a % 4096) b q (page_at m (a / 4096)) n

pub page_at-with_byte_same : (m : Memory) (a b : ℕ) (p : Page) → page_at m (a / 4096) ≡ Some p → page_at (with_byte m a b) (a / 4096) ≡ Some (record p { bytes = set p.bytes (a % 4096) b })
unfolding with_byte
page_at-with_byte_same m a b p e =
    ap (λ o. page_at (with_byte_cases m (a / 4096) (a % 4096) b o) (a / 4096)) e
    ∙ page_at-with_page_same m (a / 4096) (record p { bytes = set p.bytes (a % 4096) b })

-- bytes that are written to other pages leave a page
pub page_at-with_bytes_other : (bs : List ℕ) (m : Memory) (a q : ℕ) → a + length bs < 2 ^ 56 → ((i : ℕ) → i < length bs → q ≢ (a + i) / 4096)
    → page_at (with_bytes m (addresses a (length bs)) bs) q ≡ page_at m q
unfolding with_bytes addresses
page_at-with_bytes_other [] m a q u n = refl
page_at-with_bytes_other (b ∷ bs) m a q u n =
    let next : (a + 1) % 2 ^ 56 ≡ a + 1 = omega arith in
    let first : q ≢ a / 4096 = λ e. n 0 (omega arith) (omega arith) in
    ap (λ k. page_at (with_bytes (with_byte m a b) (addresses k (length bs)) bs) q) next
    ∙ page_at-with_bytes_other bs (with_byte m a b) (a + 1) q (omega arith) (λ i l e. n (i + 1) (omega arith) (omega arith))
    ∙ page_at-with_byte_other m a b q first

-- a page after bytes were written at a: those of them that lie in it, and its own
pub record IsWritten (m : Memory) (q : ℕ) (p : Page) (a : ℕ) (bs : List ℕ) : Type 0 where
  pub page : Page
  pub at : page_at m q ≡ Some page
  pub attrs : page.attrs ≡ p.attrs
  pub tags : page.tags ≡ p.tags
  pub long : length page.bytes ≡ 4096
  pub inside : (i : ℕ) → i < length bs → (a + i) / 4096 ≡ q → get_or page.bytes ((a + i) % 4096) 0 ≡ get_or bs i 0
  pub outside : (o : ℕ) → ((i : ℕ) → i < length bs → a + i ≢ 4096 * q + o) → get_or page.bytes o 0 ≡ get_or p.bytes o 0

-- the bytes after the first are written, and the first one is there if it lies in the page
with_first : (m : Memory) (q a b : ℕ) (p r : Page) (bs : List ℕ) → r.attrs ≡ p.attrs → r.tags ≡ p.tags → (w : IsWritten m q r (a + 1) bs)
    → (a / 4096 ≡ q → get_or w.page.bytes (a % 4096) 0 ≡ b)
    → ((o : ℕ) → ((i : ℕ) → i < length (b ∷ bs) → a + i ≢ 4096 * q + o) → get_or w.page.bytes o 0 ≡ get_or p.bytes o 0)
    → IsWritten m q p a (b ∷ bs)
with_first m q a b p r bs x t w first others = record {
  page = w.page;
  at = w.at;
  attrs = w.attrs ∙ x;
  tags = w.tags ∙ t;
  long = w.long;
  inside = λ i l e. elim (cases_eq i 0) [
    | inl z ↦
        let same : a + i ≡ a = omega arith in
        ap (λ j. get_or w.page.bytes (j % 4096) 0) same ∙ first (omega arith) ∙ sym (ap (λ j. get_or (b ∷ bs) j 0) z)
    | inr k ↦
        let less : i ≡ suc (i - 1) = omega arith in
        let same : a + i ≡ a + 1 + (i - 1) = omega arith in
        ap (λ j. get_or w.page.bytes (j % 4096) 0) same ∙ w.inside (i - 1) (omega arith) (omega arith) ∙ sym (ap (λ j. get_or (b ∷ bs) j 0) less)
  ];
  outside = others;
}

-- the first byte lies in another page
other_first : (m : Memory) (q a b : ℕ) (p : Page) (bs : List ℕ) → a / 4096 ≢ q → IsWritten m q p (a + 1) bs → IsWritten m q p a (b ∷ bs)
other_first m q a b p bs n w =
    with_first m q a b p p bs refl refl w (λ e. absurd (n e))
    (λ o f. w.outside o (λ i l e. f (i + 1) (omega arith) (omega arith)))

-- the first byte lies in the page
this_first : (m : Memory) (q a b : ℕ) (p : Page) (bs : List ℕ) → a / 4096 ≡ q → length p.bytes ≡ 4096
    → IsWritten m q (record p { bytes = set p.bytes (a % 4096) b }) (a + 1) bs → IsWritten m q p a (b ∷ bs)
this_first m q a b p bs s whole w =
    with_first m q a b p (record p { bytes = set p.bytes (a % 4096) b }) bs refl refl w
    (λ e. w.outside (a % 4096) (λ j k f. absurd (omega arith)) ∙ get_or-set_same p.bytes (a % 4096) b 0 (omega arith))
    (λ o f.
    let apart : o ≢ a % 4096 = λ e. f 0 (omega arith) (omega arith) in
    w.outside o (λ i l e. f (i + 1) (omega arith) (omega arith)) ∙ get_or-set_other p.bytes (a % 4096) o b 0 apart)

pub page_written : (bs : List ℕ) (m : Memory) (q : ℕ) (p : Page) (a : ℕ) → a + length bs < 2 ^ 56 → page_at m q ≡ Some p → length p.bytes ≡ 4096
    → IsWritten (with_bytes m (addresses a (length bs)) bs) q p a bs
unfolding with_bytes addresses
page_written [] m q p a u e whole = record {
  page = p;
  at = e;
  attrs = refl;
  tags = refl;
  long = whole;
  inside = λ i l f. absurd (omega arith);
  outside = λ o f. refl;
}
page_written (b ∷ bs) m q p a u e whole =
    let next : (a + 1) % 2 ^ 56 ≡ a + 1 = omega arith in
    elim (cases_eq (a / 4096) q) [
      | inl s ↦
          let at : page_at m (a / 4096) ≡ Some p = ap (page_at m) s ∙ e in
          let new : Page = record p { bytes = set p.bytes (a % 4096) b } in
          let put : page_at (with_byte m a b) q ≡ Some new = sym (ap (page_at (with_byte m a b)) s) ∙ page_at-with_byte_same m a b p at in
          rw next (this_first _ q a b p bs s whole (page_written bs (with_byte m a b) q new (a + 1) (omega arith) put (length-set p.bytes (a % 4096) b ∙ whole)))
      | inr n ↦
          let kept : page_at (with_byte m a b) q ≡ Some p = page_at-with_byte_other m a b q (λ f. n (sym f)) ∙ e in
          rw next (other_first _ q a b p bs n (page_written bs (with_byte m a b) q p (a + 1) (omega arith) kept whole))
    ]

-- a segment's bytes in the file
record IsPart (file : List ℕ) (s : Segment) : Type 0 where
  pub long : length (file_part file s) ≡ s.filesz
  pub at : (i : ℕ) → i < s.filesz → get_or (file_part file s) i 0 ≡ get_or file (s.offset + i) 0

part_some : (file : List ℕ) (s : Segment) → file_part file s ≡ slice_range file s.offset (s.offset + s.filesz) → s.offset + s.filesz ≤ length file → IsPart file s
part_some file s e fits =
    let n : s.offset + s.filesz - s.offset ≡ s.filesz = omega arith in
    let rest : s.filesz ≤ length (drop s.offset file) = simp length-drop (omega arith) in
    let taken : file_part file s ≡ take s.filesz (drop s.offset file) = e ∙ ap (λ k. take k (drop s.offset file)) n in
    record {
      long = ap length taken ∙ length-take-le s.filesz (drop s.offset file) rest;
      at = λ i l. ap (λ xs. get_or xs i 0) taken ∙ get_or-take s.filesz (drop s.offset file) i 0 l ∙ get_or-drop s.offset file i 0;
    }

part_none : (file : List ℕ) (s : Segment) → file_part file s ≡ [] → s.filesz ≡ 0 → IsPart file s
part_none file s e none = record {
  long = ap length e ∙ sym none;
  at = λ i l. absurd (omega arith);
}

part_of : (file : List ℕ) (s : Segment) → is_in_range (length file) s ≡ true → IsPart file s
part_of file s h =
    let last = and_true _ (nat_le (s.vaddr + s.memsz) 0x10000000) h in
    let third = and_true _ (nat_le 0x1000 s.vaddr) last.0 in
    let second = and_true (nat_le s.filesz s.memsz) _ third.0 in
    elim (cases_Bool (s.filesz == 0)) [
      | inl z ↦ part_none file s (cond-true _ _ _ z) (eqb-true s.filesz 0 z)
      | inr f ↦
          let fits : nat_le (s.offset + s.filesz) (length file) ≡ true = rw f at second.1 in
          part_some file s (cond-false _ _ _ f) (leb-true (s.offset + s.filesz) (length file) fits)
    ]

-- a new page
new_long : (x : ℕ) → length (new_page x).bytes ≡ 4096
unfolding new_page
new_long x = length-replicate {A = ℕ} 4096 0

new_byte : (x o : ℕ) → o < 4096 → get_or (new_page x).bytes o 0 ≡ 0
unfolding new_page
new_byte x o l = get_or-replicate {A = ℕ} 4096 o 0 0 l

new_attrs : (x : ℕ) → (new_page x).attrs ≡ x
unfolding new_page
new_attrs x = refl

new_tags : (x : ℕ) → (new_page x).tags ≡ replicate 256 0
unfolding new_page
new_tags x = refl

same_page : (file : List ℕ) (s : Segment) (q : ℕ) (p : Page) → p.attrs ≡ (attrs_of s.flags).0 → p.bytes ≡ map (byte_of file s) (range_with_len (4096 * q) 4096)
    → p.tags ≡ replicate 256 0 → p ≡ segment_page file s q
unfolding segment_page
same_page file s q p attrs bytes tags = λ i. record { attrs = attrs i; bytes = bytes i; tags = tags i }

-- each byte of a page that a segment touches
byte_same : (file : List ℕ) (m : Memory) (s : Segment) (q x o : ℕ) → IsPart file s → (w : IsWritten m q (new_page x) s.vaddr (file_part file s)) → o < 4096
    → get_or w.page.bytes o 0 ≡ byte_of file s (4096 * q + o)
byte_same file m s q x o part w l =
    let long : length (file_part file s) ≡ s.filesz = part.long in
    elim (cases_Bool (stands_in_file s (4096 * q + o))) [
      | inl t ↦
          let both = and_true (nat_le s.vaddr (4096 * q + o)) (nat_lt (4096 * q + o) (s.vaddr + s.filesz)) t in
          let low : s.vaddr ≤ 4096 * q + o = leb-true s.vaddr (4096 * q + o) both.0 in
          let high : 4096 * q + o < s.vaddr + s.filesz = ltb-true (4096 * q + o) (s.vaddr + s.filesz) both.1 in
          let place : o ≡ (s.vaddr + (4096 * q + o - s.vaddr)) % 4096 = omega arith in
          ap (λ k. get_or w.page.bytes k 0) place
          ∙ w.inside (4096 * q + o - s.vaddr) (omega arith) (omega arith)
          ∙ part.at (4096 * q + o - s.vaddr) (omega arith)
          ∙ sym (cond-true _ _ _ t)
      | inr f ↦
          let out : (i : ℕ) → i < length (file_part file s) → s.vaddr + i ≢ 4096 * q + o = λ i below e.
          let one : nat_le s.vaddr (4096 * q + o) ≡ true = le-leb s.vaddr (4096 * q + o) (omega arith) in
          let other : nat_lt (4096 * q + o) (s.vaddr + s.filesz) ≡ true = le-leb (suc (4096 * q + o)) (s.vaddr + s.filesz) (omega arith) in
          let both : true ≡ false = rw (one, other) at f in
          cc in
          w.outside o out ∙ new_byte x o l ∙ sym (cond-false _ _ _ f)
    ]

-- a page that a segment touches, and another
page_in_written : (file : List ℕ) (m : Memory) (s : Segment) (q : ℕ) → IsPart file s → IsWritten m q (new_page (attrs_of s.flags).0) s.vaddr (file_part file s) → page_at m q ≡ Some (segment_page file s q)
page_in_written file m s q part w =
    let x = (attrs_of s.flags).0 in
    let bytes : w.page.bytes ≡ map (byte_of file s) (range_with_len (4096 * q) 4096) =
    ext_get_or 0 _ _ (w.long ∙ sym (length-map-range_with_len (byte_of file s) (4096 * q) 4096))
    (λ o l.
    let below : o < 4096 = subst (λ n. o < n) w.long l in
    byte_same file m s q x o part w below ∙ sym (get_or-map-range_with_len (byte_of file s) (4096 * q) 4096 o (4096 * q + o) 0 below refl)) in
    w.at ∙ ap Some (same_page file s q w.page (w.attrs ∙ new_attrs x) bytes (w.tags ∙ new_tags x))

page_in : (file : List ℕ) (m : Memory) (s : Segment) (q : ℕ) → is_in_range (length file) s ≡ true → touches_page s q ≡ true
    → page_at (with_segment file m s) q ≡ Some (segment_page file s q)
unfolding with_segment with_bytes_at
page_in file m s q range touched =
    let r = ranges (length file) s range in
    let small : s.filesz ≤ s.memsz = r.file in
    let high : s.vaddr + s.memsz ≤ 0x10000000 = r.high in
    let part = part_of file s range in
    let long : length (file_part file s) ≡ s.filesz = part.long in
    let both = and_true (nat_le (first_page s) q) (nat_le q (last_page s)) touched in
    let from : first_page s ≤ q = leb-true (first_page s) q both.0 in
    let to : q ≤ last_page s = leb-true q (last_page s) both.1 in
    let flat : plain s.vaddr ≡ s.vaddr = omega arith in
    let x = attrs_of s.flags in
    let mapped = with_new_pages m (first_page s) (page_count s) x in
    let there : page_at mapped q ≡ Some (new_page x.0) = page_at-with_new_pages_in (page_count s) m (first_page s) x q from (omega arith) in
    let w = page_written (file_part file s) mapped q (new_page x.0) s.vaddr (omega arith) there (new_long x.0) in
    ap (λ k. page_at (with_bytes mapped (addresses k (length (file_part file s))) (file_part file s)) q) flat
    ∙ page_in_written file (with_bytes mapped (addresses s.vaddr (length (file_part file s))) (file_part file s)) s q part w

touched_not : (s : Segment) (q : ℕ) → first_page s ≤ q → q ≤ last_page s → touches_page s q ≡ false → ⊥
touched_not s q low high f =
    let one : nat_le (first_page s) q ≡ true = le-leb (first_page s) q low in
    let other : nat_le q (last_page s) ≡ true = le-leb q (last_page s) high in
    let both : true ≡ false = rw (one, other) at f in
    cc

page_out : (file : List ℕ) (m : Memory) (s : Segment) (q : ℕ) → is_in_range (length file) s ≡ true → 0 < s.memsz → touches_page s q ≡ false
    → page_at (with_segment file m s) q ≡ page_at m q
unfolding with_segment with_bytes_at
page_out file m s q range some untouched =
    let r = ranges (length file) s range in
    let small : s.filesz ≤ s.memsz = r.file in
    let high : s.vaddr + s.memsz ≤ 0x10000000 = r.high in
    let long : length (file_part file s) ≡ s.filesz = (part_of file s range).long in
    let flat : plain s.vaddr ≡ s.vaddr = omega arith in
    let x = attrs_of s.flags in
    let mapped = with_new_pages m (first_page s) (page_count s) x in
    ap (λ k. page_at (with_bytes mapped (addresses k (length (file_part file s))) (file_part file s)) q) flat
    ∙ page_at-with_bytes_other (file_part file s) mapped s.vaddr q (omega arith) (λ i l e. touched_not s q (omega arith) (omega arith) untouched)
    ∙ page_at-with_new_pages_out (page_count s) m (first_page s) x q (λ from below. touched_not s q from (omega arith) untouched)

-- no other segment touches the page
image_none : (file : List ℕ) (s : Segment) (more : List Segment) (q : ℕ) → touches_page s q ≡ true → list_any (share_page s) more ≡ false → image_page file more q ≡ None
image_none file s [] q touched apart = refl
image_none file s (t ∷ more) q touched apart =
    let none = or_false (share_page s t) (list_any (share_page s) more) apart in
    let both = and_true (nat_le (first_page s) q) (nat_le q (last_page s)) touched in
    let from : first_page s ≤ q = leb-true (first_page s) q both.0 in
    let to : q ≤ last_page s = leb-true q (last_page s) both.1 in
    elim (cases_Bool (touches_page t q)) [
      | inl k ↦
          let others = and_true (nat_le (first_page t) q) (nat_le q (last_page t)) k in
          let from_t : first_page t ≤ q = leb-true (first_page t) q others.0 in
          let to_t : q ≤ last_page t = leb-true q (last_page t) others.1 in
          let one : nat_le (first_page s) (last_page t) ≡ true = le-leb (first_page s) (last_page t) (omega arith) in
          let other : nat_le (first_page t) (last_page s) ≡ true = le-leb (first_page t) (last_page s) (omega arith) in
          let shared : true ≡ false = rw (one, other) at none.0 in
          cc
      | inr f ↦ cond-false _ _ _ f ∙ image_none file s more q touched none.1
    ]

pub page_loaded : (file : List ℕ) (segments : List Segment) (m : Memory) (q : ℕ) → list_all (is_in_range (length file)) segments ≡ true → list_all has_bytes segments ≡ true
    → any_share_page segments ≡ false → page_at (with_segments file m segments) q ≡ page_or (image_page file segments q) (page_at m q)
unfolding with_segments
page_loaded file [] m q range some apart = refl
page_loaded file (s ∷ more) m q range some apart =
    let all = and_true (is_in_range (length file) s) (list_all (is_in_range (length file)) more) range in
    let bytes = and_true (has_bytes s) (list_all has_bytes more) some in
    let alone = or_false (list_any (share_page s) more) (any_share_page more) apart in
    let next = with_segment file m s in
    let rest = page_loaded file more next q all.1 bytes.1 alone.1 in
    elim (cases_Bool (touches_page s q)) [
      | inl t ↦
          rest
          ∙ ap (λ o. page_or o (page_at next q)) (image_none file s more q t alone.0)
          ∙ page_in file m s q all.0 t
          ∙ sym (ap (λ o. page_or o (page_at m q)) (cond-true _ _ _ t))
      | inr f ↦
          rest
          ∙ ap (page_or (image_page file more q)) (page_out file m s q all.0 (ltb-true 0 s.memsz bytes.0) f)
          ∙ sym (ap (λ o. page_or o (page_at m q)) (cond-false _ _ _ f))
    ]

pub image_loaded : (file : List ℕ) (m : Memory) (q : ℕ) → refusal_of file ≡ None
    → page_at (with_segments file m (segments_of file)) q ≡ page_or (image_page file (segments_of file) q) (page_at m q)
image_loaded file m q h = let parts = accepted file h in page_loaded file (segments_of file) m q parts.0 (loaded_have_bytes (headers_of file)) parts.1
