-- What an access is in the page that was found for it, in whatever memory that has this page.
use Rattle.std.proofs.Common.{◌≡◌, ℕ, ◌+◌, ◌-◌, ◌*◌, ◌/◌, ◌%◌, ◌^◌, ◌<◌, ◌≤◌, Bool, Option, Some, None, is_none, Ok, Err, List, length, take, drop, true, false, refl, sym, ap, ◌∙◌, arith, eq-eqb}
use Rattle.std.proofs.lemmas.Bool.{cond-true}
use Rattle.std.proofs.lemmas.List.{length-take}
use Rattle.std.specs.Int.{from_le_bytes, w32}
use Rattle.a64_bits.specs.Addresses.{plain}
use Rattle.std.specs.List.{range_with_len, slice_range}
use Rattle.mte_tags.specs.Memory.{Memory, Page, page_at, with_page, has, has_cases, attrs_cases, attrs_at, page_has, tag_at, tag_cases, with_granules}
use Rattle.mte_tags.specs.declared.fault.FaultKind.TheVariants.{Translation}
use Rattle.mte_tags.specs.Accesses.{addresses, granules, byte_fault, first_fault, fault, fault_cases, bytes_at, with_bytes, fetch_result, fetch_cases, fetch_access, word_at, read_bytes}
use Rattle.mte_tags.specs.Runs.{with_bytes_run, with_bytes_in, with_granule_tags}
use Rattle.mte_tags.specs.Inner.{first_in}
use Rattle.mte_tags.specs.declared.access.Access.{Access}
use Rattle.mte_tags.specs.declared.fault.MemFault.{MemFault}
use Rattle.mte_tags.proofs.AddressLists.{addresses_in_page}
use Rattle.mte_tags.proofs.GranuleLists.{first_fault_in_run, first_fault_one}
use Rattle.mte_tags.proofs.PageRuns.{first_fault_in, first_in-none, first_in-untagged, bytes_at-run, with_bytes-run}
use Rattle.mte_tags.proofs.RunSteps.{length_range}
use Rattle.mte_tags.proofs.Pages.{page_at-with_page_same}
use Rattle.mte_tags.proofs.TagRuns.{with_granules-run}

-- how a run fails in the page that was found, and where none was
pub page_run : (m : Memory) (p : Page) (at count : ℕ) (x : Access) → page_at m (at / 4096) ≡ Some p → at % 4096 + count ≤ 4096 → at < 2 ^ 56
    → first_in x (Some p) (range_with_len at count) ≡ first_fault m x (addresses at count)
page_run m p at count x e h u =
    sym (ap (first_fault m x) (addresses_in_page at count u h) ∙ first_fault_in m x at count h ∙ ap (λ q. first_in x q (range_with_len at count)) e)

passed : (o : Option MemFault) → is_none o ≡ true → o ≡ None
passed None h = refl
passed (Some f) h = cc

pub page_run_passed : (m : Memory) (p : Page) (at count : ℕ) (x : Access) → page_at m (at / 4096) ≡ Some p → at % 4096 + count ≤ 4096 → at < 2 ^ 56
    → is_none (first_in x (Some p) (range_with_len at count)) ≡ true → first_fault m x (addresses at count) ≡ None
page_run_passed m p at count x e h u n = sym (page_run m p at count x e h u) ∙ passed _ n

pub fault_missing : (m : Memory) (at count : ℕ) (x : Access) → 0 < count → at % 4096 + count ≤ 4096 → at < 2 ^ 56 → page_at m (at / 4096) ≡ None
    → first_fault m x (addresses at count) ≡ Some (fault Translation x at 0)
fault_missing m at count x h p u e =
    ap (first_fault m x) (addresses_in_page at count u p) ∙ first_fault_in m x at count p ∙ ap (λ q. first_in x q (range_with_len at count)) e ∙ first_in-none x at count h

pub page_byte : (m : Memory) (p : Page) (at : ℕ) (x : Access) → page_at m (at / 4096) ≡ Some p → at < 2 ^ 56 → first_in x (Some p) (range_with_len at 1) ≡ byte_fault m x at
page_byte m p at x e u = page_run m p at 1 x e (omega arith) u ∙ first_fault_one m x at

pub byte_fault_missing : (m : Memory) (at : ℕ) (x : Access) → page_at m (at / 4096) ≡ None → byte_fault m x at ≡ Some (fault Translation x at 0)
unfolding byte_fault
byte_fault_missing m at x e = ap (λ p. fault_cases x p at) e

pub page_granules : (m : Memory) (p : Page) (at count : ℕ) (x : Access) → page_at m (at / 4096) ≡ Some p
    → x.checked ≡ false → 0 < count → at % 16 ≡ 0 → at % 4096 + 16 * count ≤ 4096 → at < 2 ^ 56
    → first_in x (Some p) (range_with_len at 1) ≡ first_fault m x (granules at count)
page_granules m p at count x e c h g r u = page_byte m p at x e u ∙ sym (first_fault_in_run m x at count c h g r u)

pub granules_fault_missing : (m : Memory) (at count : ℕ) (x : Access) → x.checked ≡ false → 0 < count → at % 16 ≡ 0 → at % 4096 + 16 * count ≤ 4096 → at < 2 ^ 56 → page_at m (at / 4096) ≡ None
    → first_fault m x (granules at count) ≡ Some (fault Translation x at 0)
granules_fault_missing m at count x c p g r u e = first_fault_in_run m x at count c p g r u ∙ byte_fault_missing m at x e

-- a run that was read is what the memory holds there
pub page_read : (m : Memory) (p : Page) (place k l : ℕ) (piece : List ℕ) → page_at m (place / 4096) ≡ Some p → place % 4096 + k ≤ 4096 → place < 2 ^ 56
    → length piece ≡ k → l ≡ k → piece ≡ slice_range p.bytes (place % 4096) (place % 4096 + l) → piece ≡ bytes_at m (addresses place k)
page_read m p place k l piece found h u long q was =
    let bs = p.bytes in
    let e : piece ≡ slice_range bs (place % 4096) (place % 4096 + k) = was ∙ ap (λ i. slice_range bs (place % 4096) (place % 4096 + i)) q in
    let j : place % 4096 + k - place % 4096 ≡ k = omega arith in
    let taken : piece ≡ take k (drop (place % 4096) bs) = e ∙ ap (λ i. take i (drop (place % 4096) bs)) j in
    let room : k ≤ length (drop (place % 4096) bs) = omega (arith, length-take k (drop (place % 4096) bs), ap length taken) in
    e ∙ sym (ap (bytes_at m) (addresses_in_page place k u h) ∙ bytes_at-run m p place k found room h)

-- a run that was written
pub page_written : (m : Memory) (p : Page) (place : ℕ) (piece : List ℕ) → page_at m (place / 4096) ≡ Some p → place % 4096 + length piece ≤ 4096 → place < 2 ^ 56
    → with_page m (place / 4096) (record p { bytes = with_bytes_run p.bytes (place % 4096) piece }) ≡ with_bytes m (addresses place (length piece)) piece
page_written m p place piece found h u =
    sym (ap (λ xs. with_bytes m xs piece) (addresses_in_page place (length piece) u h) ∙ with_bytes-run piece m p place found h)

-- the same where a place holds the page
pub page_replaced : (m n : Memory) (q : ℕ) (p : Page) (place : ℕ) (piece : List ℕ) → n ≡ m → q ≡ place / 4096 → page_at m (place / 4096) ≡ Some p → place % 4096 + length piece ≤ 4096 → place < 2 ^ 56
    → with_page n q (with_bytes_in p (place % 4096) piece) ≡ with_bytes m (addresses place (length piece)) piece
page_replaced m n q p place piece same number found h u =
    ap (λ k. with_page k q (with_bytes_in p (place % 4096) piece)) same
    ∙ ap (λ k. with_page m k (with_bytes_in p (place % 4096) piece)) number
    ∙ page_written m p place piece found h u

-- a run that was retagged
pub page_retagged : (m : Memory) (p : Page) (at count t : ℕ) (z : Bool) → page_at m (at / 4096) ≡ Some p → at % 16 ≡ 0 → at % 4096 + 16 * count ≤ 4096 → at < 2 ^ 56 → length p.bytes ≡ 4096
    → with_page m (at / 4096) (with_granule_tags p (at % 4096 / 16) count t z) ≡ with_granules m at count t z
page_retagged m p at count t z found g r u long = sym (with_granules-run count m p at t z found g (omega arith) long u)

pub page_retagged_at : (m n : Memory) (q : ℕ) (p : Page) (at count t : ℕ) (z : Bool) → n ≡ m → q ≡ at / 4096 → page_at m (at / 4096) ≡ Some p → at % 16 ≡ 0 → at % 4096 + 16 * count ≤ 4096 → at < 2 ^ 56 → length p.bytes ≡ 4096
    → with_page n q (with_granule_tags p (at % 4096 / 16) count t z) ≡ with_granules m at count t z
page_retagged_at m n q p at count t z same number found g r u long =
    ap (λ k. with_page k q (with_granule_tags p (at % 4096 / 16) count t z)) same
    ∙ ap (λ k. with_page m k (with_granule_tags p (at % 4096 / 16) count t z)) number
    ∙ page_retagged m p at count t z found g r u long

-- the fetch of an aligned word
fetched_aligned : (m : Memory) (pc at : ℕ) (x : Access) → pc % 4 ≡ 0 → at ≡ plain pc → x ≡ fetch_access pc → fetch_result m pc ≡ fetch_cases m pc (first_fault m x (addresses at 4))
unfolding fetch_result
fetched_aligned m pc at x g p e =
    cond-true _ _ _ (eq-eqb _ _ g)
    ∙ ap (λ a. fetch_cases m pc (first_fault m (fetch_access pc) (addresses a 4))) (sym p)
    ∙ ap (λ y. fetch_cases m pc (first_fault m y (addresses at 4))) (sym e)

pub fetch_missing : (m : Memory) (pc at : ℕ) (x : Access) → pc % 4 ≡ 0 → at ≡ plain pc → x ≡ fetch_access pc → page_at m (at / 4096) ≡ None → Err (fault Translation x at 0) ≡ fetch_result m pc
fetch_missing m pc at x g p e away =
    sym (fetched_aligned m pc at x g p e ∙ ap (fetch_cases m pc) (fault_missing m at 4 x (omega arith) (omega arith) (omega arith) away))

pub page_fetched : (m : Memory) (p : Page) (pc at : ℕ) (x : Access) → page_at m (at / 4096) ≡ Some p → pc % 4 ≡ 0 → at ≡ plain pc → x ≡ fetch_access pc
    → fetch_cases m pc (first_in x (Some p) (range_with_len at 4)) ≡ fetch_result m pc
page_fetched m p pc at x found g e f =
    ap (fetch_cases m pc) (page_run m p at 4 x found (omega arith) (omega arith)) ∙ sym (fetched_aligned m pc at x g e f)

pub page_word : (m : Memory) (p : Page) (pc at : ℕ) → page_at m (at / 4096) ≡ Some p → pc % 4 ≡ 0 → at ≡ plain pc → length p.bytes ≡ 4096
    → from_le_bytes w32 (slice_range p.bytes (at % 4096) (at % 4096 + 4)) ≡ word_at m pc
unfolding word_at read_bytes
page_word m p pc at found g e long =
    let bs = p.bytes in
    let size : length (slice_range bs (at % 4096) (at % 4096 + 4)) ≡ 4 = length_range bs (at % 4096) 4 (omega arith) in
    ap (from_le_bytes w32) (page_read m p at 4 4 (slice_range bs (at % 4096) (at % 4096 + 4)) found (omega arith) (omega arith) size refl refl)
    ∙ ap (λ a. from_le_bytes w32 (bytes_at m (addresses a 4))) e

-- the attributes of the page that was looked for
pub found_has : (m : Memory) (o : Option Page) (pc at need : ℕ) → page_at m (at / 4096) ≡ o → at ≡ plain pc → page_has m (plain pc / 4096) need ≡ has_cases (attrs_cases o) need
unfolding page_has attrs_at
found_has m o pc at need found e = ap (λ q. has_cases (attrs_cases q) need) (ap (λ a. page_at m (a / 4096)) (sym e) ∙ found)

-- one of 16 words that a page with EXEC holds from an aligned address on
pub page_fetches : (m : Memory) (p : Page) (pc at i : ℕ) → page_at m (at / 4096) ≡ Some p → pc % 4 ≡ 0 → pc % 4096 ≤ 4032 → at ≡ plain pc → has p.attrs 4 ≡ true → length p.bytes ≡ 4096 → i < 16
    → fetch_result m (pc + 4 * i) ≡ Ok (from_le_bytes w32 (slice_range p.bytes (at % 4096 + 4 * i) (at % 4096 + 4 * i + 4)))
page_fetches m p pc at i found g low e permitted long b =
    let next = pc + 4 * i in
    let to : at + 4 * i ≡ plain next = omega (arith, g, low, e, b) in
    let same : (at + 4 * i) / 4096 ≡ at / 4096 = omega (arith, g, low, e, b) in
    let offset : (at + 4 * i) % 4096 ≡ at % 4096 + 4 * i = omega (arith, g, low, e, b) in
    let aligned : next % 4 ≡ 0 = omega (arith, g) in
    let there : page_at m ((at + 4 * i) / 4096) ≡ Some p = ap (page_at m) same ∙ found in
    sym (page_fetched m p next (at + 4 * i) (fetch_access next) there aligned to refl)
    ∙ ap (fetch_cases m next) (first_in-untagged (fetch_access next) p (at + 4 * i) 4 permitted refl)
    ∙ ap (λ w. Ok w) (sym (page_word m p next (at + 4 * i) there aligned to long))
    ∙ ap (λ o. Ok (from_le_bytes w32 (slice_range p.bytes o (o + 4)))) offset

pub page_tag : (m : Memory) (p : Page) (at : ℕ) → page_at m (at / 4096) ≡ Some p → tag_at m at ≡ tag_cases (Some p) (at % 4096 / 16)
unfolding tag_at
page_tag m p at e = ap (λ q. tag_cases q (at % 4096 / 16)) e

-- a chunk in one page gets tags and its header's bytes
abbrev tagged_chunk : Memory → ℕ → ℕ → ℕ → ℕ → Memory
tagged_chunk m start around count t = with_granules (with_granules m start around 0 false) (start + 16) count t true

module _ (m m1 m2 m3 : Memory) (q1 q2 q3 : ℕ) (p p2 p3 : Page) (start around count t : ℕ) (bs : List ℕ)
    (g : start % 16 ≡ 0) (wide : start % 4096 / 16 + around ≤ 256) (some : 0 < count) (within : start % 4096 / 16 + 1 + count ≤ 256) (u : start + 16 < 2 ^ 56) (eight : length bs ≡ 8)
    (same : m1 ≡ m) (number : q1 ≡ start / 4096) (found : page_at m (start / 4096) ≡ Some p) (long : length p.bytes ≡ 4096)
    (first : m2 ≡ with_page m1 q1 (with_granule_tags p (start % 4096 / 16) around 0 false)) (page2 : p2 ≡ with_granule_tags p (start % 4096 / 16) around 0 false) (number2 : q2 ≡ q1)
    (second : m3 ≡ with_page m2 q2 (with_granule_tags p2 (start % 4096 / 16 + 1) count t true)) (page3 : p3 ≡ with_granule_tags p2 (start % 4096 / 16 + 1) count t true) (number3 : q3 ≡ q2) where
  at2 : q2 ≡ start / 4096
  at2 = number2 ∙ number

  at3 : q3 ≡ start / 4096
  at3 = number3 ∙ at2

  cleared : m2 ≡ with_granules m start around 0 false
  cleared = first ∙ page_retagged_at m m1 q1 p start around 0 false same number found g (omega (arith, wide, g)) (omega (arith, u)) long

  found2 : page_at m2 (start / 4096) ≡ Some p2
  found2 =
      ap (λ k. page_at k (start / 4096)) first
      ∙ ap (λ k. page_at (with_page m1 k (with_granule_tags p (start % 4096 / 16) around 0 false)) (start / 4096)) number
      ∙ page_at-with_page_same m1 (start / 4096) (with_granule_tags p (start % 4096 / 16) around 0 false)
      ∙ ap (λ r. Some r) (sym page2)

  long2 : length p2.bytes ≡ 4096
  long2 = ap (λ (r : Page). length r.bytes) page2 ∙ long

  next : (start + 16) / 4096 ≡ start / 4096
  next = omega (arith, some, within, g)

  granule : (start + 16) % 4096 / 16 ≡ start % 4096 / 16 + 1
  granule = omega (arith, some, within, g)

  retagged_next : m3 ≡ with_granules m2 (start + 16) count t true
  retagged_next =
      second
      ∙ ap (λ i. with_page m2 q2 (with_granule_tags p2 i count t true)) (sym granule)
      ∙ page_retagged_at m2 m2 q2 p2 (start + 16) count t true refl (at2 ∙ sym next) (ap (page_at m2) next ∙ found2) (omega (arith, g)) (omega (arith, some, within, g)) u long2

  found3 : page_at m3 (start / 4096) ≡ Some p3
  found3 =
      ap (λ k. page_at k (start / 4096)) second
      ∙ ap (λ k. page_at (with_page m2 k (with_granule_tags p2 (start % 4096 / 16 + 1) count t true)) (start / 4096)) at2
      ∙ page_at-with_page_same m2 (start / 4096) (with_granule_tags p2 (start % 4096 / 16 + 1) count t true)
      ∙ ap (λ r. Some r) (sym page3)

  pub chunk_written : with_page m3 q3 (with_bytes_in p3 (start % 4096) bs) ≡ with_bytes (tagged_chunk m start around count t) (addresses start (length bs)) bs
  chunk_written =
      page_replaced m3 m3 q3 p3 start bs refl at3 found3 (omega (arith, within, eight, g)) (omega (arith, u))
      ∙ ap (λ k. with_bytes k (addresses start (length bs)) bs) (retagged_next ∙ ap (λ k. with_granules k (start + 16) count t true) cleared)
