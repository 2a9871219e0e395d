-- An access of the heap's own to pages of READ, WRITE and TAGGED has no fault.
use Rattle.std.proofs.Common.{◌≡◌, ℕ, zero, suc, ◌+◌, ◌*◌, ◌/◌, ◌%◌, ◌^◌, ◌<◌, ◌≤◌, Bool, true, false, List, length, Option, Some, None, is_some, Result, Ok, is_ok, refl, sym, ap, ◌∙◌, arith, eq-eqb}
use Rattle.std.specs.Prelude.{if◌then◌else◌}
use Rattle.std.proofs.lemmas.Bool.{cond-true, eqb-true}
use Rattle.std.proofs.lemmas.Nat.{and_mask}
use Rattle.a64_bits.specs.Addresses.{plain}
use Rattle.mte_tags.specs.Memory.{Memory, Page, page_at, attrs_at, attrs_cases, page_has, has, has_cases, tag_at, with_granules}
use Rattle.mte_tags.specs.Accesses.{addresses, granules, byte_fault, first_fault, or_else, fault_cases, read_access, store_access, load_access, read_fault, tags_fault, tag_load_fault, result_of, tag_result, after_read, IsMapped, write_access, write_fault, with_bytes_at, after_write}
use Rattle.mte_tags.specs.declared.access.Access.{Access}
use Rattle.mte_tags.specs.declared.fault.MemFault.{MemFault}
use Rattle.mte_tags.proofs.ModeLaws.{access_fault-none, after_read-without-check, after_access-without-check}
use Rattle.mte_tags.proofs.PageLaws.{page_at-attrs, IsMapped-from_pages}
use Rattle.scudo_heap.specs.Inner.{IsOpen}

fault_open : (x : Access) (p : Option Page) (a n : ℕ) → attrs_cases p ≡ Some n → x.checked ≡ false → has n x.need ≡ true → fault_cases x p a ≡ None
fault_open x None a n e c h = cc
fault_open x (Some p) a n e c h =
    let same : p.attrs ≡ n = cc in
    rw (same, h, c) refl

pub byte_fault_open : (m : Memory) (x : Access) (a n : ℕ) → attrs_at m (a / 4096) ≡ Some n → x.checked ≡ false → has n x.need ≡ true → byte_fault m x a ≡ None
unfolding byte_fault attrs_at
byte_fault_open m x a n e c h = fault_open x (page_at m (a / 4096)) a n e c h

pub addresses_open : (k : ℕ) (m : Memory) (x : Access) (lo hi a : ℕ) → IsOpen m lo hi → lo ≤ a → a + k ≤ hi → x.checked ≡ false → has 11 x.need ≡ true → first_fault m x (addresses a k) ≡ None
unfolding first_fault addresses
addresses_open zero m x lo hi a o l h c n = refl
addresses_open (suc k) m x lo hi a o l h c n =
    let b = o.below in
    let next : (a + 1) % 2 ^ 56 ≡ a + 1 = omega arith in
    ap (λ f. or_else f (first_fault m x (addresses ((a + 1) % 2 ^ 56) k))) (byte_fault_open m x a 11 (o.pages a l (omega arith)) c n)
    ∙ ap (λ j. first_fault m x (addresses j k)) next
    ∙ addresses_open k m x lo hi (a + 1) o (omega arith) (omega arith) c n

granules_open : (k : ℕ) (m : Memory) (x : Access) (lo hi a : ℕ) → IsOpen m lo hi → lo ≤ a → a + 16 * k ≤ hi → x.checked ≡ false → has 11 x.need ≡ true → first_fault m x (granules a k) ≡ None
unfolding first_fault granules
granules_open zero m x lo hi a o l h c n = refl
granules_open (suc k) m x lo hi a o l h c n =
    let b = o.below in
    let next : (a + 16) % 2 ^ 56 ≡ a + 16 = omega arith in
    ap (λ f. or_else f (first_fault m x (granules ((a + 16) % 2 ^ 56) k))) (byte_fault_open m x a 11 (o.pages a l (omega arith)) c n)
    ∙ ap (λ j. first_fault m x (granules j k)) next
    ∙ granules_open k m x lo hi (a + 16) o (omega arith) (omega arith) c n

tags_open : (m : Memory) (a n : ℕ) → IsOpen m a (a + 16 * n) → a % 16 ≡ 0 → tags_fault m a n ≡ None
unfolding tags_fault
tags_open m a n o e =
    let b = o.below in
    let same : a % 2 ^ 56 ≡ a = omega arith in
    cond-true _ _ _ (eq-eqb (a % 16) 0 e) ∙ ap (λ j. first_fault m (store_access a) (granules j n)) same ∙ granules_open n m (store_access a) a (a + 16 * n) a o (omega arith) (omega arith) refl refl

tag_load_open : (m : Memory) (a : ℕ) → IsOpen m a (a + 1) → tag_load_fault m a ≡ None
unfolding tag_load_fault
tag_load_open m a o =
    let b = o.below in
    let page : a % 2 ^ 56 / 16 * 16 / 4096 ≡ a / 4096 = omega arith in
    byte_fault_open m (load_access a) (a % 2 ^ 56 / 16 * 16) 11 (ap (attrs_at m) page ∙ o.pages a (omega arith) (omega arith)) refl refl

-- ---- as the code has it

pub tags_stored : (m m' : Memory) (a n t : ℕ) (z : Bool) (r : Result (Unit {0}) MemFault) → r ≡ result_of (tags_fault m a n) → m' ≡ (if is_ok r then with_granules m (plain a) n t z else m)
    → a % 16 ≡ 0 → IsOpen m a (a + 16 * n) → m' ≡ with_granules m a n t z
tags_stored m m' a n t z r e s k o =
    let below = o.below in
    let same : a % 2 ^ 56 ≡ a = omega arith in
    s ∙ cond-true _ _ _ (ap is_ok (e ∙ ap result_of (tags_open m a n o k))) ∙ ap (λ p. with_granules m p n t z) same

pub tag_loaded : (m : Memory) (a : ℕ) (r : Result ℕ MemFault) → r ≡ tag_result (tag_load_fault m a) (tag_at m (plain a)) → IsOpen m a (a + 1) → r ≡ Ok (tag_at m a)
tag_loaded m a r e o =
    let below = o.below in
    let same : a % 2 ^ 56 ≡ a = omega arith in
    e ∙ ap (λ f. tag_result f (tag_at m (a % 2 ^ 56))) (tag_load_open m a o) ∙ ap (λ p. Ok (tag_at m p)) same

write_open : (m : Memory) (a n : ℕ) → IsOpen m a (a + n) → write_fault m a n false ≡ None
unfolding write_fault
write_open m a n o =
    let b = o.below in
    let same : a % 2 ^ 56 ≡ a = omega arith in
    access_fault-none m (write_access a false) (addresses (plain a) n)
    (ap (λ j. first_fault m (write_access a false) (addresses j n)) same ∙ addresses_open n m (write_access a false) a (a + n) a o (omega arith) (omega arith) refl refl)

pub bytes_written : (m m' : Memory) (a : ℕ) (bs : List ℕ) (r : Result (Unit {0}) MemFault) → r ≡ result_of (write_fault m a (length bs) false) → m' ≡ (if is_ok r then after_write m a bs false else m)
    → IsOpen m a (a + length bs) → m' ≡ with_bytes_at m a bs
unfolding after_write
bytes_written m m' a bs r e s o =
    s ∙ cond-true _ _ _ (ap is_ok (e ∙ ap result_of (write_open m a (length bs) o)))
    ∙ ap (λ k. with_bytes_at k a bs) (after_access-without-check m (write_access a false) (addresses (plain a) (length bs)) refl)

pub open-mapped : (m : Memory) (a n k : ℕ) → n ≡ k → IsOpen m a (a + k) → IsMapped m a n
open-mapped m a n k e o =
    let below = o.below in
    IsMapped-from_pages m a n (λ i l.
    let same : (a % 2 ^ 56 + i) % 2 ^ 56 / 4096 ≡ (a + i) / 4096 = omega arith in
    let p = page_at-attrs m ((a + i) / 4096) 11 (o.pages (a + i) (omega arith) (omega arith)) in
    ap is_some (ap (page_at m) same ∙ p.1.0))

-- an access without a comparison of tags changes nothing, whatever its end
pub either_way : (b : Bool) (m : Memory) (a n : ℕ) → (if b then after_read m a n false else m) ≡ m
either_way true m a n = after_read-without-check m a n
either_way false m a n = refl

-- ---- eight bytes of a page with READ

has_read : (n : ℕ) → has n 3 ≡ true → has n 1 ≡ true
has_read n h =
    let three : n % 4 ≡ 3 = sym (and_mask n 2) ∙ eqb-true _ _ h in
    let one : n % 2 ≡ 1 = omega arith in
    eq-eqb _ _ (and_mask n 1 ∙ one)

in_page : (k : ℕ) (m : Memory) (x : Access) (a n : ℕ) → attrs_at m (a / 4096) ≡ Some n → a < 2 ^ 56 → a % 4096 + k ≤ 4096 → x.checked ≡ false → has n x.need ≡ true → first_fault m x (addresses a k) ≡ None
unfolding first_fault addresses
in_page zero m x a n e u l c h = refl
in_page (suc zero) m x a n e u l c h = ap (λ f. or_else f None) (byte_fault_open m x a n e c h)
in_page (suc (suc k)) m x a n e u l c h =
    let next : (a + 1) % 2 ^ 56 ≡ a + 1 = omega arith in
    let page : (a + 1) / 4096 ≡ a / 4096 = omega arith in
    ap (λ f. or_else f (first_fault m x (addresses ((a + 1) % 2 ^ 56) (suc k)))) (byte_fault_open m x a n e c h)
    ∙ ap (λ j. first_fault m x (addresses j (suc k))) next
    ∙ in_page (suc k) m x (a + 1) n (ap (attrs_at m) page ∙ e) (omega arith) (omega arith) c h

readable_by : (m : Memory) (a : ℕ) (o : Option ℕ) → attrs_at m (a / 4096) ≡ o → has_cases o 3 ≡ true → a < 2 ^ 56 → a % 4096 + 8 ≤ 4096 → read_fault m a 8 false ≡ None
unfolding read_fault
readable_by m a None e h u l = cc
readable_by m a (Some n) e h u l =
    let same : a % 2 ^ 56 ≡ a = omega arith in
    access_fault-none m (read_access a false) (addresses (plain a) 8)
    (ap (λ j. first_fault m (read_access a false) (addresses j 8)) same ∙ in_page 8 m (read_access a false) a n e u l refl (has_read n h))

pub word_readable : (m : Memory) (a : ℕ) → page_has m (a / 4096) 3 ≡ true → a < 2 ^ 56 → a % 16 ≡ 0 → read_fault m a 8 false ≡ None
unfolding page_has
word_readable m a h u k = readable_by m a (attrs_at m (a / 4096)) refl h u (omega arith)
