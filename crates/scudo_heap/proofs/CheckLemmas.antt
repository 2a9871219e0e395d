-- What the checks of a pointer find.
use Rattle.std.proofs.Common.{◌≡◌, ◌≢◌, ℕ, ◌+◌, ◌%◌, ◌^◌, ◌<◌, ◌≤◌, ◌==◌, ◌-◌, ◌/◌, ◌&&◌, nat_le, true, false, cond, List, [], ◌∷◌, Option, Some, None, Err, sym, ap, subst, ◌∙◌, arith, eq-eqb}
use Rattle.std.proofs.lemmas.Bool.{cond-true, cond-false}
use Rattle.std.proofs.lemmas.Bool.Decides.{nat_tests}
use Rattle.std.specs.Option.{IfSome}
use Rattle.std.specs.List.{find}
use Rattle.a64_bits.specs.Fields.{field_of}
use Rattle.std.specs.Int.{from_le_bytes, w64}
use Rattle.mte_tags.specs.Memory.{Memory, page_has}
use Rattle.mte_tags.specs.Accesses.{read_bytes}
use Rattle.scudo_header.specs.Headers.{header_of, checksum_of, unpacked_header}
use Rattle.scudo_header.specs.declared.headers.Header.{Header}
use Rattle.scudo_secondary.specs.Mappings.{AreFrom, AreMappings, mapping_of, end_of}
use Rattle.scudo_secondary.specs.declared.mappings.Mapping.{Mapping}
use Rattle.scudo_secondary.proofs.MappingLemmas.{end_below}
use Rattle.common.specs.declared.limits.TheConstants.{PAGE_SIZE}
use Rattle.common.specs.declared.ranges.TheConstants.{SECONDARY_START, SECONDARY_END}
use Rattle.scudo_heap.specs.declared.abort.HeapAbort.TheVariants.{Misaligned, Unmapped, InvalidState}
use Rattle.scudo_heap.specs.Heaps.{HeapState}
use Rattle.scudo_heap.specs.Checks.{is_mapped, is_allocated, header_at, check_chunk, check_header, check_pointer}

-- ---- headers

pub tags-of-bytes-small : (cookie pointer word : ℕ) → IfSome (unpacked_header cookie pointer word) (λ h. h.size_or_unused_bytes < 2 ^ 20)
unfolding unpacked_header
tags-of-bytes-small cookie pointer word =
    elim (field_of 48 16 word == checksum_of cookie pointer word) as (λ b. IfSome (cond b (Some (header_of word)) None) (λ h. h.size_or_unused_bytes < 2 ^ 20)) [
      | true ↦ (let t : field_of 12 20 word < 2 ^ 20 = omega arith in t)
      | false ↦ tt
    ]

-- ---- mappings

pub record IsFit (m : Mapping) : Type 0 where
  pub above : SECONDARY_START + PAGE_SIZE ≤ m.start
  pub aligned : m.start % PAGE_SIZE ≡ 0
  pub some : 0 < m.pages
  pub first : m.start ≤ m.user
  pub below : m.user < end_of m
  pub last : end_of m + PAGE_SIZE ≤ SECONDARY_END

bounds-from : (ms : List Mapping) (least user : ℕ) (m : Mapping) → SECONDARY_START + PAGE_SIZE ≤ least → AreFrom least ms → Some m ≡ mapping_of ms user → IsFit m
bounds-from [] least user m l h e = cc
bounds-from (n ∷ ms) least user m l h e =
    let k = h.0 in
    let above = k.above in
    let some = k.some in
    let rest = end_below ms (end_of n + PAGE_SIZE) h.1 in
    elim (n.user == user) as (λ b. Some m ≡ cond b (Some n) (find (λ x. x.user == user) ms) → IsFit m) [
      | true ↦ λ f. (let same : n ≡ m = cc in subst IsFit same (record { above = omega arith; aligned = k.aligned; some = some; first = k.first; below = k.last; last = rest }))
      | false ↦ λ f. bounds-from ms (end_of n + PAGE_SIZE) user m (omega arith) h.1 f
    ] e

pub mapping-bounds : (ms : List Mapping) (user : ℕ) (m : Mapping) → AreMappings ms → Some m ≡ mapping_of ms user → IsFit m
unfolding AreMappings
mapping-bounds ms user m h e = bounds-from ms (SECONDARY_START + PAGE_SIZE) user m (omega arith) h e

-- ---- in their order

pub check-pointer-misaligned : (m : Memory) (h : HeapState) (user : ℕ) → user % 16 ≢ 0 → Err Misaligned ≡ check_pointer m h user
unfolding check_pointer
check-pointer-misaligned m h user n = let t : (user % 16 == 0) ≡ false = grind (arith, nat_tests) in sym (cond-false _ _ _ t)

pub check-pointer-unmapped : (m : Memory) (h : HeapState) (user : ℕ) → user % 16 ≡ 0 → is_mapped m user ≡ false → Err Unmapped ≡ check_pointer m h user
unfolding check_pointer
check-pointer-unmapped m h user e n = sym (cond-true _ _ _ (eq-eqb _ _ e) ∙ cond-false _ _ _ n)

pub check-pointer-header : (m : Memory) (h : HeapState) (user : ℕ) (o : Option Header) → user % 16 ≡ 0 → is_mapped m user ≡ true → o ≡ header_at m h.cookie user → check_header h user o ≡ check_pointer m h user
unfolding check_pointer
check-pointer-header m h user o e n f = ap (check_header h user) f ∙ sym (cond-true _ _ _ (eq-eqb _ _ e) ∙ cond-true _ _ _ n)

pub check-pointer-state : (h : HeapState) (user : ℕ) (header : Header) → is_allocated header.state ≡ false → Err InvalidState ≡ check_header h user (Some header)
check-pointer-state h user header e = sym (cond-false _ _ _ e)

pub check-pointer-chunk : (h : HeapState) (user : ℕ) (header : Header) → is_allocated header.state ≡ true → check_chunk h.stacks h.maps.mappings user header ≡ check_header h user (Some header)
check-pointer-chunk h user header e = sym (cond-true _ _ _ e)

-- ---- the word of a header

pub mapped-from : (m : Memory) (user : ℕ) → 16 ≤ user → page_has m ((user - 16) / PAGE_SIZE) 3 ≡ true → is_mapped m user ≡ true
mapped-from m user l p = let t : nat_le 16 user ≡ true = grind (arith, nat_tests) in ap (λ b. b && page_has m ((user - 16) / PAGE_SIZE) 3) t ∙ p

pub unmapped-from : (m : Memory) (user : ℕ) → 16 ≤ user → page_has m ((user - 16) / PAGE_SIZE) 3 ≡ false → is_mapped m user ≡ false
unmapped-from m user l p = let t : nat_le 16 user ≡ true = grind (arith, nat_tests) in ap (λ b. b && page_has m ((user - 16) / PAGE_SIZE) 3) t ∙ p

pub unmapped-below : (m : Memory) (user : ℕ) → user < 16 → is_mapped m user ≡ false
unmapped-below m user l = let t : nat_le 16 user ≡ false = grind (arith, nat_tests) in ap (λ b. b && page_has m ((user - 16) / PAGE_SIZE) 3) t

pub check-pointer-word : (m : Memory) (h : HeapState) (user word : ℕ) → user % 16 ≡ 0 → is_mapped m user ≡ true → word ≡ from_le_bytes w64 (read_bytes m (user - 16) 8)
    → check_header h user (unpacked_header h.cookie user word) ≡ check_pointer m h user
unfolding header_at
check-pointer-word m h user word e n f = check-pointer-header m h user (unpacked_header h.cookie user word) e n (ap (unpacked_header h.cookie user) f)
