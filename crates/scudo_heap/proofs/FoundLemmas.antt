-- What a chunk is that the checks found.
use Rattle.std.proofs.Common.{◌≡◌, ℕ, ◌+◌, ◌-◌, ◌*◌, ◌%◌, ◌^◌, ◌<◌, ◌≤◌, ◌==◌, ◌&&◌, nat_le, Bool, true, false, cond, List, [], ◌∷◌, Option, Some, None, Result, Ok, Err, refl, sym, ap, subst, ◌∙◌, arith}
use Rattle.std.proofs.lemmas.Bool.{eqb-true}
use Rattle.std.proofs.lemmas.Bool.Decides.{nat_tests}
use Rattle.std.specs.Option.{IfSome}
use Rattle.std.specs.List.{find}
use Rattle.std.specs.Int.{from_le_bytes, w64}
use Rattle.a64_bits.specs.Addresses.{plain}
use Rattle.mte_tags.specs.Memory.{Memory}
use Rattle.mte_tags.specs.Accesses.{read_bytes}
use Rattle.scudo_header.specs.declared.headers.Header.{Header}
use Rattle.scudo_primary.specs.Blocks.{IsBlock}
use Rattle.scudo_primary.specs.Pools.{is_member}
use Rattle.scudo_secondary.specs.Mappings.{mapping_of, end_of}
use Rattle.scudo_secondary.specs.declared.mappings.Mapping.{Mapping}
use Rattle.scudo_heap.specs.declared.chunk.Place.{Place}
use Rattle.scudo_heap.specs.declared.chunk.Found.{Found}
use Rattle.scudo_heap.specs.declared.chunk.Found.TheVariants.{InBlock, InPages}
use Rattle.scudo_heap.specs.declared.abort.HeapAbort.{HeapAbort}
use Rattle.scudo_heap.specs.declared.abort.HeapAbort.TheVariants.{NotABlock, AlreadyFree}
use Rattle.scudo_heap.specs.Stacks.{StackState, pages_of, stack_of}
use Rattle.scudo_heap.specs.Heaps.{HeapState}
use Rattle.scudo_heap.specs.Checks.{is_block, is_place, place_of_header, header_at, check_block, check_mapping, check_chunk, check_header, check_pointer}
use Rattle.scudo_heap.specs.Realloc.{user_of}
use Rattle.scudo_heap.specs.Inner.{IsPlaced, IsFoundBlock, IsFound}
use Rattle.scudo_heap.proofs.CheckLemmas.{tags-of-bytes-small}
use Rattle.scudo_heap.proofs.MapLemmas.{and-both, le-of, lt-of}

ok-then : (b : Bool) (x : Result Found HeapAbort) (e : HeapAbort) (f : Found) → cond b x (Err e) ≡ Ok f → (b ≡ true) × (x ≡ Ok f)
ok-then true x e f h = (refl, h)
ok-then false x e f h = cc

ok-else : (b : Bool) (x : Result Found HeapAbort) (e : HeapAbort) (f : Found) → cond b (Err e) x ≡ Ok f → (b ≡ false) × (x ≡ Ok f)
ok-else true x e f h = cc
ok-else false x e f h = (refl, h)

block-of : (s : StackState) (c b : ℕ) → is_block s c b ≡ true → IsBlock c (pages_of s c) b
block-of s c b h =
    let x = and-both _ _ h in
    let y = and-both _ _ x.0 in
    record { inside = le-of _ _ y.0; start = eqb-true _ _ y.1; carved = lt-of _ _ x.1 }

place-of : (s : StackState) (p : Place) → 0 < p.class → p.size < 2 ^ 20 → p.user % 16 ≡ 0 → p.block + 16 ≤ p.user → is_place s p ≡ true → IsPlaced s p
place-of s p low small aligned above h =
    let x = and-both _ _ h in
    let y = and-both _ _ x.0 in
    let z = and-both _ _ y.0 in
    record { low = low; high = le-of _ _ z.0; carved = block-of s p.class p.block z.1; aligned = aligned; above = above; some = lt-of _ _ y.1; small = small; within = le-of _ _ x.1 }

abbrev ok_of : Found → Result Found HeapAbort
ok_of f = Ok f

same-block : (p q : Place) (header h' : Header) → ok_of (InBlock p header) ≡ ok_of (InBlock q h') → (p ≡ q) × (header ≡ h')
same-block p q header h' e = (cc, cc)

same-pages : (m n : Mapping) (header h' : Header) → ok_of (InPages m header) ≡ ok_of (InPages n h') → m ≡ n
same-pages m n header h' e = cc

not-both : (m : Mapping) (header : Header) (p : Place) (h' : Header) → ok_of (InPages m header) ≡ ok_of (InBlock p h') → ⊥
not-both m header p h' e = cc

not-either : (m : Mapping) (header : Header) (p : Place) (h' : Header) → ok_of (InBlock p h') ≡ ok_of (InPages m header) → ⊥
not-either m header p h' e = cc

-- what the fifth and the sixth check found
in-block : (s : StackState) (p : Place) (header : Header) (f : Found) → check_block s p header ≡ Ok f → (is_place s p ≡ true) × ((is_member (stack_of s p.class) p.block ≡ false) × (ok_of (InBlock p header) ≡ Ok f))
in-block s p header f e =
    let x = ok-then (is_place s p) (cond (is_member (stack_of s p.class) p.block) (Err AlreadyFree) (ok_of (InBlock p header))) NotABlock f e in
    let y = ok-else (is_member (stack_of s p.class) p.block) (ok_of (InBlock p header)) AlreadyFree f x.1 in
    (x.0, (y.0, y.1))

in-pages : (header : Header) (m : Mapping) (f : Found) → check_mapping header (Some m) ≡ Ok f → ok_of (InPages m header) ≡ Ok f
in-pages header m f e = (ok-then ((header.offset == 0) && nat_le header.size_or_unused_bytes (end_of m - m.user)) (ok_of (InPages m header)) NotABlock f e).1

block-check-pointer : (s : StackState) (p q : Place) (header h' : Header) → 0 < p.class → p.size < 2 ^ 20 → p.user % 16 ≡ 0 → p.block + 16 ≤ p.user → header.size_or_unused_bytes ≡ p.size → check_block s p header ≡ Ok (InBlock q h') → IsFoundBlock s q h'
block-check-pointer s p q header h' low small aligned above size e =
    let x = in-block s p header (InBlock q h') e in
    let same = same-block p q header h' x.1.1 in
    subst (IsFoundBlock s q) same.1 (subst (λ t. IsFoundBlock s t header) same.0 (record { place = place-of s p low small aligned above x.0; used = x.1.0; size = size }))

no-block : (header : Header) (o : Option Mapping) (p : Place) (h' : Header) → check_mapping header o ≡ Ok (InBlock p h') → ⊥
no-block header None p h' e = cc
no-block header (Some m) p h' e = not-both m header p h' (in-pages header m (InBlock p h') e)

no-pages : (s : StackState) (p : Place) (header : Header) (m : Mapping) (h' : Header) → check_block s p header ≡ Ok (InPages m h') → ⊥
no-pages s p header m h' e = not-either m h' p header (in-block s p header (InPages m h') e).1.1

-- the mapping with a user address has it
user-of : (ms : List Mapping) (user : ℕ) (m : Mapping) → mapping_of ms user ≡ Some m → m.user ≡ user
user-of [] user m e = cc
user-of (n ∷ ms) user m e = elim (n.user == user) as (λ b. (n.user == user) ≡ b → cond b (Some n) (find (λ x. x.user == user) ms) ≡ Some m → m.user ≡ user) [
  | true ↦ λ t f. (let same : n ≡ m = cc in ap (λ (x : Mapping). x.user) (sym same) ∙ eqb-true _ _ t)
  | false ↦ λ t f. user-of ms user m f
] refl e

pages-check-pointer : (ms : List Mapping) (user : ℕ) (header : Header) (o : Option Mapping) (m : Mapping) (h' : Header) → o ≡ mapping_of ms user → check_mapping header o ≡ Ok (InPages m h') → Some m ≡ mapping_of ms m.user
pages-check-pointer ms user header None m h' eo e = cc
pages-check-pointer ms user header (Some n) m h' eo e =
    let same = same-pages n m header h' (in-pages header n (InPages m h') e) in
    let there : Some m ≡ mapping_of ms user = ap Some (sym same) ∙ eo in
    there ∙ ap (mapping_of ms) (sym (user-of ms user m (sym there)))

-- ---- all checks

pages-case : (h : HeapState) (user : ℕ) (header : Header) (f : Found) → check_mapping header (mapping_of h.maps.mappings user) ≡ Ok f → IsFound h f
pages-case h user header (InBlock p h') e = absurd (no-block header (mapping_of h.maps.mappings user) p h' e)
pages-case h user header (InPages m h') e = pages-check-pointer h.maps.mappings user header (mapping_of h.maps.mappings user) m h' refl e

block-case : (h : HeapState) (user : ℕ) (header : Header) (f : Found) → 0 < header.class_id → header.size_or_unused_bytes < 2 ^ 20 → user % 16 ≡ 0 → 16 + 16 * header.offset ≤ user
    → check_block h.stacks (place_of_header user header) header ≡ Ok f → IsFound h f
block-case h user header (InBlock p h') low small aligned above e = block-check-pointer h.stacks (place_of_header user header) p header h' low small aligned (omega arith) refl e
block-case h user header (InPages m h') low small aligned above e = absurd (no-pages h.stacks (place_of_header user header) header m h' e)

chunk-check-pointer : (h : HeapState) (user : ℕ) (header : Header) (f : Found) → user % 16 ≡ 0 → header.size_or_unused_bytes < 2 ^ 20 → check_chunk h.stacks h.maps.mappings user header ≡ Ok f → IsFound h f
unfolding check_chunk
chunk-check-pointer h user header f aligned small e =
    elim (header.class_id == 0) as (λ b. (header.class_id == 0) ≡ b
    → cond b (check_mapping header (mapping_of h.maps.mappings user)) (cond (nat_le (16 + 16 * header.offset) user) (check_block h.stacks (place_of_header user header) header) (Err NotABlock)) ≡ Ok f → IsFound h f) [
      | true ↦ λ t g. pages-case h user header f g
      | false ↦ λ t g. (let x = ok-then (nat_le (16 + 16 * header.offset) user) (check_block h.stacks (place_of_header user header) header) NotABlock f g in
          let above = le-of _ _ x.0 in
          let low : 0 < header.class_id = grind (arith, nat_tests) in
          block-case h user header f low small aligned (omega arith) x.1)
    ] refl e

by-check-pointer : (h : HeapState) (user : ℕ) (o : Option Header) (f : Found) → user % 16 ≡ 0 → IfSome o (λ header. header.size_or_unused_bytes < 2 ^ 20) → check_header h user o ≡ Ok f → IsFound h f
by-check-pointer h user None f aligned small e = cc
by-check-pointer h user (Some header) f aligned small e = let x = ok-then _ _ _ _ e in chunk-check-pointer h user header f aligned small x.1

-- ---- what was found has the address that was checked

same-found : (f k : Found) → ok_of f ≡ ok_of k → f ≡ k
same-found f k e = cc

pages-user : (ms : List Mapping) (user : ℕ) (header : Header) (o : Option Mapping) (f : Found) → o ≡ mapping_of ms user → check_mapping header o ≡ Ok f → user_of f ≡ user
pages-user ms user header None f eo e = cc
pages-user ms user header (Some n) f eo e = ap user_of (sym (same-found (InPages n header) f (in-pages header n f e))) ∙ user-of ms user n (sym eo)

chunk-user : (h : HeapState) (user : ℕ) (header : Header) (f : Found) → check_chunk h.stacks h.maps.mappings user header ≡ Ok f → user_of f ≡ user
unfolding check_chunk
chunk-user h user header f e =
    elim (header.class_id == 0) as (λ b. cond b (check_mapping header (mapping_of h.maps.mappings user)) (cond (nat_le (16 + 16 * header.offset) user) (check_block h.stacks (place_of_header user header) header) (Err NotABlock)) ≡ Ok f → user_of f ≡ user) [
      | true ↦ λ k. pages-user h.maps.mappings user header (mapping_of h.maps.mappings user) f refl k
      | false ↦ λ k. (let x = ok-then (nat_le (16 + 16 * header.offset) user) (check_block h.stacks (place_of_header user header) header) NotABlock f k in
          ap user_of (sym (same-found (InBlock (place_of_header user header) header) f (in-block h.stacks (place_of_header user header) header f x.1).1.1)))
    ] e

pub found-user : (h : HeapState) (user : ℕ) (o : Option Header) (f : Found) → check_header h user o ≡ Ok f → user_of f ≡ user
found-user h user None f e = cc
found-user h user (Some header) f e = let x = ok-then _ _ _ _ e in chunk-user h user header f x.1

header-small : (m : Memory) (cookie user : ℕ) → IfSome (header_at m cookie user) (λ header. header.size_or_unused_bytes < 2 ^ 20)
unfolding header_at
header-small m cookie user = tags-of-bytes-small cookie user (from_le_bytes w64 (read_bytes m (user - 16) 8))

pub check-pointer-is : (m : Memory) (h : HeapState) (user : ℕ) (f : Found) → check_pointer m h user ≡ Ok f → IsFound h f
unfolding check_pointer
check-pointer-is m h user f e =
    let x = ok-then _ _ _ _ e in
    let y = ok-then _ _ _ _ x.1 in
    by-check-pointer h user (header_at m h.cookie user) f (eqb-true _ _ x.0) (header-small m h.cookie user) y.1

-- a check of the heap that is seen, at the plain address
pub check-plain : (m : Memory) (h k : HeapState) (q p : ℕ) (r : Result Found HeapAbort) → r ≡ check_pointer m k q → k ≡ h → q ≡ plain p → r ≡ check_pointer m h (plain p)
check-plain m h k q p r e s t = e ∙ ap (λ o. check_pointer m o q) s ∙ ap (check_pointer m h) t
