-- Bytes that are copied in parts.
use Rattle.std.proofs.Common.{◌≡◌, ℕ, ◌+◌, ◌%◌, ◌^◌, ◌<◌, ◌≤◌, ◌⊎◌, List, ◌++◌, length, map, false, None, refl, sym, ap, ◌∙◌, inl, inr, arith, length-append}
use Rattle.std.proofs.lemmas.List.{map-append}
use Rattle.mte_tags.specs.Memory.{Memory, byte_at, attrs_at}
use Rattle.mte_tags.specs.Accesses.{addresses, bytes_at, first_fault, read_access, read_fault, read_bytes, with_bytes, with_bytes_at}
use Rattle.mte_tags.proofs.AddressLists.{addresses-append, with_bytes-append, length-addresses}
use Rattle.mte_tags.proofs.ByteLaws.{byte_at-written_other, read_bytes-same, length-read_bytes}
use Rattle.mte_tags.proofs.PageLaws.{attrs_at-with-bytes-at}
use Rattle.mte_tags.proofs.ModeLaws.{access_fault-none}
use Rattle.scudo_heap.specs.Realloc.{after_copy}
use Rattle.scudo_heap.specs.Inner.{AreApart, IsOpen}
use Rattle.scudo_heap.proofs.OpenLemmas.{addresses_open}

pub read_open : (m : Memory) (a n k : ℕ) → k ≡ n → IsOpen m a (a + n) → read_fault m a k false ≡ None
unfolding read_fault
read_open m a n k e o =
    let below = o.below in
    let same : a ≡ a % 2 ^ 56 = omega arith in
    access_fault-none m (read_access a false) (addresses (a % 2 ^ 56) k)
    (ap (λ j. first_fault m (read_access a false) (addresses j k)) (sym same) ∙ addresses_open k m (read_access a false) a (a + n) a o (omega arith) (omega arith) refl refl)

pub open-with-bytes-at : (m m' : Memory) (lo hi a b : ℕ) → ((q : ℕ) → attrs_at m' q ≡ attrs_at m q) → IsOpen m lo hi → lo ≤ a → b ≤ hi → IsOpen m' a b
open-with-bytes-at m m' lo hi a b e o l h =
    let below = o.below in
    record { pages = λ x p q. e _ ∙ o.pages x (omega arith) (omega arith); below = omega arith }

read-append : (m : Memory) (a k n : ℕ) → read_bytes m a (k + n) ≡ read_bytes m a k ++ read_bytes m (a + k) n
unfolding read_bytes bytes_at
read-append m a k n =
    let low : a % 2 ^ 56 < 2 ^ 56 = omega arith in
    let next : (a % 2 ^ 56 + k) % 2 ^ 56 ≡ (a + k) % 2 ^ 56 = omega arith in
    ap (map (byte_at m)) (addresses-append (a % 2 ^ 56) k n low)
    ∙ map-append (byte_at m) (addresses (a % 2 ^ 56) k) (addresses ((a % 2 ^ 56 + k) % 2 ^ 56) n)
    ∙ ap (λ b. map (byte_at m) (addresses (a % 2 ^ 56) k) ++ map (byte_at m) (addresses b n)) next

with-bytes-at-append : (m : Memory) (a : ℕ) (bs cs : List ℕ) → with_bytes_at (with_bytes_at m a bs) (a + length bs) cs ≡ with_bytes_at m a (bs ++ cs)
unfolding with_bytes_at
with-bytes-at-append m a bs cs =
    let low : a % 2 ^ 56 < 2 ^ 56 = omega arith in
    let next : (a + length bs) % 2 ^ 56 ≡ (a % 2 ^ 56 + length bs) % 2 ^ 56 = omega arith in
    ap (λ b. with_bytes (with_bytes m (addresses (a % 2 ^ 56) (length bs)) bs) (addresses b (length cs)) cs) next
    ∙ sym (with_bytes-append m (addresses (a % 2 ^ 56) (length bs)) (addresses ((a % 2 ^ 56 + length bs) % 2 ^ 56) (length cs)) bs cs (length-addresses (a % 2 ^ 56) (length bs)))
    ∙ ap (λ xs. with_bytes m xs (bs ++ cs)) (sym (ap (addresses (a % 2 ^ 56)) (length-append bs cs) ∙ addresses-append (a % 2 ^ 56) (length bs) (length cs) low))

-- a write leaves bytes that lie apart
read-apart : (m : Memory) (a b n : ℕ) (bs : List ℕ) → a + n ≤ 2 ^ 30 → b + length bs ≤ 2 ^ 30 → (a + n ≤ b) ⊎ (b + length bs ≤ a) → read_bytes (with_bytes_at m b bs) a n ≡ read_bytes m a n
read-apart m a b n bs la lb h =
    read_bytes-same (with_bytes_at m b bs) m a n (λ i l. byte_at-written_other m b bs ((a % 2 ^ 56 + i) % 2 ^ 56) (λ j k e.
    elim h [
      | inl o ↦ omega arith
      | inr o ↦ omega arith
    ]))

apart-parts : (from to k n j : ℕ) → j ≡ k → AreApart from to (k + n) → (from + k + n ≤ to) ⊎ (to + j ≤ from + k)
apart-parts from to k n j e h = elim h [
  | inl o ↦ inl (omega arith)
  | inr o ↦ inr (omega arith)
]

-- one part more
pub after-copy-more : (m : Memory) (from to k n : ℕ) → from + (k + n) ≤ 2 ^ 30 → to + (k + n) ≤ 2 ^ 30 → AreApart from to (k + n) → after_copy (after_copy m from to k) (from + k) (to + k) n ≡ after_copy m from to (k + n)
unfolding after_copy
after-copy-more m from to k n lf lt h =
    let bs = read_bytes m from k in
    let cs = read_bytes m (from + k) n in
    let long : length bs ≡ k = length-read_bytes m from k in
    ap (with_bytes_at (with_bytes_at m to bs) (to + k)) (read-apart m (from + k) to n bs (omega arith) (omega arith) (apart-parts from to k n (length bs) long h))
    ∙ ap (λ t. with_bytes_at (with_bytes_at m to bs) (to + t) cs) (sym long)
    ∙ with-bytes-at-append m to bs cs
    ∙ ap (with_bytes_at m to) (sym (read-append m from k n))

pub after-copy-none : (m : Memory) (from to : ℕ) → after_copy m from to 0 ≡ m
unfolding after_copy read_bytes bytes_at addresses with_bytes_at with_bytes
after-copy-none m from to = refl

pub attrs_at-after-copy : (m : Memory) (from to n q : ℕ) → attrs_at (after_copy m from to n) q ≡ attrs_at m q
unfolding after_copy
attrs_at-after-copy m from to n q = attrs_at-with-bytes-at m to (read_bytes m from n) q

pub apart-less : (a b j n : ℕ) → j ≤ n → AreApart a b n → AreApart a b j
apart-less a b j n l h = elim h [
  | inl o ↦ inl (omega arith)
  | inr o ↦ inr (omega arith)
]
