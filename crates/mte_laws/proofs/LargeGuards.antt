-- The pages next to those of a chunk that has its own are no mapping's.
use Rattle.std.proofs.Common.{◌≡◌, ℕ, ◌+◌, ◌<◌, ◌≤◌, ◌⊎◌, ◌==◌, ◌||◌, true, false, cond, List, [], ◌∷◌, Some, refl, sym, ap, subst, ◌∙◌, inl, inr, arith}
use Rattle.std.specs.List.{find, list_any}
use Rattle.common.specs.declared.limits.TheConstants.{PAGE_SIZE}
use Rattle.common.specs.declared.ranges.TheConstants.{SECONDARY_START}
use Rattle.scudo_secondary.specs.Mappings.{AreFrom, AreMappings, mapping_of, end_of}
use Rattle.scudo_secondary.specs.declared.mappings.Mapping.{Mapping}
use Rattle.scudo_heap.specs.Served.{is_inside}
use Rattle.scudo_heap.proofs.MapLemmas.{inside-low, inside-high, none-below, without}
use Rattle.mte_laws.specs.LivePages.{PageChunk, large_at}
use Rattle.mte_laws.specs.CarefulRuns.{State}
use Rattle.mte_laws.specs.SoundHeaps.{Sound}
use Rattle.mte_laws.specs.Discipline.{IsUnmapped}
use Rattle.mte_laws.proofs.Larges.{check-pointer-of}
use Rattle.mte_laws.proofs.Disciplines.{freed-pages-refused}
use Rattle.mte_laws.specs.LargeChunks.{LargeChunksAreGuarded}

-- an address is in the page before or after a mapping's
abbrev IsBeside : Mapping → ℕ → Type 0
IsBeside n a = ((n.start ≤ a + PAGE_SIZE) × (a < n.start)) ⊎ ((end_of n ≤ a) × (a < end_of n + PAGE_SIZE))

abbrev IsFreeFrom : List Mapping → ℕ → Mapping → ℕ → Type 0
IsFreeFrom ms least n a = (list_any (is_inside a) ms ≡ false) × (least ≤ n.start)

first-is : (m : Mapping) (ms : List Mapping) (least a : ℕ) → AreFrom least (m ∷ ms) → IsBeside m a → IsFreeFrom (m ∷ ms) least m a
first-is m ms least a h g =
    let k = h.0 in
    let above = k.above in
    let some = k.some in
    elim g [
      | inl q ↦ (let low = q.0 in let high = q.1 in (ap (λ b. b || list_any (is_inside a) ms) (inside-low a m high) ∙ none-below ms (end_of m + PAGE_SIZE) a h.1 (omega arith), above))
      | inr q ↦ (let low = q.0 in let high = q.1 in (ap (λ b. b || list_any (is_inside a) ms) (inside-high a m low) ∙ none-below ms (end_of m + PAGE_SIZE) a h.1 high, above))
    ]

later-is : (m : Mapping) (ms : List Mapping) (least a : ℕ) (n : Mapping) → AreFrom least (m ∷ ms) → IsBeside n a → IsFreeFrom ms (end_of m + PAGE_SIZE) n a → IsFreeFrom (m ∷ ms) least n a
later-is m ms least a n h g r =
    let k = h.0 in
    let above = k.above in
    let start = r.1 in
    let far : end_of m ≤ a = elim g [ inl q ↦ (let low = q.0 in omega arith) | inr q ↦ (let low = q.0 in omega arith) ] in
    (ap (λ b. b || list_any (is_inside a) ms) (inside-high a m far) ∙ r.0, omega arith)

free-from : (ms : List Mapping) (least a : ℕ) (n : Mapping) → AreFrom least ms → Some n ≡ mapping_of ms n.user → IsBeside n a → IsFreeFrom ms least n a
free-from [] least a n h e g = cc
free-from (m ∷ ms) least a n h e g =
    elim (m.user == n.user) as (λ b. (m.user == n.user) ≡ b → Some n ≡ cond b (Some m) (find (λ x. x.user == n.user) ms) → IsFreeFrom (m ∷ ms) least n a) [
      | true ↦ λ t f. (let same : m ≡ n = cc in subst (λ z. IsBeside z a → IsFreeFrom (m ∷ ms) least z a) same (first-is m ms least a h) g)
      | false ↦ λ t f. later-is m ms least a n h g (free-from ms (end_of m + PAGE_SIZE) a n h.1 f g)
    ] refl e

free-in : (ms : List Mapping) (a : ℕ) (n : Mapping) → AreMappings ms → Some n ≡ mapping_of ms n.user → IsBeside n a → IsFreeFrom ms (SECONDARY_START + PAGE_SIZE) n a
unfolding AreMappings
free-in ms a n h e g = free-from ms (SECONDARY_START + PAGE_SIZE) a n h e g

guard : (s : State) (u a : ℕ) (x : PageChunk) → Sound s → large_at s.live.pages u ≡ Some x → IsBeside x.mapping a → IsUnmapped s.world.memory a
guard s u a x k e g =
    let ms = s.world.heap.maps.mappings in
    let there = k.large.place u x e in
    let f = check-pointer-of ms u x.mapping k.heap.parts.mappings there in
    let named : Some x.mapping ≡ mapping_of ms x.mapping.user = sym there ∙ ap (mapping_of ms) (sym f.user) in
    let w = without ms x.mapping k.heap.parts.mappings named in
    let free = free-in ms a x.mapping k.heap.parts.mappings named g in
    let above = free.1 in
    let last = w.last in
    elim g [
      | inl q ↦ (let low = q.0 in let high = q.1 in (freed-pages-refused s a k (omega arith) (omega arith) free.0).0)
      | inr q ↦ (let low = q.0 in let high = q.1 in (freed-pages-refused s a k (omega arith) (omega arith) free.0).0)
    ]

pub large-guarded : LargeChunksAreGuarded
large-guarded = record {
  before = λ s u a x k e low high. guard s u a x k e (inl (low, high));
  after = λ s u a x k e low high. guard s u a x k e (inr (low, high));
}
