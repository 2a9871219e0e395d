-- The tags of blocks an odd number of blocks apart differ.
use Rattle.std.proofs.Common.{◌≡◌, ◌≢◌, ℕ, zero, suc, ◌+◌, ◌*◌, ◌%◌, sym, ap, subst, ◌∙◌, inl, inr, arith}
use Rattle.scudo_header.specs.Classes.{size_of}
use Rattle.scudo_primary.specs.Blocks.{IsClass}
use Rattle.scudo_heap.specs.Chunks.{tag_parity}
use Rattle.mte_laws.specs.LiveChunks.{IsHalfTag}
use Rattle.mte_laws.proofs.Draws.{half-odd, half-next}
use Rattle.mte_laws.proofs.BlockSounds.{live_half}
use Rattle.mte_laws.proofs.BlockCalls.{block-open}
use Rattle.mte_laws.proofs.Faults.{refused}
use Rattle.mte_laws.proofs.Serving.{blocks-of}
use Rattle.mte_laws.proofs.Disciplines.{chunks-tagged}
use Rattle.mte_laws.specs.Distances.{IsOddDistance, OddDistancesDiffer, NeighboursAreOddBlocksApart}

odd_sum : (a b c d : ℕ) → (b + a) % 2 ≡ 1 → (c + b) % 2 ≡ 1 → (d + c) % 2 ≡ 1 → (d + a) % 2 ≡ 1
odd_sum a b c d e f g = omega arith

odd_tags : (s t a b : ℕ) → (b + a) % 2 ≡ 1 → (s + a) % 2 ≡ 1 → (t + b) % 2 ≡ 1 → s ≢ t
odd_tags s t a b e f g = λ q. omega arith

-- an odd number of blocks later the half is the other one
half-later : (n c b : ℕ) → IsClass c → (tag_parity c (b + (2 * n + 1) * size_of c) + tag_parity c b) % 2 ≡ 1
half-later zero c b h = subst (λ d. (tag_parity c d + tag_parity c b) % 2 ≡ 1) (let q : b + size_of c ≡ b + (2 * 0 + 1) * size_of c = omega arith in q) (half-next c b h)
half-later (suc n) c b h =
    let d = b + (2 * n + 1) * size_of c in
    let r : d + size_of c + size_of c ≡ b + (2 * suc n + 1) * size_of c = grind arith in
    let one = half-later n c b h in
    let two = half-next c d h in
    let three = half-next c (d + size_of c) h in
    subst (λ t. (tag_parity c t + tag_parity c b) % 2 ≡ 1) r (odd_sum (tag_parity c b) (tag_parity c d) (tag_parity c (d + size_of c)) (tag_parity c (d + size_of c + size_of c)) one two three)

odd-differ : (c b d s t : ℕ) → IsClass c → IsHalfTag c b s → IsHalfTag c d t → IsOddDistance c b d → s ≢ t
odd-differ c b d s t h x y far =
    let e : (tag_parity c d + tag_parity c b) % 2 ≡ 1 = subst (λ z. (tag_parity c z + tag_parity c b) % 2 ≡ 1) far.1 (half-later far.0 c b h) in
    let f = half-odd c b s x in
    let g = half-odd c d t y in
    odd_tags s t (tag_parity c b) (tag_parity c d) e f g

pub odd-distances : OddDistancesDiffer
odd-distances = λ s u v x y k e f far.
    let b = blocks-of s k in
    let i = k.placed.place u x e in
    let j = k.placed.place v y f in
    let hx = live_half s.world.memory s.world.heap.stacks s.live.blocks b u x e in
    let hy = live_half s.world.memory s.world.heap.stacks s.live.blocks b v y f in
    let hy' : IsHalfTag x.place.class y.place.block y.tag = subst (λ c. IsHalfTag c y.place.block y.tag) (sym far.0) hy in
    let differ : x.tag ≢ y.tag = elim far.1 [
      | inl o ↦ odd-differ x.place.class x.place.block y.place.block x.tag y.tag i.carved.class hx hy' o
      | inr o ↦ λ q. odd-differ x.place.class y.place.block x.place.block y.tag x.tag i.carved.class hy' hx o (sym q)
    ] in
    let around = block-open s.world.memory s.world.heap.stacks y.place b.stacked b.served j in
    let above = j.above in
    let within = j.within in
    (differ, λ addr from to. refused s.world.memory x.tag addr k.sync (inr (around.at addr (omega arith) (omega arith))) (λ q. differ (sym q ∙ chunks-tagged.blocks s v addr y k f from to)))

pub neighbours-odd : NeighboursAreOddBlocksApart
neighbours-odd = λ p q n. (
  n.0,
  elim n.1 [
    | inl e ↦ inl (0, let z : p.block + (2 * 0 + 1) * size_of p.class ≡ p.block + size_of p.class = omega arith in z ∙ e)
    | inr e ↦ inr (0, let z : q.block + (2 * 0 + 1) * size_of p.class ≡ q.block + size_of q.class = ap (λ c. q.block + (2 * 0 + 1) * size_of c) n.0 ∙ omega arith in z ∙ e)
  ],
)
