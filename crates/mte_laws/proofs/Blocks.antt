-- Where carved blocks lie: each in its region, no two over one another.
use Rattle.std.proofs.Common.{◌≡◌, ◌≢◌, ℕ, ◌+◌, ◌-◌, ◌*◌, ◌/◌, ◌%◌, ◌<◌, ◌≤◌, ◌⊎◌, sym, subst, inl, inr, arith}
use Rattle.std.proofs.lemmas.Bool.{cases_eq, cases_lt}
use Rattle.std.proofs.Math.Nat.{mul-le-mul_left}
use Rattle.scudo_header.specs.Classes.{size_of}
use Rattle.scudo_header.specs.Regions.{region_of}
use Rattle.common.specs.declared.limits.TheConstants.{PAGE_SIZE, MAX_PAGES}
use Rattle.scudo_primary.proofs.BlockLemmas.{size-IsSize, block-whole, block-IsCell}
use Rattle.scudo_heap.specs.Stacks.{StackState, pages_of}
use Rattle.mte_laws.specs.LiveChunks.{IsCarved}
use Rattle.mte_laws.proofs.Views.{IsStacked}

-- a multiple of a size is a whole size away from the next one
multiples : (x y s : ℕ) → 0 < s → x % s ≡ 0 → y % s ≡ 0 → x < y → x + s ≤ y
multiples x y s p e f l =
    let a : x ≡ s * (x / s) = omega arith in
    let b : y ≡ s * (y / s) = omega arith in
    elim (cases_lt (x / s) (y / s)) [
      | inl k ↦
          let c : s * (x / s + 1) ≤ s * (y / s) = mul-le-mul_left s (let t : x / s + 1 ≤ y / s = omega arith in t) in
          let d : s * (x / s + 1) ≡ s * (x / s) + s = grind arith in
          omega arith
      | inr k ↦ let c : s * (y / s) ≤ s * (x / s) = mul-le-mul_left s k in absurd (omega arith)
    ]

-- a block in its region
pub record IsIn (h : StackState) (c b : ℕ) : Type 0 where
  pub low : 0 < c
  pub high : c ≤ 44
  pub least : 32 ≤ size_of c
  pub units : size_of c % 16 ≡ 0
  pub aligned : b % 16 ≡ 0
  pub above : region_of c ≤ b
  pub within : b + size_of c ≤ region_of c + PAGE_SIZE * pages_of h c
  pub few : pages_of h c ≤ MAX_PAGES

pub block-in : (h : StackState) (c b : ℕ) → IsStacked h → IsCarved h c b → IsIn h c b
block-in h c b k d =
    let s = size-IsSize c d.class in
    let least = s.least in
    let multiple = s.multiple in
    let w = block-whole c (pages_of h c) b d.class d.block in
    let cell = block-IsCell c (pages_of h c) b d.class d.block in
    let granule = cell.granule in
    let inside = d.block.inside in
    let few = k.few c d.class in
    let low = d.class.low in
    let high = d.class.high in
    record { low = omega arith; high = omega arith; least = omega arith; units = omega arith; aligned = omega arith; above = inside; within = omega arith; few = few }

in_class : (h : StackState) (c b e : ℕ) → IsStacked h → IsCarved h c b → IsCarved h c e → b < e → b + size_of c ≤ e
in_class h c b e k x y l =
    let i = block-in h c b k x in
    let j = block-in h c e k y in
    let a = i.above in
    let least = i.least in
    let d = multiples (b - region_of c) (e - region_of c) (size_of c) (omega arith) x.block.start y.block.start (omega arith) in
    omega arith

-- a block names its class
pub same-class : (h : StackState) (c d b : ℕ) → IsStacked h → IsCarved h c b → IsCarved h d b → c ≡ d
same-class h c d b k x y =
    let i = block-in h c b k x in
    let j = block-in h d b k y in
    omega arith

pub apart : (h : StackState) (c d b e : ℕ) → IsStacked h → IsCarved h c b → IsCarved h d e → b ≢ e → (b + size_of c ≤ e) ⊎ (e + size_of d ≤ b)
apart h c d b e k x y n =
    let i = block-in h c b k x in
    let j = block-in h d e k y in
    elim (cases_eq c d) [
      | inl q ↦ elim (cases_lt b e) [
        | inl l ↦ inl (in_class h c b e k x (subst (λ t. IsCarved h t e) (sym q) y) l)
        | inr l ↦ inr (in_class h d e b k y (subst (λ t. IsCarved h t b) q x) (omega arith))
      ]
      | inr q ↦ elim (cases_lt c d) [
        | inl l ↦ inl (omega arith)
        | inr l ↦ inr (omega arith)
      ]
    ]
