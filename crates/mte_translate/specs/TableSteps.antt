-- The effect of one step of a table on the pool.
use Rattle.std.specs.Prelude.{◌≡◌, ◌≢◌, ℕ, ◌<◌, get_or, None}
use Rattle.mte_frames.specs.Pool.{Pool, KeepsOthers, reserved_by}
use Rattle.mte_translate.specs.declared.entries.TheConstants.{TABLE_PAGES}
use Rattle.mte_translate.specs.Tables.{entry_at, walk_at, KeepsData}

-- the entry i of the frame f was written
pub record Wrote (p n : Pool) (f i e : ℕ) : Type 0 where
  pub here : entry_at n f i ≡ e
  pub slots : (j : ℕ) → j < 512 → j ≢ i → entry_at n f j ≡ entry_at p f j
  pub frames : (g : ℕ) → g ≢ f → get_or n.frames g None ≡ get_or p.frames g None
  pub owners : n.owners ≡ p.owners
  pub reserved : n.reserved ≡ p.reserved
  pub taken : n.taken ≡ p.taken
  pub capacities : n.capacities ≡ p.capacities

-- what a step at the entry s of the root leaves as it was
pub record KeepsRest (k root s : ℕ) (p n : Pool) : Type 0 where
  pub slots : (j : ℕ) → j < 512 → j ≢ s → entry_at n root j ≡ entry_at p root j
  pub kept : KeepsData k root p n
  pub others : KeepsOthers k p n
  pub reserved : reserved_by n k ≡ reserved_by p k
  pub capacities : n.capacities ≡ p.capacities

-- all pages are mapped as they were, or all but q
abbrev pub KeepsWalks : ℕ → Pool → Pool → Type 0
KeepsWalks root p n = (r : ℕ) → r < TABLE_PAGES → walk_at n root r ≡ walk_at p root r

-- Every walk but the one for page q finds what it found before.
abbrev pub KeepsWalksBut : ℕ → ℕ → Pool → Pool → Type 0
KeepsWalksBut root q p n =
    (r : ℕ) → r < TABLE_PAGES → r ≢ q → walk_at n root r ≡ walk_at p root r
