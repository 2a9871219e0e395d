use Rattle.std.proofs.Common.{◌≡◌, ℕ, ◌≤◌, length}
use Rattle.std.specs.Prelude.{if◌then◌else◌, nat_lt, vec_capacity}
use Rattle.mte_frames.specs.Whole.{times}
use Rattle.mte_frames.proofs.pool.PoolLists.new.Given as goal

abbrev pub invariant-loop-f : goal.invariant-loop-f
invariant-loop-f l = ((g : ℕ) → times g l.free.items ≡ (if nat_lt g l.f then 1 else 0)) × (length l.free.items ≡ l.f) × (l.frames ≤ vec_capacity l.free)
