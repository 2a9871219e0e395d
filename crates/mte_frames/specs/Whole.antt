-- The invariant of a pool's fields.
use Rattle.std.specs.Prelude.{◌≡◌, ℕ, ◌+◌, ◌≤◌, if◌then◌else◌, nat_eq, List, [], ◌∷◌, length, sum}
use Rattle.std.specs.Prelude.{get_or, Option, Some, None, vec_capacity}
use Rattle.mte_frames.specs.Pool.{Pool, make_pool, IsSound}
use Rattle.mte_frames.specs.declared.pool.FramePool.TheInside.{Inside}

-- how often x is in the list
abbrev pub times : ℕ → List ℕ → ℕ
times x [] = 0
times x (y ∷ ys) = (if nat_eq x y then 1 else 0) + times x ys

-- 1 for a frame that is out under no quota
abbrev pub vacant : Option ℕ → ℕ
vacant None = 1
vacant (Some k) = 0

-- The pool that the code keeps.
abbrev pub pool_of : Inside → Pool
pool_of a =
    let counts = vec_capacity a.reserved ∷ vec_capacity a.taken ∷ [] in
    let capacities = vec_capacity a.free ∷ vec_capacity a.owners ∷ counts in
    make_pool capacities a.arena a.owners.items a.reserved.items a.taken.items

-- The free list and the counts are those of the pool.
pub record IsPool (a : Inside) : Type 0 where
  pub sound : IsSound (pool_of a)
  -- each frame that is out under no quota is in the free list once, and nothing else is
  pub free_are : (f : ℕ) → times f a.free.items ≡ vacant (get_or a.owners.items f (Some 0))
  pub free_count : length a.free.items + sum a.taken.items ≡ length a.arena
  pub unreserved_count : a.unreserved + sum a.reserved.items ≡ length a.arena
  -- a frame that is given back needs no memory
  pub room : length a.arena ≤ vec_capacity a.free
