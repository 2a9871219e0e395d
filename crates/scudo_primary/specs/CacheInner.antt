-- For the code's own clauses, views and invariants.
-- The invariant of a cache's fields, and of the blocks of one class and the pool.
use Rattle.std.specs.Prelude.{◌≡◌, ℕ, ◌-◌, ◌≤◌, List, [], length, nat_eq, slice_index_or}
use Rattle.std.specs.Prelude.{vec_capacity}
use Rattle.std.specs.List.{All, IsDistinct}
use Rattle.scudo_header.specs.declared.config.TheConstants.{CLASSES}
use Rattle.scudo_header.specs.ByClass.{by_class}
use Rattle.scudo_header.specs.Classes.{IsClass}
use Rattle.scudo_primary.specs.Batches.{max_count_of}
use Rattle.scudo_primary.specs.Pools.{PoolState, IsCached}
use Rattle.scudo_primary.specs.Caches.{CacheState, Class}
use Rattle.scudo_primary.specs.declared.cache.Cache.TheInside.{Inside}

-- The blocks of a class that the code keeps.
abbrev pub list_in : Inside → ℕ → List ℕ
list_in f class = slice_index_or f.entries.items (class - 1) []

-- The cache that the code keeps.
abbrev pub cache_of : Inside → CacheState
cache_of f = record {
  classes = by_class (list_in f);
  capacity = vec_capacity f.entries;
}

-- There is a list for each class, of at most its maximum, with no block twice.
pub record IsCache (f : Inside) : Type 0 where
  pub all : length f.entries.items ≡ CLASSES
  pub most : (class : ℕ) → IsClass class → length (list_in f class) ≤ max_count_of class
  pub distinct : (class : ℕ) → IsClass class → IsDistinct nat_eq (list_in f class)

-- A class of these blocks, with the pool below it.
abbrev pub class_with : List ℕ → PoolState → Class
class_with entries p = record { entries = entries; pool = p }

-- the blocks that the cache holds of a class
pub record IsHeld (class : ℕ) (entries : List ℕ) (p : PoolState) : Type 0 where
  pub cached : All (IsCached p class) entries
  pub distinct : IsDistinct nat_eq entries
  pub most : length entries ≤ max_count_of class
