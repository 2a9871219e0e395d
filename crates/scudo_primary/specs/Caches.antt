-- The local cache above a pool (Scudo, local_cache.h): for each size class the blocks that it
-- holds, the oldest first.
--     entries_of c class               the blocks of a class
--     one_stack c p class              the class's ONE stack of free blocks, the top first: the
--                                      cache's blocks, the newest on top, and then the pool's
--     IsAbove c p                      what the cache holds is carved, marked free and in no list
--                                      of the pool
--     AreStacks c p                    each stack has carved blocks, none twice: those that are
--                                      marked free
--     block_taken c p class            the block that a take gives
--     class_after_take c p class       what a take leaves of the class's blocks and of the pool
--     class_after_put c p class block  what a put leaves of them
--     KeepsRest class c p c' p'        a call leaves all but the stack of its class
use Rattle.std.specs.Prelude.{ℕ, ◌-◌, ◌/◌, ◌<◌, ◌≤◌, ◌≡◌, ◌≢◌, ◌==◌, Bool, true, false, List, []}
use Rattle.std.specs.Prelude.{◌∷◌, ◌++◌, length, take, drop, reverse, slice_get}
use Rattle.std.specs.Prelude.{slice_index_or, Option, Some, None}
use Rattle.std.specs.Prelude.{if◌then◌else◌, refl}
use Rattle.std.specs.FinMap as finite
use Rattle.std.specs.Coded.{Coded, code_by, coded×, coded_ℕ, coded_list}
use Rattle.std.specs.List.{All}
use Rattle.scudo_header.specs.declared.config.TheConstants.{CLASSES}
use Rattle.scudo_header.specs.ByClass.{ByClass, by_class, value_of, with_value}
use Rattle.scudo_primary.specs.Batches.{max_count_of}
use Rattle.scudo_primary.specs.Blocks.{carved_count, number_of, IsBlock, AreBlocks, is_member}
use Rattle.scudo_primary.specs.Pools.{PoolState, class_at, stack_of, sizes_of, pages_of, IsCached}
use Rattle.scudo_primary.specs.Pools.{top_batch, without_batch, with_batch, with_mark}

-- classes: the blocks of each class
-- capacity: for how many classes there is memory
pub record CacheState : Type 0 where
  pub classes : ByClass (List ℕ)
  pub capacity : ℕ

-- The code of a cache, by which proofs distinguish two.
abbrev pub coded_cache : Coded CacheState
coded_cache =
    code_by (ByClass (List ℕ) × ℕ) (coded× (finite.code coded_ℕ (coded_list coded_ℕ)) coded_ℕ)
    (λ c. (c.classes, c.capacity))
    (λ t. record { classes = t.0; capacity = t.1 })
    (λ _. refl)

-- a cache that holds no block
abbrev pub empty_cache : ℕ → CacheState
empty_cache capacity = record { classes = by_class (λ _. []); capacity = capacity }

-- The blocks of a class, the oldest first.
abbrev pub entries_of : CacheState → ℕ → List ℕ
entries_of c class = value_of c.classes [] class

-- The cache with the blocks of a class replaced.
abbrev pub with_entries : CacheState → ℕ → List ℕ → CacheState
with_entries c class entries = record c { classes = with_value c.classes class entries }

-- a class's blocks, the oldest first, on the pool's
abbrev pub stack_over : List ℕ → PoolState → ℕ → List ℕ
stack_over entries p class = reverse entries ++ stack_of p class

-- The free blocks of a class: those of the cache, the newest on top, above those of the pool.
abbrev pub one_stack : CacheState → PoolState → ℕ → List ℕ
one_stack c p class = stack_over (entries_of c class) p class

-- The blocks in the cache are carved, marked free, and in no list of the pool.
pub record IsAbove (c : CacheState) (p : PoolState) : Type 0 where
  pub cached :
      (class : ℕ) → 0 < class → class ≤ CLASSES → All (IsCached p class) (entries_of c class)

-- A class's stack: carved blocks, none of them twice, and just those that are marked free.
pub record IsStack (class pages : ℕ) (marks : List Bool) (stack : List ℕ) : Type 0 where
  pub blocks : AreBlocks class pages stack
  pub marked :
      (b : ℕ) → IsBlock class pages b
      → slice_index_or marks (number_of class b) false ≡ is_member stack b
  pub counted : length marks ≡ carved_count class pages

-- The free blocks of each class are carved, none twice.
pub record AreStacks (c : CacheState) (p : PoolState) : Type 0 where
  pub each :
      (class : ℕ) → 0 < class → class ≤ CLASSES
      → IsStack class (pages_of p class) (class_at p class).marks (one_stack c p class)

-- A call keeps all but the stack of its class.
pub record KeepsRest (class : ℕ) (c : CacheState) (p : PoolState) (c' : CacheState) (p' : PoolState)
    : Type 0 where
  pub above : IsAbove c' p'
  pub stacks : AreStacks c p → AreStacks c' p'
  pub others :
      (other : ℕ) → 0 < other → other ≢ class → one_stack c' p' other ≡ one_stack c p other
  pub pages : (other : ℕ) → pages_of p' other ≡ pages_of p other
  pub left : p'.left ≡ p.left
  pub capacities : p'.capacities ≡ p.capacities

-- The pool's own stack of a class, and how it is cut into batches, stay.
pub record KeepsLists (class : ℕ) (p p' : PoolState) : Type 0 where
  pub stack : stack_of p' class ≡ stack_of p class
  pub sizes : sizes_of p' class ≡ sizes_of p class

-- ---- one class: the blocks that the cache holds of it, and the pool

-- A class of the cache, with the pool below it.
pub record Class : Type 0 where
  pub entries : List ℕ
  pub pool : PoolState

-- where the cache holds none, it gets the pool's top batch
unfoldable pub after_refill : ℕ → List ℕ → PoolState → Class
after_refill class [] p = record { entries = top_batch p class; pool = without_batch p class }
after_refill class (block ∷ more) p = record { entries = block ∷ more; pool = p }

-- The block that was put last.
abbrev pub newest : List ℕ → Option ℕ
newest entries = slice_get entries (length entries - 1)

-- All blocks but the one that was put last.
abbrev pub without_newest : List ℕ → List ℕ
without_newest entries = take (length entries - 1) entries

-- a block that is handed out is marked used
abbrev pub handed_out : ℕ → PoolState → Option ℕ → PoolState
handed_out class p None = p
handed_out class p (Some block) = with_mark p class block false

-- The newest block is taken.
unfoldable pub after_take : ℕ → Class → Class
after_take class k =
    record { entries = without_newest k.entries; pool = handed_out class k.pool (newest k.entries) }

-- where the cache is full, its oldest half goes to the pool as one batch
unfoldable pub with_room : ℕ → List ℕ → PoolState → Class
with_room class entries p = if length entries == max_count_of class
    then record {
      entries = drop (max_count_of class / 2) entries;
      pool = with_batch p class (take (max_count_of class / 2) entries);
    }
    else record { entries = entries; pool = p }

-- A block is put, as the newest.
unfoldable pub after_put : ℕ → ℕ → Class → Class
after_put class block k =
    record { entries = k.entries ++ block ∷ []; pool = with_mark k.pool class block true }

-- ---- what the calls give and leave

-- The block that a take gives, if there is one.
abbrev pub block_taken : CacheState → PoolState → ℕ → Option ℕ
block_taken c p class = newest (after_refill class (entries_of c class) p).entries

-- The class after a take, which refills it where it is empty.
abbrev pub class_after_take : CacheState → PoolState → ℕ → Class
class_after_take c p class = after_take class (after_refill class (entries_of c class) p)

-- The class after a put, which makes room where it is full.
abbrev pub class_after_put : CacheState → PoolState → ℕ → ℕ → Class
class_after_put c p class block = after_put class block (with_room class (entries_of c class) p)
