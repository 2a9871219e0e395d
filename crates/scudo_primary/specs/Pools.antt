-- The pool of free blocks: for each size class the pages of its region, ONE stack of free blocks,
-- and a mark for each carved block.
--     class_at p class              what a class has
--     after_pop p class             p without the top block of the class's stack
--     after_push p class block      p with a block more on top
--     without_batch p class         p without the top batch
--     with_batch p class blocks     p with a batch more on top
--     with_mark p class block mark  p with a block marked free or used
--     with_pages p class pages      p with pages more for the class, and the new blocks on top
use Rattle.std.specs.Prelude.{◌≡◌, ℕ, ◌+◌, ◌-◌, Bool, true, false, List, [], ◌∷◌, ◌++◌}
use Rattle.std.specs.Prelude.{length, take, drop, reverse, replicate, slice_set}
use Rattle.std.specs.Prelude.{slice_index_or, refl}
use Rattle.std.specs.FinMap as finite
use Rattle.std.specs.Coded.{Coded, code_by, coded×, coded_ℕ, coded_bool, coded_list}
use Rattle.scudo_header.specs.ByClass.{ByClass, by_class, value_of, with_value}
pub use Rattle.scudo_primary.specs.Blocks.{is_member}
use Rattle.scudo_primary.specs.Blocks.{carved_count, number_of, IsBlock, blocks_from}
use Rattle.scudo_primary.specs.Batches.{batch_sizes, first_size, one_less}

-- pages: the pages of the class's region that are carved
-- stack: the free blocks that the pool itself keeps, the top first
-- sizes: how that stack is cut into batches, from the top on. A batch's last entry is its top, so
-- its own order is the stack's turned round.
-- marks: for each carved block, in ascending order, whether it is marked free
pub record ClassState : Type 0 where
  pub pages : ℕ
  pub stack : List ℕ
  pub sizes : List ℕ
  pub marks : List Bool

-- left: the pages that may still be carved
-- capacities: for how many elements each of the pool's lists has memory
pub record PoolState : Type 0 where
  pub left : ℕ
  pub capacities : List ℕ
  pub classes : ByClass ClassState

-- The code of a class, by which proofs distinguish two.
abbrev pub coded_class : Coded ClassState
coded_class =
    code_by (ℕ × (List ℕ × (List ℕ × List Bool)))
    (coded× coded_ℕ
    (coded× (coded_list coded_ℕ) (coded× (coded_list coded_ℕ) (coded_list coded_bool))))
    (λ k. (k.pages, (k.stack, (k.sizes, k.marks))))
    (λ c. record { pages = c.0; stack = c.1.0; sizes = c.1.1.0; marks = c.1.1.1 })
    (λ _. refl)

-- The code of a pool, by which proofs distinguish two.
abbrev pub coded_pool : Coded PoolState
coded_pool =
    code_by (ℕ × (List ℕ × ByClass ClassState))
    (coded× coded_ℕ (coded× (coded_list coded_ℕ) (finite.code coded_ℕ coded_class)))
    (λ p. (p.left, (p.capacities, p.classes)))
    (λ c. record { left = c.0; capacities = c.1.0; classes = c.1.1 })
    (λ _. refl)

-- A class without pages.
abbrev pub empty_class : ClassState
empty_class = record { pages = 0; stack = []; sizes = []; marks = [] }

-- a pool by what each class has
abbrev pub pool_by : ℕ → List ℕ → (ℕ → ClassState) → PoolState
pool_by left capacities f =
    record { left = left; capacities = capacities; classes = by_class f }

-- A pool for `pages` pages, none of them carved.
abbrev pub empty_pool : ℕ → List ℕ → PoolState
empty_pool pages capacities = pool_by pages capacities (λ _. empty_class)

-- The class with a number.
abbrev pub class_at : PoolState → ℕ → ClassState
class_at p class = value_of p.classes empty_class class

-- The pool with a class replaced.
abbrev pub with_class : PoolState → ℕ → ClassState → PoolState
with_class p class k = record p { classes = with_value p.classes class k }

-- The pages that a class has carved.
abbrev pub pages_of : PoolState → ℕ → ℕ
pages_of p class = (class_at p class).pages

-- The free blocks of a class, the top first.
abbrev pub stack_of : PoolState → ℕ → List ℕ
stack_of p class = (class_at p class).stack

-- The sizes of the batches of a class, the top first.
abbrev pub sizes_of : PoolState → ℕ → List ℕ
sizes_of p class = (class_at p class).sizes

-- Whether the mark of a carved block says free: it is in the pool, or in a cache above it.
abbrev pub is_marked : PoolState → ℕ → ℕ → Bool
is_marked p class block = slice_index_or (class_at p class).marks (number_of class block) false

-- Whether the pool's own stack of the class has the block.
abbrev pub is_listed : PoolState → ℕ → ℕ → Bool
is_listed p class block = is_member (stack_of p class) block

-- A block that is carved, marked free, and in no list of its class.
pub record IsLoose (k : ClassState) (class block : ℕ) : Type 0 where
  pub carved : IsBlock class k.pages block
  pub marked : slice_index_or k.marks (number_of class block) false ≡ true
  pub unlisted : is_member k.stack block ≡ false

-- A carved block that is marked free.
pub record IsFree (p : PoolState) (class block : ℕ) : Type 0 where
  pub carved : IsBlock class (pages_of p class) block
  pub marked : is_marked p class block ≡ true

-- A block that a cache above the pool may hold: carved, marked free, and in no list of the pool.
abbrev pub IsCached : PoolState → ℕ → ℕ → Type 0
IsCached p class block = IsLoose (class_at p class) class block

-- ---- what the calls leave of a class

-- A class with a block marked.
abbrev pub class_with_mark : ℕ → ClassState → ℕ → Bool → ClassState
class_with_mark class k block mark =
    record k { marks = slice_set k.marks (number_of class block) mark }

-- the class without its top block, which is then marked used
abbrev pub class_after_pop : ℕ → ClassState → List ℕ → ClassState
class_after_pop class k [] = k
class_after_pop class k (block ∷ more) =
    record k {
      stack = more;
      sizes = one_less k.sizes;
      marks = slice_set k.marks (number_of class block) false;
    }

-- the class with one more block on top, a batch of its own, marked free
abbrev pub class_after_push : ℕ → ClassState → ℕ → ClassState
class_after_push class k block =
    record k {
      stack = block ∷ k.stack;
      sizes = 1 ∷ k.sizes;
      marks = slice_set k.marks (number_of class block) true;
    }

-- the top batch in its own order, whose last entry is the top of the stack
abbrev pub batch_in : ClassState → List ℕ
batch_in k = reverse (take (first_size k.sizes) k.stack)

-- A class without its top batch.
abbrev pub class_after_pop_batch : ClassState → ClassState
class_after_pop_batch k =
    record k { stack = drop (first_size k.sizes) k.stack; sizes = drop 1 k.sizes }

-- A class with a batch more on top, the last block first.
abbrev pub class_after_push_batch : ClassState → List ℕ → ClassState
class_after_push_batch k blocks =
    record k { stack = reverse blocks ++ k.stack; sizes = length blocks ∷ k.sizes }

-- the class with more blocks on top, the lowest first, marked free
abbrev pub class_after_carve : ℕ → ClassState → ℕ → ℕ → ClassState
class_after_carve class k pages n = record {
  pages = k.pages + pages;
  stack = blocks_from class (carved_count class k.pages) n ++ k.stack;
  sizes = batch_sizes class n ++ k.sizes;
  marks = k.marks ++ replicate n true;
}

-- ---- what the calls leave of a pool

-- The pool after a pop of a block.
abbrev pub after_pop : PoolState → ℕ → PoolState
after_pop p class = with_class p class (class_after_pop class (class_at p class) (stack_of p class))

-- The pool after a push of a block.
abbrev pub after_push : PoolState → ℕ → ℕ → PoolState
after_push p class block = with_class p class (class_after_push class (class_at p class) block)

-- The pool with a block marked.
abbrev pub with_mark : PoolState → ℕ → ℕ → Bool → PoolState
with_mark p class block mark =
    with_class p class (class_with_mark class (class_at p class) block mark)

-- The top batch of a class.
abbrev pub top_batch : PoolState → ℕ → List ℕ
top_batch p class = batch_in (class_at p class)

-- The pool without the top batch of a class.
abbrev pub without_batch : PoolState → ℕ → PoolState
without_batch p class = with_class p class (class_after_pop_batch (class_at p class))

-- The pool with a batch more on top of a class.
abbrev pub with_batch : PoolState → ℕ → List ℕ → PoolState
with_batch p class blocks = with_class p class (class_after_push_batch (class_at p class) blocks)

-- The blocks that become whole with more pages are those that are carved.
abbrev pub new_count : ℕ → ℕ → ℕ → ℕ
new_count class before more = carved_count class (before + more) - carved_count class before

-- The pool after a carve.
abbrev pub with_pages : PoolState → ℕ → ℕ → PoolState
with_pages p class pages =
    let count = new_count class (pages_of p class) pages in
    let carved = class_after_carve class (class_at p class) pages count in
    record (with_class p class carved) { left = p.left - pages }
