-- For the code's own clauses, views and invariants.
-- How the pool keeps its stacks: linked through one table of entries. A carved block has its own
-- entry as long as the pool lives: each carved page has a number, and 128 entries from 128 times
-- that number on, one for each 32 bytes.
use Rattle.std.specs.Prelude.{◌≡◌, ◌≢◌, ℕ, zero, suc, ◌==◌, ◌||◌, ◌+◌, ◌-◌, ◌*◌, ◌/◌, ◌%◌, ◌<◌, ◌≤◌}
use Rattle.std.specs.Prelude.{Bool, true, false, List, [], ◌∷◌, ◌++◌, length, map, take}
use Rattle.std.specs.Prelude.{replicate, slice_index, slice_index_or, slice_set, vec_len}
use Rattle.std.specs.Prelude.{vec_capacity}
use Rattle.std.specs.declared.vec.Vec.{Vec}
use Rattle.std.specs.List.{range_with_len}
use Rattle.scudo_header.specs.Regions.{region_of}
use Rattle.scudo_header.specs.declared.config.TheConstants.{CLASSES}
use Rattle.common.specs.declared.limits.TheConstants.{PAGE_SIZE}
use Rattle.scudo_primary.specs.Blocks.{IsClass, carved_count, block_at, number_of, AreBlocks}
use Rattle.scudo_primary.specs.Blocks.{blocks_from}
use Rattle.scudo_primary.specs.Batches.{max_count_of, batch_sizes}
use Rattle.scudo_primary.specs.Pools.{ClassState, PoolState, pool_by}
use Rattle.common.specs.declared.limits.TheConstants.{MAX_PAGES}
use Rattle.scudo_primary.specs.declared.lists.BlockEntry.{BlockEntry}
use Rattle.scudo_primary.specs.declared.lists.ClassList.{ClassList}
use Rattle.scudo_primary.specs.declared.pool.Primary.TheInside.{Inside}

-- ---- a list that is linked through a function from each member to the next

-- the n members from at on
unfoldable pub follow : (ℕ → ℕ) → ℕ → ℕ → List ℕ
follow next zero at = []
follow next (suc n) at = at ∷ follow next n (next at)

-- P holds of each number of a list.
abbrev pub Each : (ℕ → Type 0) → List ℕ → Type 0
Each P [] = Unit {0}
Each P (x ∷ xs) = P x × Each P xs

-- the sizes with one block more on top of the first batch
abbrev pub one_more : List ℕ → List ℕ
one_more [] = 1 ∷ []
one_more (n ∷ more) = (n + 1) ∷ more

-- the sizes with one block more on top, which begins a batch or joins the first
abbrev pub sizes_after_push : Bool → List ℕ → List ℕ
sizes_after_push true sizes = 1 ∷ sizes
sizes_after_push false sizes = one_more sizes

-- the sizes of the batches of a stack, by which of its members are the last of their batch
unfoldable pub sizes_of_marks : List Bool → List ℕ
sizes_of_marks [] = []
sizes_of_marks (last ∷ more) = sizes_after_push last (sizes_of_marks more)

-- whether the block at a place among n new ones, counted from the lowest, is the last of its batch
abbrev pub is_last_at : ℕ → ℕ → ℕ → Bool
is_last_at half n place = (place + 1 == n) || ((place + 1) % half == 0)

-- ---- the table

-- entries: 128 for each carved page
-- numbers: for each page of a region and each class the number of that page
-- lists: for each class its stack
pub record BlockTable : Type 0 where
  pub entries : List BlockEntry
  pub numbers : List ℕ
  pub lists : List ClassList

-- A table of its parts.
abbrev pub block_table : List BlockEntry → List ℕ → List ClassList → BlockTable
block_table es ns ks = record { entries = es; numbers = ns; lists = ks }

-- where the number of a class's page is
abbrev pub slot_of : ℕ → ℕ → ℕ
slot_of class page = page * CLASSES + (class - 1)

-- The page of a block has a place for its number.
pub record HasNumber (ns : List ℕ) (c b : ℕ) : Type 0 where
  pub class : IsClass c
  pub inside : region_of c ≤ b
  pub slot : slot_of c ((b - region_of c) / PAGE_SIZE) < length ns

-- The number of a page of a class.
abbrev pub page_number : List ℕ → ℕ → ℕ → ℕ
page_number ns class page = slice_index ns (slot_of class page)

-- where the entry of a block is
abbrev pub place_of : List ℕ → ℕ → ℕ → ℕ
place_of ns class block =
    page_number ns class ((block - region_of class) / PAGE_SIZE) * 128
    + (block - region_of class) % PAGE_SIZE / 32

-- An entry that was never written.
abbrev pub no_entry : BlockEntry
no_entry = record { next = 0; free = false; last = false }

-- A class before its first carve.
abbrev pub no_list : ClassList
no_list = record { head = 0; count = 0; pages = 0 }

-- The entry of a block.
unfoldable pub entry_at : List BlockEntry → List ℕ → ℕ → ℕ → BlockEntry
entry_at es ns class block = slice_index_or es (place_of ns class block) no_entry

-- The list of a class.
unfoldable pub list_at : List ClassList → ℕ → ClassList
list_at ks class = slice_index_or ks (class - 1) no_list

-- The block below a block in its stack.
unfoldable pub next_in : List BlockEntry → List ℕ → ℕ → ℕ → ℕ
next_in es ns class block = (entry_at es ns class block).next

-- Whether a block is the last of its batch.
unfoldable pub last_in : List BlockEntry → List ℕ → ℕ → ℕ → Bool
last_in es ns class block = (entry_at es ns class block).last

-- Whether a block is free.
unfoldable pub free_in : List BlockEntry → List ℕ → ℕ → ℕ → Bool
free_in es ns class block = (entry_at es ns class block).free

-- the n members of a class's list from at on, and the sizes of their batches
unfoldable pub stack_from : List BlockEntry → List ℕ → ℕ → ℕ → ℕ → List ℕ
stack_from es ns class n at = follow (next_in es ns class) n at

-- The sizes of the batches of n blocks from a block on.
unfoldable pub sizes_from : List BlockEntry → List ℕ → ℕ → ℕ → ℕ → List ℕ
sizes_from es ns class n at =
    sizes_of_marks (map (last_in es ns class) (stack_from es ns class n at))

-- Which blocks of a class are free.
unfoldable pub marks_in : List BlockEntry → List ℕ → ℕ → ℕ → List Bool
marks_in es ns class pages =
    map (λ n. free_in es ns class (block_at class n)) (range_with_len 0 (carved_count class pages))

-- The class that a list means.
abbrev pub class_in : List BlockEntry → List ℕ → ℕ → ClassList → ClassState
class_in es ns class k = record {
  pages = k.pages;
  stack = stack_from es ns class k.count k.head;
  sizes = sizes_from es ns class k.count k.head;
  marks = marks_in es ns class k.pages;
}

-- a class, as its list says
abbrev pub state_in : BlockTable → ℕ → ClassState
state_in t class = class_in t.entries t.numbers class (list_at t.lists class)

-- The pool that a table means.
abbrev pub state_of : ℕ → List ℕ → BlockTable → PoolState
state_of left capacities t = pool_by left capacities (state_in t)

-- For how many elements the lists of the code have memory.
abbrev pub capacities_in : Inside → List ℕ
capacities_in f = vec_capacity f.entries ∷ vec_capacity f.numbers ∷ []

-- The table that the code keeps.
abbrev pub table_in : Inside → BlockTable
table_in f = block_table f.entries.items f.numbers.items f.lists

-- The pool that the code keeps.
abbrev pub pool_in : Inside → PoolState
pool_in f = state_of (f.limit - f.used) (capacities_in f) (table_in f)

-- the class with one block more on top, which begins a batch or joins the first, marked free
abbrev pub class_after_link : ℕ → ClassState → ℕ → Bool → ClassState
class_after_link class k block last =
    record k {
      stack = block ∷ k.stack;
      sizes = sizes_after_push last k.sizes;
      marks = slice_set k.marks (number_of class block) true;
    }

-- the class with n new blocks from the one with the number m on, on top and marked free
abbrev pub class_after_link_new : ℕ → ClassState → ℕ → ℕ → ClassState
class_after_link_new class k m n = record {
  pages = k.pages;
  stack = blocks_from class m n ++ k.stack;
  sizes = batch_sizes class n ++ k.sizes;
  marks = take m k.marks ++ replicate n true;
}

-- ---- what holds of it

-- Each carved page has a number of its own, and its 128 entries.
pub record IsNumbered (ns : List ℕ) (ks : List ClassList) (n : ℕ) : Type 0 where
  pub slot : (c i : ℕ) → IsClass c → i < (list_at ks c).pages → slot_of c i < length ns
  pub room : (c i : ℕ) → IsClass c → i < (list_at ks c).pages → page_number ns c i * 128 + 128 ≤ n
  pub apart :
      (c d i j : ℕ) → IsClass c → IsClass d → i < (list_at ks c).pages → j < (list_at ks d).pages
      → page_number ns c i ≡ page_number ns d j → (c ≡ d) × (i ≡ j)
  pub few : (c : ℕ) → IsClass c → (list_at ks c).pages ≤ MAX_PAGES

-- The stack of a class is carved blocks, none twice, all of them free, in batches that a cache
-- holds.
pub record IsLinked (es : List BlockEntry) (ns : List ℕ) (c : ℕ) (k : ClassList) : Type 0 where
  pub blocks : AreBlocks c k.pages (stack_from es ns c k.count k.head)
  pub marked : Each (λ b. free_in es ns c b ≡ true) (stack_from es ns c k.count k.head)
  pub batches : Each (λ n. n ≤ max_count_of c) (sizes_from es ns c k.count k.head)

-- A table whose pages are numbered and whose classes are linked.
pub record IsTable (t : BlockTable) : Type 0 where
  pub numbered : IsNumbered t.numbers t.lists (length t.entries)
  pub all : length t.lists ≡ CLASSES
  pub linked : (c : ℕ) → IsClass c → IsLinked t.entries t.numbers c (list_at t.lists c)

-- The table of the code is one, and has no more pages than the pool.
pub record IsPool (f : Inside) : Type 0 where
  pub table : IsTable (table_in f)
  pub counted :
      (c i : ℕ) → IsClass c → i < (list_at f.lists c).pages
      → page_number f.numbers.items c i < f.used
  pub few : (c : ℕ) → IsClass c → (list_at f.lists c).pages ≤ f.used
  pub below : f.used ≤ f.limit
  pub most : f.limit ≤ MAX_PAGES
  -- there is memory for what pages that are still to be carved want
  pub room : 128 * f.limit ≤ vec_capacity f.entries
  pub slots : CLASSES * f.limit ≤ vec_capacity f.numbers

-- A list that got values at its end, up to n elements or more, in the memory that it had: what is
-- read past an end is that value, so nothing reads otherwise.
pub record IsFilledUp {X Z : Type 0} (old new : Vec X Z) (n : ℕ) (value : X) : Type 0 where
  pub same : (i : ℕ) → slice_index_or new.items i value ≡ slice_index_or old.items i value
  pub longer : vec_len old ≤ vec_len new
  pub long : n ≤ vec_len new
  pub capacity : vec_capacity new ≡ vec_capacity old

-- the numbers after the pages of class c from one on got those from first on
pub record IsNumberedOn (ns ns' : List ℕ) (c from pages first : ℕ) : Type 0 where
  pub len : length ns' ≡ length ns
  pub numbered : (i : ℕ) → i < pages → page_number ns' c (from + i) ≡ first + i
  pub before : (i : ℕ) → i < from → page_number ns' c i ≡ page_number ns c i
  pub others : (d i : ℕ) → IsClass d → d ≢ c → page_number ns' d i ≡ page_number ns d i

-- a call changed the class c to k, and no other class
pub record Became (t t' : BlockTable) (c : ℕ) (k : ClassState) : Type 0 where
  pub table : IsTable t'
  pub class : state_in t' c ≡ k
  pub others : (d : ℕ) → IsClass d → d ≢ c → state_in t' d ≡ state_in t d
  pub pages : (d : ℕ) → IsClass d → (list_at t'.lists d).pages ≡ (list_at t.lists d).pages
  pub len : length t'.entries ≡ length t.entries
  pub numbers : t'.numbers ≡ t.numbers
