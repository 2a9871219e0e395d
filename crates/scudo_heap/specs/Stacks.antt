-- The size classes of a heap: for each the pages of its region and ONE stack of free blocks.
--     class_at s class           what a class has
--     after_pop s class          s without the top block of a class's stack
--     after_push s class block   s with a block more on top
--     after_carve s class pages  s with pages more for a class, and the new blocks on top, the
--                                lowest first
use Rattle.std.specs.Prelude.{ℕ, ◌+◌, ◌-◌, ◌*◌, ◌<◌, ◌≤◌, List, [], ◌∷◌, ◌++◌, drop, refl}
use Rattle.std.specs.FinMap as finite
use Rattle.std.specs.Coded.{Coded, code_by, coded×, coded_ℕ, coded_list}
use Rattle.scudo_header.specs.declared.config.TheConstants.{CLASSES}
use Rattle.scudo_header.specs.ByClass.{ByClass, by_class, value_of, with_value}
use Rattle.scudo_primary.specs.Blocks.{AreBlocks, carved_count, blocks_from}

-- pages: the pages of the class's region that are mapped; the blocks that lie whole in them are
-- carved
-- stack: the free blocks, the top first
pub record ClassHeap : Type 0 where
  pub pages : ℕ
  pub stack : List ℕ

-- left: how many pages more the classes may get
-- capacities: for how many elements each list has memory
pub record StackState : Type 0 where
  pub left : ℕ
  pub capacities : List ℕ
  pub classes : ByClass ClassHeap

-- The code of a class, by which proofs distinguish two.
abbrev pub coded_class : Coded ClassHeap
coded_class =
    code_by (ℕ × List ℕ) (coded× coded_ℕ (coded_list coded_ℕ))
    (λ k. (k.pages, k.stack))
    (λ c. record { pages = c.0; stack = c.1 })
    (λ _. refl)

-- The code of the stacks, by which proofs distinguish two.
abbrev pub coded_stacks : Coded StackState
coded_stacks =
    code_by (ℕ × (List ℕ × ByClass ClassHeap))
    (coded× coded_ℕ (coded× (coded_list coded_ℕ) (finite.code coded_ℕ coded_class)))
    (λ s. (s.left, (s.capacities, s.classes)))
    (λ c. record { left = c.0; capacities = c.1.0; classes = c.1.1 })
    (λ _. refl)

-- A class without pages.
abbrev pub empty_class : ClassHeap
empty_class = record { pages = 0; stack = [] }

-- the classes, by what each has
abbrev pub stacks_by : ℕ → List ℕ → (ℕ → ClassHeap) → StackState
stacks_by left capacities f =
    record { left = left; capacities = capacities; classes = by_class f }

-- The memory of the lists of a heap for `pages` pages: it is there from the start, and stays.
abbrev pub memory_for : ℕ → List ℕ
memory_for pages = 128 * pages ∷ CLASSES * pages ∷ CLASSES ∷ []

-- No blocks, and no pages.
unfoldable pub empty_stacks : ℕ → StackState
empty_stacks left = stacks_by left (memory_for left) (λ _. empty_class)

-- The class with a number.
unfoldable pub class_at : StackState → ℕ → ClassHeap
class_at s class = value_of s.classes empty_class class

-- The pages of a class.
abbrev pub pages_of : StackState → ℕ → ℕ
pages_of s class = (class_at s class).pages

-- The free blocks of a class, the top first.
abbrev pub stack_of : StackState → ℕ → List ℕ
stack_of s class = (class_at s class).stack

-- The stacks with a class replaced.
unfoldable pub with_class : StackState → ℕ → ClassHeap → StackState
with_class s class k = record s { classes = with_value s.classes class k }

-- The stacks with the free blocks of a class replaced.
abbrev pub with_stack : StackState → ℕ → List ℕ → StackState
with_stack s class stack = with_class s class (record { pages = pages_of s class; stack = stack })

-- The top block is taken.
unfoldable pub after_pop : StackState → ℕ → StackState
after_pop s class = with_stack s class (drop 1 (stack_of s class))

-- A block is put on top.
unfoldable pub after_push : StackState → ℕ → ℕ → StackState
after_push s class block = with_stack s class (block ∷ stack_of s class)

-- The blocks that become whole with `count` more pages, in ascending order.
abbrev pub new_blocks : ℕ → ℕ → ℕ → List ℕ
new_blocks class before more =
    blocks_from class (carved_count class before)
    (carved_count class (before + more) - carved_count class before)

-- A class after a carve: its new blocks lie on top.
abbrev pub carved_class : ℕ → ClassHeap → ℕ → ClassHeap
carved_class class k more = record {
  pages = k.pages + more;
  stack = new_blocks class k.pages more ++ k.stack;
}

-- The stacks after a carve.
unfoldable pub after_carve : StackState → ℕ → ℕ → StackState
after_carve s class more =
    record (with_class s class (carved_class class (class_at s class) more)) {
      left = s.left - more;
    }

-- Each stack has carved blocks, none of them twice.
pub record AreSound (s : StackState) : Type 0 where
  pub each :
      (class : ℕ) → 0 < class → class ≤ CLASSES
      → AreBlocks class (pages_of s class) (stack_of s class)
