-- The blocks of a size class: they lie one after another from the start of the class's region on
-- (Scudo, primary64.h).
use Rattle.std.specs.Prelude.{◌≡◌, ℕ, ◌+◌, ◌-◌, ◌*◌, ◌/◌, ◌%◌, ◌<◌, ◌≤◌, ◌==◌}
use Rattle.std.specs.Prelude.{Bool, true, List, map, nat_eq}
use Rattle.std.specs.List.{range_with_len, list_any, IsDistinct}
use Rattle.scudo_header.specs.Classes.{size_of}
pub use Rattle.scudo_header.specs.Classes.{IsClass}
use Rattle.scudo_header.specs.Regions.{region_of}
use Rattle.common.specs.declared.limits.TheConstants.{PAGE_SIZE}

-- How many blocks lie whole in the first pages of a class's region.
abbrev pub carved_count : ℕ → ℕ → ℕ
carved_count class pages = PAGE_SIZE * pages / size_of class

-- The block with a number: they are counted from 0, in ascending order.
abbrev pub block_at : ℕ → ℕ → ℕ
block_at class n = region_of class + n * size_of class

-- The number of the block at an address.
abbrev pub number_of : ℕ → ℕ → ℕ
number_of class block = (block - region_of class) / size_of class

-- One of the blocks that are carved when the class has `pages` pages.
pub record IsBlock (class pages block : ℕ) : Type 0 where
  pub inside : region_of class ≤ block
  pub start : (block - region_of class) % size_of class ≡ 0
  pub carved : number_of class block < carved_count class pages

-- The n blocks from the one with the number m on, in ascending order.
abbrev pub blocks_from : ℕ → ℕ → ℕ → List ℕ
blocks_from class m n = map (block_at class) (range_with_len m n)

-- Whether a block is one of these.
abbrev pub is_member : List ℕ → ℕ → Bool
is_member blocks block = list_any (λ other. block == other) blocks

-- Blocks that are carved when the class has `pages` pages, none of them twice.
pub record AreBlocks (class pages : ℕ) (blocks : List ℕ) : Type 0 where
  pub carved : (block : ℕ) → is_member blocks block ≡ true → IsBlock class pages block
  pub distinct : IsDistinct nat_eq blocks
