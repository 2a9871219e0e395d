-- The use of a plain address, and which block of a size class it is in.
use Rattle.std.specs.Prelude.{◌≡◌, ℕ, ◌+◌, ◌-◌, ◌%◌, ◌<◌, ◌≤◌}
use Rattle.common.specs.declared.ranges.TheConstants.{REGION_SIZE}
use Rattle.scudo_header.specs.Classes.{IsClass, size_of}
use Rattle.scudo_header.specs.Regions.{region_of}
use Rattle.heap_bounds.specs.declared.blocks.Block.{Block}

-- A plain address from a range's start on and before its end.
pub record IsBetween (start end addr : ℕ) : Type 0 where
  pub first : start ≤ addr
  pub last : addr < end

-- A plain address in the region of a class.
pub record IsInRegion (c addr : ℕ) : Type 0 where
  pub class : IsClass c
  pub first : region_of c ≤ addr
  pub last : addr < region_of c + REGION_SIZE

-- The block that a plain address is in: blocks of one size follow one another from the start of the
-- region of their class on.
pub record IsBlockAt (addr : ℕ) (b : Block) : Type 0 where
  pub region : IsInRegion b.class addr
  pub size : b.size ≡ size_of b.class
  pub behind : region_of b.class ≤ b.start
  pub whole : (b.start - region_of b.class) % size_of b.class ≡ 0
  pub first : b.start ≤ addr
  pub last : addr < b.start + b.size
