-- The invariant of an arena's fields.
use Rattle.std.specs.Prelude.{◌≡◌, ◌≤◌, length}
use Rattle.common.specs.declared.limits.TheConstants.{MAX_FRAMES}
use Rattle.mte_arena.specs.Blocks.{presence, AreBlocks}
use Rattle.mte_arena.specs.declared.arena.Arena.TheInside.{Inside}

-- The region, the right to free it and the flags of an arena belong together.
pub record IsArena (a : Inside) : Type 0 where
  pub start : a.region.start ≡ a.start.pointer
  pub right_start : a.right.start ≡ a.start.pointer
  pub right_count : a.right.count ≡ length a.region.blocks
  pub right_alloc : a.right.alloc ≡ a.alloc
  pub live : a.live.items ≡ presence a.region.blocks
  pub sized : AreBlocks a.region.blocks
  pub few : length a.region.blocks ≤ MAX_FRAMES
