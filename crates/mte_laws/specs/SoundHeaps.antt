-- The invariant of a tenant's memory, its heap and its live chunks, in the synchronous mode, where
-- the tenant stores no tags and leaves headers unwritten.
use Rattle.std.specs.Prelude.{◌≡◌, ◌≤◌}
use Rattle.mte_tags.specs.declared.state.TagMode.TheVariants.{Sync}
use Rattle.mte_tags.specs.Whole.{IsWhole}
use Rattle.common.specs.declared.limits.TheConstants.{MAX_PAGES}
use Rattle.scudo_heap.specs.Sound.{IsSoundWorld}
use Rattle.mte_laws.specs.LiveChunks.{ArePlaced, AreTagged}
use Rattle.mte_laws.specs.LivePages.{AreLarge}
use Rattle.mte_laws.specs.CarefulRuns.{State}

-- The invariant throughout a careful run in the synchronous mode.
pub record Sound (s : State) : Type 0 where
  pub whole : IsWhole s.world.memory
  pub limit : s.world.memory.limit ≤ MAX_PAGES
  pub sync : s.world.memory.state.mode ≡ Sync
  pub heap : IsSoundWorld s.world
  pub placed : ArePlaced s.world.heap.stacks s.live.blocks
  pub tagged : AreTagged s.world.memory s.world.heap.stacks s.live.blocks
  pub large : AreLarge s.world.heap.maps.mappings s.live.pages
