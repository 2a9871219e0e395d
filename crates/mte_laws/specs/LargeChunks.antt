-- Chunks with pages of their own: the pages next to theirs, and a second free.
use Rattle.std.specs.Prelude.{◌≡◌, ℕ, ◌+◌, ◌-◌, ◌%◌, ◌<◌, ◌≤◌, Some, false}
use Rattle.std.specs.List.{list_any}
use Rattle.a64_bits.specs.Addresses.{plain}
use Rattle.common.specs.declared.limits.TheConstants.{PAGE_SIZE}
use Rattle.common.specs.declared.ranges.TheConstants.{SECONDARY_START, SECONDARY_END}
use Rattle.scudo_secondary.specs.Mappings as secondary
use Rattle.scudo_heap.specs.declared.abort.HeapAbort.TheVariants.{Unmapped}
use Rattle.scudo_heap.specs.declared.call.HeapCall.TheVariants.{Free}
use Rattle.scudo_heap.specs.Served.{is_inside}
use Rattle.mte_laws.specs.LivePages.{PageChunk, large_at}
use Rattle.mte_laws.specs.CarefulRuns.{State, state_after_call, IsLiveLarge}
use Rattle.mte_laws.specs.SoundHeaps.{Sound}
use Rattle.mte_laws.specs.Discipline.{IsUnmapped}
use Rattle.mte_laws.specs.Frees.{AbortsBy}

-- Each access to the page just before or just after the pages of a live chunk faults, checked or
-- not.
pub record LargeChunksAreGuarded : Type 0 where
  pub before :
      (s : State) (u addr : ℕ) (x : PageChunk) → Sound s → large_at s.live.pages u ≡ Some x
      → x.mapping.start ≤ addr + PAGE_SIZE → addr < x.mapping.start
      → IsUnmapped s.world.memory addr
  pub after :
      (s : State) (u addr : ℕ) (x : PageChunk) → Sound s → large_at s.live.pages u ≡ Some x
      → secondary.end_of x.mapping ≤ addr → addr < secondary.end_of x.mapping + PAGE_SIZE
      → IsUnmapped s.world.memory addr

-- later: while no mapping holds the header of what a pointer names in that range, each call that
-- names it aborts, by whatever tag
-- direct: so it does directly after the free of a live chunk with pages of its own
pub record LargeDoubleFreesAbort : Type 0 where
  pub later :
      (s : State) (pointer : ℕ) → Sound s → plain pointer % 16 ≡ 0
      → SECONDARY_START + 16 ≤ plain pointer → plain pointer < SECONDARY_END + 16
      → list_any (is_inside (plain pointer - 16)) s.world.heap.maps.mappings ≡ false
      → AbortsBy Unmapped s.world pointer
  pub direct :
      (s : State) (owner pointer : ℕ) (x : PageChunk) → Sound s
      → IsLiveLarge s (plain owner) x → plain pointer ≡ plain owner
      → AbortsBy Unmapped (state_after_call (Free owner) s).world pointer
