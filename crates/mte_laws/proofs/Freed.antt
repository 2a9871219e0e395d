-- Chunks that were freed.
use Rattle.std.proofs.Common.{◌≡◌, ◌≢◌, ℕ, ◌<◌, ◌≤◌, true}
use Rattle.mte_tags.specs.Memory.{Memory, tag_at}
use Rattle.scudo_primary.specs.Pools.{is_member}
use Rattle.scudo_heap.specs.declared.chunk.Place.{Place}
use Rattle.scudo_heap.specs.Stacks.{StackState, stack_of}
use Rattle.scudo_heap.specs.Chunks.{end_of}
use Rattle.mte_laws.specs.LiveChunks.{IsPlace}

-- A chunk that was freed: where it lay, the tag of the pointer to it, and the tag that the free
-- gave to its granules.
pub record Freed : Type 0 where
  pub place : Place
  pub tag : ℕ
  pub given : ℕ

-- Its block is free, and its granules have the tag that the free gave.
pub record IsStale (m : Memory) (s : StackState) (f : Freed) : Type 0 where
  pub place : IsPlace s f.place
  pub stacked : is_member (stack_of s f.place.class) f.place.block ≡ true
  pub inside : (a : ℕ) → f.place.user ≤ a → a < end_of f.place → tag_at m a ≡ f.given
  pub other : f.given ≢ f.tag
