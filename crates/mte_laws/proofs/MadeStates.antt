-- An allocation keeps the live chunks Sound, whether its chunk lies in a block or has pages of its own.
use Rattle.std.proofs.Common.{◌≡◌, ◌≢◌, ℕ, Some, ◌∙◌}
use Rattle.scudo_header.specs.declared.headers.Origin.{Origin}
use Rattle.scudo_secondary.specs.declared.mappings.Mapping.{Mapping}
use Rattle.scudo_heap.specs.declared.chunk.Place.{Place}
use Rattle.scudo_heap.specs.declared.chunk.Chunk.TheVariants.{Small, Large}
use Rattle.scudo_heap.specs.Allocation.{AllocationResult, no_chunk}
use Rattle.mte_laws.specs.LiveChunks.{BlockChunk, chunk_at}
use Rattle.mte_laws.specs.LivePages.{PageChunk, large_at, AreLarge}
use Rattle.mte_laws.specs.CarefulRuns.{State, Live, with_made_chunk, HasFree}
use Rattle.mte_laws.specs.SoundHeaps.{Sound}
use Rattle.mte_laws.proofs.Freed.{Freed, IsStale}
use Rattle.mte_tags.specs.Memory.{tag_at}
use Rattle.scudo_heap.specs.Sound.{IsSoundWorld}
use Rattle.mte_laws.proofs.Views.{TaggedBlocks}

-- a state after another, from what holds of its world, of its blocks and of its mappings
pub state-sound : (s t : State) → Sound s → t.world.memory.state.mode ≡ s.world.memory.state.mode → IsSoundWorld t.world → TaggedBlocks t.world.memory t.world.heap.stacks t.live.blocks → AreLarge t.world.heap.maps.mappings t.live.pages → Sound t
state-sound s t k e v b g = record { whole = b.whole; limit = b.limit; sync = e ∙ k.sync; heap = v; placed = b.placed; tagged = b.tagged; large = g }

abbrev pub state_after_allocation : Origin → Live → AllocationResult → State
state_after_allocation o l m = record { world = m.world; live = with_made_chunk o l m.chunk }

-- what an allocation leaves
pub record IsMade (o : Origin) (s : State) (r : AllocationResult) : Type 0 where
  pub sound : Sound (state_after_allocation o s.live r)
  pub stale : (f : Freed) → IsStale s.world.memory s.world.heap.stacks f → HasFree f.place.class f.place.block (state_after_allocation o s.live r) → IsStale r.world.memory r.world.heap.stacks f
  pub apart : (p : Place) (t : ℕ) → r.chunk ≡ Some (Small p t) → (u : ℕ) (x : BlockChunk) → chunk_at s.live.blocks u ≡ Some x → p.user ≢ u
  pub apart_large : (m : Mapping) (n : ℕ) → r.chunk ≡ Some (Large m n) → (u : ℕ) (x : PageChunk) → large_at s.live.pages u ≡ Some x → m.user ≢ u
  pub fresh : (p : Place) (t : ℕ) → r.chunk ≡ Some (Small p t) → (t ≢ 0) × (t ≢ tag_at s.world.memory p.user)

pub no-chunk-state-after-allocation : (o : Origin) (s : State) → Sound s → IsMade o s (no_chunk s.world)
no-chunk-state-after-allocation o s k = record { sound = k; stale = λ f st on. st; apart = λ p t e. cc; apart_large = λ m n e. cc; fresh = λ p t e. cc }
