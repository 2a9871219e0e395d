-- Which tags a draw gives.
use Rattle.std.specs.Prelude.{◌≡◌, ℕ, ◌^◌, ◌<◌, Some, true, false}
use Rattle.mte_tags.specs.RandomTags.{after_draw}
use Rattle.mte_tags.specs.TagChoice.{is_allowed}
use Rattle.scudo_heap.specs.declared.chunk.Place.{Place}
use Rattle.scudo_heap.specs.declared.chunk.Chunk.TheVariants.{Small}
use Rattle.scudo_heap.specs.Chunks.{excluded_tags}
use Rattle.scudo_heap.specs.Placing.{World}
use Rattle.scudo_heap.specs.Allocation.{after_malloc}
use Rattle.mte_laws.specs.CarefulRuns.{State}
use Rattle.mte_laws.specs.SoundHeaps.{Sound}

-- A world whose generator has a seed.
abbrev pub with_seed : World → ℕ → World
with_seed w seed = record w { rgsr = record { tag = w.rgsr.tag; seed = seed } }

-- draws: from each last tag, each tag that a mask allows is drawn by some seed, if the mask
-- excludes a tag, as the heap's masks exclude tag 0
-- mallocs: so where malloc makes a chunk of a size class it gives it, by some seed, each tag that
-- is allowed there
pub record AllowedTagsAreDrawn : Type 0 where
  pub draws :
      (last exclude tag excluded : ℕ) → tag < 16 → is_allowed exclude tag ≡ true
      → excluded < 16 → is_allowed exclude excluded ≡ false
      → (seed : ℕ) × (seed < 2 ^ 16)
      × ((after_draw (record { tag = last; seed = seed }) exclude).tag ≡ tag)
  pub mallocs :
      (s : State) (size : ℕ) (p : Place) (given tag : ℕ) → Sound s
      → (after_malloc s.world size).chunk ≡ Some (Small p given)
      → tag < 16 → is_allowed (excluded_tags s.world.memory p) tag ≡ true
      → (seed : ℕ) × (seed < 2 ^ 16)
      × ((after_malloc (with_seed s.world seed) size).chunk ≡ Some (Small p tag))
