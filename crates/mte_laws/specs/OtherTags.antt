-- Only the tag of a live chunk opens it, and only the tag that a free gave what was freed.
use Rattle.std.specs.Prelude.{◌≡◌, ◌≢◌, ℕ, ◌<◌, ◌≤◌, Some}
use Rattle.scudo_secondary.specs.Mappings as secondary
use Rattle.scudo_heap.specs.Chunks.{end_of}
use Rattle.mte_laws.specs.LiveChunks.{BlockChunk, chunk_at}
use Rattle.mte_laws.specs.LivePages.{PageChunk, large_at}
use Rattle.mte_laws.specs.CarefulRuns.{State}
use Rattle.mte_laws.specs.Laws.{IsRefused}
use Rattle.mte_laws.specs.SoundHeaps.{Sound}
use Rattle.mte_laws.specs.Discipline.{Deallocation, KeepsFree, given_tag}

-- blocks: each checked access by another tag than a chunk's that touches one of its granules faults
-- zero: so does each by tag 0, as of a pointer to the stack, to data, or to a chunk with pages of
-- its own
-- pages: to the pages of a chunk that has its own, each by a tag other than 0
pub record OtherTagsAreRefused : Type 0 where
  pub blocks :
      (s : State) (u tag addr : ℕ) (x : BlockChunk) → Sound s
      → chunk_at s.live.blocks u ≡ Some x → tag ≢ x.tag
      → x.place.user ≤ addr → addr < end_of x.place → IsRefused s.world.memory tag addr
  pub zero :
      (s : State) (u addr : ℕ) (x : BlockChunk) → Sound s → chunk_at s.live.blocks u ≡ Some x
      → x.place.user ≤ addr → addr < end_of x.place → IsRefused s.world.memory 0 addr
  pub pages :
      (s : State) (u tag addr : ℕ) (x : PageChunk) → Sound s
      → large_at s.live.pages u ≡ Some x → tag ≢ 0
      → x.mapping.start ≤ addr → addr < secondary.end_of x.mapping
      → IsRefused s.world.memory tag addr

-- The tag that a free gives the granules of a chunk of a size class is neither 0 nor the chunk's.
-- refused: until an allocation takes the block, each checked access by another tag than the given
-- one that touches one of them faults
pub record FreedTagsDiffer : Type 0 where
  pub some : (a : State) (d : Deallocation a) → Sound a → given_tag d ≢ 0
  pub other : (a : State) (d : Deallocation a) → Sound a → given_tag d ≢ d.chunk.tag
  pub refused :
      (a b : State) (d : Deallocation a) (tag addr : ℕ) → Sound a → KeepsFree d b
      → tag ≢ given_tag d → d.chunk.place.user ≤ addr → addr < end_of d.chunk.place
      → IsRefused b.world.memory tag addr
