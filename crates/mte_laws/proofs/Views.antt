-- What of the heap's condition the tags of the size classes need.
use Rattle.std.proofs.Common.{◌≡◌, ℕ, ◌+◌, ◌*◌, ◌/◌, ◌<◌, ◌≤◌, ◌⊎◌, true, Some, None}
use Rattle.std.specs.Prelude.{nat_eq}
use Rattle.std.specs.List.{IsDistinct}
use Rattle.mte_tags.specs.Memory.{Memory, attrs_at}
use Rattle.mte_tags.specs.Whole.{IsWhole}
use Rattle.scudo_header.specs.Regions.{region_of}
use Rattle.common.specs.declared.limits.TheConstants.{PAGE_SIZE, MAX_PAGES}
use Rattle.common.specs.declared.ranges.TheConstants.{SECONDARY_START}
use Rattle.scudo_primary.specs.Blocks.{IsBlock}
use Rattle.scudo_primary.specs.Pools.{is_member}
use Rattle.scudo_primary.specs.Blocks.{IsClass}
use Rattle.scudo_heap.specs.Stacks.{StackState, pages_of, stack_of}
use Rattle.mte_laws.specs.LiveChunks.{LiveBlocks, ArePlaced, AreTagged}

-- each stack holds carved blocks, none of them twice
pub record IsStacked (h : StackState) : Type 0 where
  pub few : (c : ℕ) → IsClass c → pages_of h c ≤ MAX_PAGES
  pub blocks : (c b : ℕ) → IsClass c → is_member (stack_of h c) b ≡ true → IsBlock c (pages_of h c) b
  pub distinct : (c : ℕ) → IsClass c → IsDistinct nat_eq (stack_of h c)

-- in the range of the class regions exactly the pages of the classes are mapped, with READ, WRITE and TAGGED
pub record IsView (m : Memory) (h : StackState) : Type 0 where
  pub whole : IsWhole m
  pub limit : m.limit ≤ MAX_PAGES
  pub mapped : (c a : ℕ) → IsClass c → region_of c ≤ a → a < region_of c + PAGE_SIZE * pages_of h c → attrs_at m (a / 4096) ≡ Some 11
  pub others : (a : ℕ) → region_of 1 ≤ a → a < SECONDARY_START + 16 → (attrs_at m (a / 4096) ≡ None) ⊎ (attrs_at m (a / 4096) ≡ Some 11)
  pub free : (c a : ℕ) → IsClass c → region_of c + PAGE_SIZE * pages_of h c ≤ a → a < region_of c + PAGE_SIZE * MAX_PAGES → attrs_at m (a / 4096) ≡ None

pub record SoundBlocks (m : Memory) (h : StackState) (l : LiveBlocks) : Type 0 where
  pub stacked : IsStacked h
  pub served : IsView m h
  pub placed : ArePlaced h l
  pub tagged : AreTagged m h l

-- of these, what a change of one block shows again; the rest is the heap's condition
pub record TaggedBlocks (m : Memory) (h : StackState) (l : LiveBlocks) : Type 0 where
  pub whole : IsWhole m
  pub limit : m.limit ≤ MAX_PAGES
  pub placed : ArePlaced h l
  pub tagged : AreTagged m h l

pub tagged-of : (m : Memory) (h : StackState) (l : LiveBlocks) → SoundBlocks m h l → TaggedBlocks m h l
tagged-of m h l s = record { whole = s.served.whole; limit = s.served.limit; placed = s.placed; tagged = s.tagged }
