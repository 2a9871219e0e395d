-- The live chunks with pages of their own along a run, by user address; and what holds of them.
--     large_at g u       the chunk at a user address
--     AreLarge ms g      each is with its header in the mapping of its user address
use Rattle.std.specs.Prelude.{◌≡◌, ℕ, ◌+◌, ◌%◌, ◌^◌, ◌<◌, ◌≤◌, List, Option, Some}
use Rattle.std.specs.Ordering.{nat_cmp}
use Rattle.std.specs.FinMap as finite
use Rattle.std.specs.FinMap.{FinMap}
use Rattle.scudo_header.specs.declared.headers.Header.{Header}
use Rattle.scudo_header.specs.declared.headers.Origin.{Origin}
use Rattle.scudo_header.specs.declared.headers.State.TheVariants.{Allocated}
use Rattle.scudo_secondary.specs.Mappings.{mapping_of, end_of}
use Rattle.scudo_secondary.specs.declared.mappings.Mapping.{Mapping}
use Rattle.scudo_heap.specs.Large.{large_header, unused_in}

-- A chunk with pages of its own: its mapping, its size and its header.
pub record PageChunk : Type 0 where
  pub mapping : Mapping
  pub size : ℕ
  pub header : Header

-- The live chunks with pages of their own, by their user addresses.
abbrev pub LivePages : Type 0
LivePages = FinMap nat_cmp PageChunk

-- The chunk at a user address, if one is live.
unfoldable pub large_at : LivePages → ℕ → Option PageChunk
large_at g user = finite.get g user

-- One more live chunk.
unfoldable pub with_large : LivePages → PageChunk → LivePages
with_large g x = finite.insert g x.mapping.user x

-- One live chunk less.
unfoldable pub without_large : LivePages → ℕ → LivePages
without_large g user = finite.remove g user

-- A chunk that was made in a mapping.
abbrev pub new_large : Origin → Mapping → ℕ → PageChunk
new_large origin m size =
    record { mapping = m; size = size; header = large_header origin m size }

-- The header gives the size, and that the chunk has pages of its own.
pub record IsLargeHeaderOf (x : PageChunk) : Type 0 where
  pub class : x.header.class_id ≡ 0
  pub state : x.header.state ≡ Allocated
  pub unused : x.header.size_or_unused_bytes ≡ unused_in x.mapping x.size
  pub offset : x.header.offset ≡ 0
  pub fits : x.header.size_or_unused_bytes < 2 ^ 20

-- Each live chunk lies, with a granule for its header, in the mapping of its user address.
pub record AreLarge (ms : List Mapping) (g : LivePages) : Type 0 where
  pub place :
      (u : ℕ) (x : PageChunk) → large_at g u ≡ Some x → mapping_of ms u ≡ Some x.mapping
  pub aligned : (u : ℕ) (x : PageChunk) → large_at g u ≡ Some x → u % 16 ≡ 0
  pub above : (u : ℕ) (x : PageChunk) → large_at g u ≡ Some x → x.mapping.start + 16 ≤ u
  pub within :
      (u : ℕ) (x : PageChunk) → large_at g u ≡ Some x → u + x.size ≤ end_of x.mapping
  pub header : (u : ℕ) (x : PageChunk) → large_at g u ≡ Some x → IsLargeHeaderOf x
