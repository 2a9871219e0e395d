-- The pages that no heap call changes: all but those of the ranges where a heap's pages lie, from
-- the first class's region to the end of the range of chunks with pages of their own.
use Rattle.std.specs.Prelude.{◌≡◌, ℕ, ◌/◌, ◌≤◌, ◌<◌}
use Rattle.mte_tags.specs.Memory.{Memory, page_at}
use Rattle.common.specs.declared.limits.TheConstants.{PAGE_SIZE}
use Rattle.common.specs.declared.ranges.TheConstants.{SECONDARY_END}
use Rattle.scudo_header.specs.Regions.{region_of}

-- Whether a page is in none of those ranges.
abbrev pub IsOther : ℕ → Type 0
IsOther page = region_of 1 / PAGE_SIZE ≤ page → page < SECONDARY_END / PAGE_SIZE → ⊥

-- Each such page of m is the same in n: whether it is mapped, its attributes, bytes and tags.
abbrev pub KeepsOthers : Memory → Memory → Type 0
KeepsOthers m n = (page : ℕ) → IsOther page → page_at n page ≡ page_at m page
