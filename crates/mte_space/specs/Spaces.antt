-- A tenant's memory over shared frames: each page that its table maps, with the bytes and the tags
-- of its frame. It is a function of pool, table, limit of pages and tag state alone.
--     page_of p (f, a)            the page with the attributes a that the frame f holds
--     with_values g m             the finite map m with g of each value in its place
--     space_memory p t n state    the tenant's memory
--     HasFrames p k t n           the quota k has the frames that the table t may still take
--     IsSpace p k t n             the table t is whole, has n pages at most, each in a frame of its
--                                 own, and the quota k has frames for the others
--     KeepsRest k p n t u         what a call leaves of pool and table besides the memory
--     NoneEnters asid ts us       of other ASIDs no translation has come
use Rattle.std.specs.Prelude.{◌≡◌, ◌≢◌, ℕ, ◌+◌, ◌-◌, ◌≤◌, List, map, All, Contains}
use Rattle.std.specs.Ordering.{nat_cmp}
use Rattle.std.specs.FinMap as finite
use Rattle.std.specs.FinMap.{FinMap}
use Rattle.mte_tags.specs.Memory.{Memory, Page}
use Rattle.mte_tags.specs.declared.attrs.Attrs.{Attrs}
use Rattle.mte_tags.specs.declared.state.TagState.{TagState}
use Rattle.mte_arena.specs.Frames.{frame_at}
use Rattle.mte_frames.specs.Pool.{Pool, KeepsOthers, taken_by, reserved_by}
use Rattle.mte_translate.specs.Tables.{Root, pages_of, IsTable, MapsOnce}
use Rattle.mte_translate.specs.declared.translation.Translation.{Translation}

-- The page in a frame, with its attributes.
abbrev pub page_of : Pool → ℕ × Attrs → Page
page_of p t =
    record {
      attrs = t.1.0;
      bytes = (frame_at p.frames t.0).bytes;
      tags = (frame_at p.frames t.0).tags;
    }

-- A finite map with each value replaced.
unfoldable pub with_values : {X Y : Type 0} → (X → Y) → FinMap nat_cmp X → FinMap nat_cmp Y
with_values g m = finite.from_sorted (map (λ e. (e.0, g e.1)) (finite.entries m))

-- The memory of a table: each page is in the frame that the table names.
unfoldable pub space_memory : Pool → Root → ℕ → TagState → Memory
space_memory p t limit state =
    record { limit = limit; pages = with_values (page_of p) (pages_of p t.frame); state = state }

-- how many frames a table of at most `limit` pages may still take: one for each page to come, and
-- one for each leaf, of which there may be as many as pages
abbrev pub frames_to_come : Root → ℕ → ℕ
frames_to_come t limit = (limit - t.len) + (limit - t.leaves)

-- the quota has reserved what it has taken, and what is to come
abbrev pub HasFrames : Pool → ℕ → Root → ℕ → Type 0
HasFrames p k t limit = taken_by p k + frames_to_come t limit ≤ reserved_by p k

-- A table of quota k is the memory of a tenant of at most `limit` pages.
pub record IsSpace (p : Pool) (k : ℕ) (t : Root) (limit : ℕ) : Type 0 where
  pub table : IsTable p k t
  pub once : MapsOnce (pages_of p t.frame)
  pub below : t.len ≤ limit
  pub frames : HasFrames p k t limit

-- The parts of pool and table that a tenant's call keeps besides its pages.
pub record KeepsRest (k : ℕ) (p n : Pool) (t u : Root) : Type 0 where
  pub others : KeepsOthers k p n
  pub reserved : reserved_by n k ≡ reserved_by p k
  -- nothing allocates
  pub capacities : n.capacities ≡ p.capacities
  pub root : u.frame ≡ t.frame
  -- as many frames as before are out besides those of pages and leaves
  pub taken : (x : ℕ) → taken_by p k ≡ x + t.len + t.leaves → taken_by n k ≡ x + u.len + u.leaves

-- No translation of another ASID came into the lookaside buffer.
abbrev pub NoneEnters : ℕ → List Translation → List Translation → Type 0
NoneEnters asid ts us = All (λ u. u.asid ≢ asid → Contains ts u) us
