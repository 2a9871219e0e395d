-- A region after the loan of a part of a frame has ended.
use Rattle.std.specs.Prelude.{ℕ, List, slice_set, Option, Some}
use Rattle.std.specs.Borrow.{Fml, MutBor, Lends, Array, u8}
use Rattle.mte_arena.specs.Blocks.{block_at, with_part}
use Rattle.mte_arena.specs.declared.region.Region.{Region}
use Rattle.mte_arena.specs.contracts.region.Region.{the_row}

-- A region with other blocks.
abbrev pub with_blocks : Region → List (Option (List ℕ)) → Region
with_blocks r cs = record { mark = r.mark; start = r.start; blocks = cs }

-- the n bytes from i on of the frame f end as what the borrower left there, and all else stays
abbrev pub lends_part : MutBor Region → ℕ → ℕ → ℕ → MutBor (List ℕ) → Fml
lends_part r f i n result =
    Lends the_row (Array u8 0) r result
    (λ ws.
    let part = with_part (block_at r.now.blocks f) i n ws in
    with_blocks r.now (slice_set r.now.blocks f (Some part)))
