-- An arena after a loan of a frame's bytes has ended.
use Rattle.std.specs.Prelude.{ℕ, List, Option}
use Rattle.std.specs.Borrow.{Fml, MutBor, Lends, LendsIf, Array, u8}
use Rattle.mte_arena.specs.Frames.{Frame, with_bytes, with_bytes_cases}
use Rattle.mte_arena.specs.Blocks.{with_block}
use Rattle.mte_arena.specs.contracts.arena.Arena.{the_row}

-- A loan of the 4096 bytes of a frame.
abbrev pub lends_bytes : MutBor (List (Option Frame)) → ℕ → MutBor (List ℕ) → Fml
lends_bytes s f r = Lends the_row (Array u8 0) s r (with_bytes s.now f)

-- The same loan, where a frame is named.
abbrev pub lends_bytes_if :
    MutBor (List (Option Frame)) → Option ℕ → Option (MutBor (List ℕ)) → Fml
lends_bytes_if s f r = LendsIf the_row (Array u8 0) s r (with_bytes_cases s.now f) s.now

-- A loan of both planes of a frame.
abbrev pub lends_block : MutBor (List (Option Frame)) → ℕ → MutBor (List ℕ) → Fml
lends_block s f r = Lends the_row (Array u8 0) s r (with_block s.now f)
