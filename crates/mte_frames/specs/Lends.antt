-- A pool after a loan of a frame's bytes has ended.
use Rattle.std.specs.Prelude.{ℕ, List, Option}
use Rattle.std.specs.Borrow.{Fml, MutBor, Lends, LendsIf, Array, u8}
use Rattle.mte_frames.specs.Pool.{Pool, with_bytes_at, with_bytes_at_cases, with_block_at}
use Rattle.mte_frames.specs.contracts.pool.FramePool.{the_row}

-- A loan of the 4096 bytes of a frame of the pool.
abbrev pub lends_bytes : MutBor Pool → ℕ → MutBor (List ℕ) → Fml
lends_bytes s f r = Lends the_row (Array u8 0) s r (with_bytes_at s.now f)

-- The same loan, where a frame is named.
abbrev pub lends_bytes_if : MutBor Pool → Option ℕ → Option (MutBor (List ℕ)) → Fml
lends_bytes_if s f r = LendsIf the_row (Array u8 0) s r (with_bytes_at_cases s.now f) s.now

-- A loan of both planes of a frame of the pool.
abbrev pub lends_block : MutBor Pool → ℕ → MutBor (List ℕ) → Fml
lends_block s f r = Lends the_row (Array u8 0) s r (with_block_at s.now f)
