-- The chunks that a tenant's bounds are those of.
use Rattle.std.specs.Prelude.{ℕ, Bool, List, refl}
use Rattle.std.specs.Coded.{Coded, code_by, coded×, coded_ℕ, coded_bool, coded_list}
use Rattle.heap_bounds.specs.declared.bounds.ChunkBytes.{ChunkBytes}
use Rattle.heap_bounds.specs.declared.bounds.Bounds.TheInside.{Inside}

-- Of each block of a size class the newest one, by where the block begins, and the live ones that
-- have pages of their own.
pub record KeptChunks : Type 0 where
  pub blocks : List (ℕ × ChunkBytes)
  pub large : List ChunkBytes

-- The code of a chunk, by which proofs distinguish two.
abbrev pub coded_chunk : Coded ChunkBytes
coded_chunk =
    code_by (ℕ × (ℕ × Bool)) (coded× coded_ℕ (coded× coded_ℕ coded_bool))
    (λ c. (c.start, (c.end, c.live)))
    (λ k. record { start = k.0; end = k.1.0; live = k.1.1 })
    (λ _. refl)

-- The code of the chunks.
abbrev pub coded_chunks : Coded KeptChunks
coded_chunks =
    code_by (List (ℕ × ChunkBytes) × List ChunkBytes)
    (coded× (coded_list (coded× coded_ℕ coded_chunk)) (coded_list coded_chunk))
    (λ c. (c.blocks, c.large))
    (λ k. record { blocks = k.0; large = k.1 })
    (λ _. refl)

-- The chunks that the code keeps.
abbrev pub chunks_of : Inside → KeptChunks
chunks_of f = record { blocks = f.blocks.entries; large = f.large.items }
