-- How a class's free blocks are cut into batches (Scudo, local_cache.h: a transfer batch).
use Rattle.std.specs.Prelude.{ℕ, ◌-◌, ◌/◌, ◌%◌, ◌<◌, ◌≤◌, ◌==◌, nat_le, nat_eq, List, [], ◌∷◌}
use Rattle.std.specs.Prelude.{◌++◌, length, replicate, if◌then◌else◌}
use Rattle.std.specs.List.{IsDistinct}
use Rattle.scudo_header.specs.Classes.{size_of}
use Rattle.scudo_header.specs.declared.config.TheConstants.{SMALL_SIZE, MAX_COUNT}
use Rattle.scudo_header.specs.declared.config.TheConstants.{MAX_COUNT_ABOVE}

-- The most blocks of a class that a local cache or a batch holds.
abbrev pub max_count_of : ℕ → ℕ
max_count_of class = if nat_le (size_of class) SMALL_SIZE then MAX_COUNT else MAX_COUNT_ABOVE

-- A batch of a class's blocks: none of them twice.
pub record IsBatch (class : ℕ) (blocks : List ℕ) : Type 0 where
  pub some : 0 < length blocks
  pub most : length blocks ≤ max_count_of class
  pub distinct : IsDistinct nat_eq blocks

-- The sizes of the batches, from the lowest on, into which n new blocks of a class are cut: half of
-- the maximum each, and what is left in the last.
abbrev pub cut_sizes : ℕ → ℕ → List ℕ
cut_sizes half n = replicate (n / half) half ++ (if n % half == 0 then [] else (n % half) ∷ [])

-- The sizes of the batches of a carve.
abbrev pub batch_sizes : ℕ → ℕ → List ℕ
batch_sizes class n = cut_sizes (max_count_of class / 2) n

-- The size of the first batch, 0 where there is none.
abbrev pub first_size : List ℕ → ℕ
first_size [] = 0
first_size (n ∷ more) = n

-- The sizes after the first batch lost its top block.
abbrev pub one_less : List ℕ → List ℕ
one_less [] = []
one_less (n ∷ more) = if n == 1 then more else (n - 1) ∷ more
