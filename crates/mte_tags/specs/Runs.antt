-- Runs of bytes and of granules within one page.
use Rattle.std.specs.Prelude.{ℕ, ◌+◌, ◌*◌, Bool, List, [], ◌∷◌, ◌++◌, take, drop, replicate}
use Rattle.std.specs.Prelude.{slice_set, if◌then◌else◌}
use Rattle.mte_tags.specs.Memory.{Page}

-- a list written into a list from a place on
unfoldable pub with_bytes_run : List ℕ → ℕ → List ℕ → List ℕ
with_bytes_run xs o [] = xs
with_bytes_run xs o (b ∷ bs) = with_bytes_run (slice_set xs o b) (o + 1) bs

-- a page with a run of its bytes replaced, from a place on
abbrev pub with_bytes_in : Page → ℕ → List ℕ → Page
with_bytes_in p o bs = record p { bytes = with_bytes_run p.bytes o bs }

-- a page with n granules from granule g on retagged, and their bytes zero where that is requested
abbrev pub with_granule_tags : Page → ℕ → ℕ → ℕ → Bool → Page
with_granule_tags p g n t zero_it = record {
  attrs = p.attrs;
  bytes = if zero_it then take (16 * g) p.bytes
      ++ (replicate (16 * n) 0 ++ drop (16 * g + 16 * n) p.bytes) else p.bytes;
  tags = with_bytes_run p.tags g (replicate n t);
}
