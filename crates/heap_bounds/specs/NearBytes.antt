-- Remembered bytes of live chunks.
use Rattle.std.specs.Prelude.{◌≡◌, ◌+◌, ◌<◌, List, length}
use Rattle.std.specs.List.{All}
use Rattle.heap_bounds.specs.KeptChunks.{KeptChunks}
use Rattle.heap_bounds.specs.LiveBytes.{HasLive}
use Rattle.heap_bounds.specs.declared.live_bytes.LiveBytes.{LiveBytes}

-- Bytes that are remembered are those of a live chunk; of no bytes nothing is said.
abbrev pub IsOfLive : KeptChunks → LiveBytes → Type 0
IsOfLive k r = 0 < r.len → HasLive k r.start (r.start + r.len)

-- As many as there are places are remembered, each of a live chunk.
pub record AreOfLive (k : KeptChunks) (near : List LiveBytes) : Type 0 where
  pub places : length near ≡ 128
  pub each : All (IsOfLive k) near

-- As many as there are places are remembered, each of no bytes.
pub record AreNone (near : List LiveBytes) : Type 0 where
  pub places : length near ≡ 128
  pub each : All (λ r. r.len ≡ 0) near
