use Rattle.std.proofs.Common.{◌≡◌}
use Rattle.tombolopan_c.specs.LiveChunks.{live_after}
use Rattle.tombolopan_c.proofs.live_chunks.live_behind.Given as goal

-- the live chunks are those of the calls so far
abbrev pub invariant-loop-i : goal.invariant-loop-i
invariant-loop-i l = l.live.entries ≡ live_after l.steps l.i
