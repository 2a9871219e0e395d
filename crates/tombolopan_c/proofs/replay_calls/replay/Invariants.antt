use Rattle.std.proofs.Common.{◌≡◌}
use Rattle.tombolopan_c.specs.HeapCalls.{start_of}
use Rattle.tombolopan_c.specs.HeapReplays.{replayed}
use Rattle.tombolopan_c.proofs.replay_calls.replay.Given as goal

-- the world and the list are what the steps so far have left
abbrev pub invariant-loop-i : goal.invariant-loop-i
invariant-loop-i l =
    (l.bench ≡ (replayed (start_of l.setup) l.initial.steps l.i).world)
    × (l.steps ≡ (replayed (start_of l.setup) l.initial.steps l.i).steps)
