use Rattle.std.proofs.Common.{◌≡◌, ◌++◌}
use Rattle.std.specs.BTreeMap.{values}
use Rattle.tombolopan_c.proofs.live_chunks.told.Given as goal

-- what is copied, and what the iterator has left
abbrev pub invariant-loop-chunk : goal.invariant-loop-chunk
invariant-loop-chunk l = l.chunks.items ++ l.chunk-iterator ≡ values l.live
