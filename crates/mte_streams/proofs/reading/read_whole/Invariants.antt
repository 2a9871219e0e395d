use Rattle.std.proofs.Common.{◌≤◌, length, vec_capacity}
use Rattle.mte_streams.proofs.ReadLemmas.{Gave}
use Rattle.mte_streams.proofs.reading.read_whole.Given as goal

abbrev pub invariant-loop : goal.invariant-loop
invariant-loop g l = record {
  gave : Gave (g.R.Source.log l.fn.reader) (g.R.Source.log l.reader) l.whole.items l.counter;
  progress : l.counter ≤ length l.whole.items;
  within : length l.whole.items ≤ 16777216;
  room : vec_capacity l.whole ≤ 16777216;
  chunk : 4096 ≤ length l.chunk;
}
