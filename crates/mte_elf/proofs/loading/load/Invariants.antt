use Rattle.std.proofs.Common.{◌≡◌, drop, length}
use Rattle.mte_elf.specs.Headers.{segments_of}
use Rattle.mte_elf.specs.Loading.{with_segments}
use Rattle.mte_elf.proofs.LoadingLemmas.{IsReady}
use Rattle.mte_elf.proofs.loading.load.Given as goal

abbrev pub invariant-loop-segment : goal.invariant-loop-segment
invariant-loop-segment g l = record {
  ready : IsReady (length l.file) (g.M.Tagged.memory l.memory) (drop l.segment-index (segments_of l.file));
  rest : with_segments l.file (g.M.Tagged.memory l.memory) (drop l.segment-index (segments_of l.file)) ≡ with_segments l.file (g.M.Tagged.memory l.fn.memory) (segments_of l.file);
  kept : g.M.Tagged.kept l.fn.memory l.memory;
}
