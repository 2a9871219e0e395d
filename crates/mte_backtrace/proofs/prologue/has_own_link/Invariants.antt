use Rattle.std.proofs.Common.{◌≡◌}
use Rattle.mte_backtrace.proofs.prologue.has_own_link.Given as goal

abbrev pub invariant-loop-index : goal.invariant-loop-index
invariant-loop-index g l = record {
  same : g.M.Tagged.memory l.memory ≡ g.M.Tagged.memory l.fn.memory;
  kept : g.M.Tagged.kept l.fn.memory l.memory;
}
