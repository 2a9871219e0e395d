use Rattle.std.proofs.Common.{◌≡◌}
use Rattle.mte_backtrace.proofs.callers.fill.Given as goal

abbrev pub invariant-loop-record : goal.invariant-loop-record
invariant-loop-record g l = record {
  same : g.M.Tagged.memory l.memory ≡ g.M.Tagged.memory l.fn.memory;
  kept : g.M.Tagged.kept l.fn.memory l.memory;
}
