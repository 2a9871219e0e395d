use Rattle.std.proofs.Common.{◌≤◌, ◌-◌, take, length, map}
use Rattle.std.specs.List.{concat}
use Rattle.mte_streams.specs.Writing.{WroteAll}
use Rattle.mte_session.specs.Report.{call_line}
use Rattle.mte_session.proofs.calls.write_kept_calls.Given as goal

abbrev pub decreases-loop-i : goal.decreases-loop-i
decreases-loop-i g l = length l.fn.calls.last - l.i

abbrev pub invariant-loop-i : goal.invariant-loop-i
invariant-loop-i g l = record {
  within : l.i ≤ length l.fn.calls.last;
  wrote : WroteAll (g.W.Sink.log l.fn.out) (g.W.Sink.log l.out) (concat (map call_line (take l.i l.fn.calls.last)));
}
