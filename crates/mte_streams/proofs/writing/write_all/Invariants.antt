use Rattle.std.proofs.Common.{◌≤◌, ◌-◌, length, take}
use Rattle.mte_streams.specs.Writing.{WroteAll}
use Rattle.mte_streams.proofs.writing.write_all.Given as goal

abbrev pub decreases-loop-done : goal.decreases-loop-done
decreases-loop-done g l = length l.text - l.done

abbrev pub invariant-loop-done : goal.invariant-loop-done
invariant-loop-done g l = record {
  within : l.done ≤ length l.text;
  wrote : WroteAll (g.W.Sink.log l.fn.out) (g.W.Sink.log l.out) (take l.done l.text);
}
