use Rattle.std.proofs.Common.{◌≤◌, ◌-◌, length, take}
use Rattle.hex.specs.Hex.{encode_lower}
use Rattle.mte_streams.specs.Writing.{WroteAll}
use Rattle.mte_session.proofs.text.write_hex.Given as goal

abbrev pub decreases-loop-done : goal.decreases-loop-done
decreases-loop-done g l = length l.bytes - l.done

abbrev pub invariant-loop-done : goal.invariant-loop-done
invariant-loop-done g l = record {
  within : l.done ≤ length l.bytes;
  wrote : WroteAll (g.W.Sink.log l.fn.out) (g.W.Sink.log l.out) (encode_lower (take l.done l.bytes));
}
