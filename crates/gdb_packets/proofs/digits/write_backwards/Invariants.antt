use Rattle.std.proofs.Common.{◌≡◌, ◌≤◌, ◌<◌, ◌^◌, drop, false}
use Rattle.std.specs.Fmt.{digits_onto, digits}
use Rattle.gdb_packets.proofs.digits.write_backwards.Given as goal

-- The digits of the rest, before those that were put.
abbrev pub invariant-loop-start : goal.invariant-loop-start
invariant-loop-start l = record {
  within : l.start ≤ 16;
  small : l.rest < 16 ^ l.start;
  text : digits_onto l.start 16 false l.rest (drop l.start l.text) ≡ digits 16 false l.value;
}

abbrev pub decreases-loop-start : goal.decreases-loop-start
decreases-loop-start l = l.start
