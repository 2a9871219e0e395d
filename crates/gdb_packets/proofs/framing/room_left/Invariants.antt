use Rattle.std.proofs.Common.{◌≡◌, ◌+◌, drop, length}
use Rattle.gdb_packets.specs.Framing.{with_escapes}
use Rattle.gdb_packets.proofs.framing.room_left.Given as goal

-- The room that is left is short of what the rest of the payload takes by as much as at the start.
abbrev pub invariant-loop-byte : goal.invariant-loop-byte
invariant-loop-byte l =
    l.left + length (with_escapes l.payload) ≡ l.fn.room + length (with_escapes (drop l.byte-index l.payload))
