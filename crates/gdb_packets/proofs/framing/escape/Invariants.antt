use Rattle.std.proofs.Common.{◌≡◌, ◌+◌, ◌++◌, drop, length, take}
use Rattle.gdb_packets.specs.Framing.{with_escapes}
use Rattle.gdb_packets.proofs.framing.escape.Given as goal

-- What was put so far and the escapes of the rest are the whole.
abbrev pub invariant-loop-byte : goal.invariant-loop-byte
invariant-loop-byte l = record {
  len : l.len + length (with_escapes (drop l.byte-index l.payload)) ≡ length (with_escapes l.payload);
  text : take l.len l.room ++ with_escapes (drop l.byte-index l.payload) ≡ with_escapes l.payload;
  rest : drop l.len l.room ≡ drop l.len l.fn.room;
}
