use Rattle.gdb_packets.proofs.EscapeLemmas.{IsUnescaped}
use Rattle.gdb_packets.proofs.framing.unescape.Given as goal

abbrev pub invariant-loop-byte : goal.invariant-loop-byte
invariant-loop-byte l = IsUnescaped l.bytes l.fn.room l.room l.len l.byte-index l.escaped
