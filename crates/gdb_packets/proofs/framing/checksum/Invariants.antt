use Rattle.std.proofs.Common.{◌≡◌, take}
use Rattle.gdb_packets.specs.Framing.{checksum_of}
use Rattle.gdb_packets.proofs.framing.checksum.Given as goal

-- The checksum of what was seen so far.
abbrev pub invariant-loop-byte : goal.invariant-loop-byte
invariant-loop-byte l = l.sum ≡ checksum_of (take l.byte-index l.bytes)
