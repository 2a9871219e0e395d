use Rattle.std.proofs.Common.{arith, refl}
use Rattle.hex.proofs.HexLemmas.{length-encode_with}
use Rattle.gdb_packets.proofs.digits.write_hex.Goals as goal

pub returns-then-len-room : goal.returns-then-len-room
returns-then-len-room c = (rw length-encode_with (omega (arith, c.in_ok-len.ensures.1)), refl)
