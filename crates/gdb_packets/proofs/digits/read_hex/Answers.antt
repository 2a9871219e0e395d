use Rattle.std.proofs.Common.{◌≡◌, ◌++◌, ◌/◌, ◌≤◌, drop, length, take, Some, None, refl, sym, arith, false}
use Rattle.std.proofs.lemmas.List.{length-take-le}
use Rattle.gdb_packets.specs.Digits.{is_hex_text}
use Rattle.gdb_packets.proofs.HexLemmas.{not_hex, hex_put, hex_again}
use Rattle.gdb_packets.proofs.digits.read_hex.Goals as goal

pub returns-then-not-is_hex-clause-exact : goal.returns-then-not-is_hex-clause-exact
returns-then-not-is_hex-clause-exact c =
    let other : is_hex_text c.args.text.now ≡ false = sym c.if-not-is_hex.ensures in
    rw (not_hex c.args.text.now other) (refl, refl)

pub returns-then-not-is_hex-clause-again : goal.returns-then-not-is_hex-clause-again
returns-then-not-is_hex-clause-again c =
    hex_again c.args.text.now c.args.room.now c.args.room.now None (returns-then-not-is_hex-clause-exact c)

pub returns-clause-exact : goal.returns-clause-exact
returns-clause-exact c =
    let n = length c.args.text.now / 2 in
    let fits : n ≤ length c.args.room.now = omega arith in
    hex_put c.args.text.now c.decode_to_slice.new.out c.args.room.now n (length (take n c.args.room.now)) c.decode_to_slice.result
    (sym c.if-not-is_hex.ensures) refl (length-take-le n c.args.room.now fits) c.decode_to_slice.ensures.value

pub returns-clause-again : goal.returns-clause-again
returns-clause-again c =
    hex_again c.args.text.now c.args.room.now (c.decode_to_slice.new.out ++ drop (length c.args.text.now / 2) c.args.room.now)
    (Some (length c.args.text.now / 2)) (returns-clause-exact c)
