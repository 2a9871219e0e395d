use Rattle.std.proofs.Common.{◌≤◌, ◌+◌, length, arith}
use Rattle.gdb_packets.specs.Framing.{with_escapes}
use Rattle.gdb_packets.proofs.FrameLemmas.{frame_put, too_long, length-frame_of}
use Rattle.gdb_packets.proofs.framing.write_packet.Goals as goal

pub returns-in_err-free : goal.returns-in_err-free
returns-in_err-free c =
    let bytes = with_escapes c.args.payload.now in
    too_long bytes c.args.room.now _ (omega (arith, c.in_err-free.ensures)) c.from_residual.ensures

pub returns-in_err-room_left : goal.returns-in_err-room_left
returns-in_err-room_left c =
    let bytes = with_escapes c.args.payload.now in
    let free = c.in_ok-free.ensures in
    too_long bytes c.args.room.now _ (omega (arith, c.in_err-room_left.ensures, free.0, free.1)) c.from_residual-in_err-room_left.ensures

pub returns : goal.returns
returns c =
    let bytes = with_escapes c.args.payload.now in
    let put = c.escape-end.ensures in
    let free = c.in_ok-free.ensures in
    let within = c.in_ok-room_left.ensures in
    let fits : length bytes + 4 ≤ length c.args.room.now = omega (arith, free.0, free.1, within.0) in (
      omega (arith, length-frame_of bytes, put.len),
      frame_put c.args.room.now c.escape-end.new.room bytes c.close.new.room c.escape-end.result put.len fits put.text c.close.ensures,
    )
