use Rattle.std.proofs.Common.{◌≤◌, ◌+◌, ◌++◌, drop, length, take, get_or, arith, ap, sym, ◌∙◌, append_assoc, length-append}
use Rattle.gdb_packets.specs.Framing.{escape_of, with_escapes}
use Rattle.gdb_packets.proofs.EscapeLemmas.{with-escapes-drop, put_front, put_behind}
use Rattle.gdb_packets.proofs.framing.escape.Goals as goal

pub loop-byte-preserved : goal.loop-byte-preserved
loop-byte-preserved c =
    let l = c.loop-byte in
    let put = c.escape_byte-len in
    let payload = c.args.payload.now in
    let piece = escape_of (get_or payload l.byte-index 0) in
    let more = with_escapes (drop (l.byte-index + 1) payload) in
    let split = with-escapes-drop payload l.byte-index 0 c.loop-byte-test.true in
    let fits : l.len ≤ length l.room = omega (arith, l.auto.room) in
    record {
      len = omega (arith, ap length split, length-append piece more, put.ensures.len, l.invariant.len);
      text = ap (λ z. z ++ more) (put_front l.room piece put.new.room l.len put.result fits put.ensures.len put.ensures.text)
          ∙ append_assoc (take l.len l.room) piece more ∙ ap (λ z. take l.len l.room ++ z) (sym split) ∙ l.invariant.text;
      rest = put_behind l.room piece put.new.room c.args.room.now l.len put.result fits put.ensures.len put.ensures.text l.invariant.rest;
    }
