use Rattle.std.proofs.Common.{◌<◌, length, get_or, arith, Some, None}
use Rattle.std.proofs.lemmas.Bool.{ne_eqb}
use Rattle.gdb_packets.proofs.EscapeLemmas.{plain_step, escape_step, turned_step, plain_end, turned_end, escaped_again}
use Rattle.gdb_packets.proofs.framing.unescape.Goals as goal
use Rattle.gdb_packets.proofs.framing.unescape.Goals.{then-escaped, else-escaped+then-byte-eq-ESCAPE, else-escaped+else-byte-eq-ESCAPE}

pub loop-byte-preserved : goal.loop-byte-preserved
loop-byte-preserved c =
    let l = c.loop-byte in
    let bytes = c.args.bytes.now in
    let within : l.len < length l.room = omega (arith, l.invariant.fits) in
    elim c.if-escaped.branch [
      | then-escaped w ↦
          let h = rw w.if-escaped.true at l.invariant in
          rw (w.room-is, w.len-is, w.escaped-is) (turned_step bytes c.args.room.now l.room l.len l.byte-index c.loop-byte-test.true within h)
      | else-escaped+then-byte-eq-ESCAPE w ↦
          let h = rw w.if-escaped.false at l.invariant in
          rw (w.room-is, w.len-is, w.escaped-is) (escape_step bytes c.args.room.now l.room l.len l.byte-index c.loop-byte-test.true w.if-byte-eq-ESCAPE.true h)
      | else-escaped+else-byte-eq-ESCAPE w ↦
          let h = rw w.if-escaped.false at l.invariant in
          rw (w.room-is, w.len-is, w.escaped-is, w.if-escaped.false) (plain_step bytes c.args.room.now l.room l.len l.byte-index c.loop-byte-test.true within (ne_eqb (get_or bytes l.byte-index 0) 125 w.if-byte-eq-ESCAPE.false) h)
    ]

pub returns-then-escaped-2-clause-payload : goal.returns-then-escaped-2-clause-payload
returns-then-escaped-2-clause-payload c =
    let k = rw c.if-escaped-2.true at c.loop-byte.invariant.payload in
    turned_end c.args.bytes.now _ c.loop-byte.byte-index _ (omega arith) k

pub returns-else-escaped-2-clause-payload : goal.returns-else-escaped-2-clause-payload
returns-else-escaped-2-clause-payload c =
    let k = rw c.if-escaped-2.false at c.loop-byte.invariant.payload in
    plain_end c.args.bytes.now _ c.loop-byte.byte-index _ (omega arith) k

pub returns-then-escaped-2-clause-again : goal.returns-then-escaped-2-clause-again
returns-then-escaped-2-clause-again c =
    escaped_again c.args.bytes.now c.loop-byte.room None (returns-then-escaped-2-clause-payload c) tt

pub returns-else-escaped-2-clause-again : goal.returns-else-escaped-2-clause-again
returns-else-escaped-2-clause-again c =
    escaped_again c.args.bytes.now c.loop-byte.room (Some c.loop-byte.len) (returns-else-escaped-2-clause-payload c) (omega (arith, c.loop-byte.invariant.fits))
