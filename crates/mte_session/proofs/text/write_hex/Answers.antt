use Rattle.std.proofs.Common.{rules, ◌≡◌, ◌+◌, ◌-◌, arith}
use Rattle.mte_session.proofs.ReportLemmas.{err_writes, wrote_no_digits, hex_more, hex_part}
use Rattle.mte_session.proofs.text.write_hex.Goals as goal

pub loop-done-init : goal.loop-done-init
loop-done-init g c = record { within = omega arith; wrote = wrote_no_digits _ }

pub returns-in_err-write_hex_piece : goal.returns-in_err-write_hex_piece
returns-in_err-write_hex_piece g c =
    err_writes _ _ c.from_residual.result _ _ (search rules) (hex_part _ _ _ c.args.bytes.now c.loop-done.done _ c.loop-done.invariant.wrote c.in_err-write_hex_piece.ensures)

pub loop-done-preserved : goal.loop-done-preserved
loop-done-preserved g c =
    let more : c.min-end.result ≡ c.loop-done.done + (c.min-end.result - c.loop-done.done) = omega arith in
    record {
      within = omega arith;
      wrote = hex_more _ _ _ c.args.bytes.now c.loop-done.done _ _ more c.loop-done.invariant.wrote c.in_ok-write_hex_piece.ensures;
    }
