use Rattle.std.proofs.Common.{rules}
use Rattle.mte_streams.specs.Writing.{WroteAll, WrotePart}
use Rattle.mte_session.specs.Report.{record_text}
use Rattle.mte_session.proofs.ReportLemmas.{err_writes, then_writes, then_part, then_all, part_more}
use Rattle.mte_session.proofs.ReportLemmas.{line_1, line_2, line_3, line_4, line_5, line_6, lines_1}
use Rattle.mte_session.proofs.ReportLemmas.{lines_2, lines_3, lines_4, lines_5}
use Rattle.mte_session.proofs.report.write_report.Goals as goal

pub returns-in_err-write_number_line : goal.returns-in_err-write_number_line
unfolding record_text
returns-in_err-write_number_line g c =
    let part : WrotePart (g.W.Sink.log c.args.out.now) (g.W.Sink.log c.write_number_line.new.out) (line_1 c.args.tenant.now) = rw (← c.from.ensures) c.in_err-write_number_line.ensures in
    err_writes _ _ c.from_residual.result _ _ (search rules) (part_more _ _ (lines_5 c.args.tenant.now) (line_6 c.args.tenant.now) (part_more _ _ (lines_4 c.args.tenant.now) (line_5 c.args.tenant.now) (part_more _ _ (lines_3 c.args.tenant.now) (line_4 c.args.tenant.now) (part_more _ _ (lines_2 c.args.tenant.now) (line_3 c.args.tenant.now) (part_more _ _ (lines_1 c.args.tenant.now) (line_2 c.args.tenant.now) part)))))

pub returns-in_err-write_status_line : goal.returns-in_err-write_status_line
unfolding record_text
returns-in_err-write_status_line g c =
    let wrote_1 : WroteAll (g.W.Sink.log c.args.out.now) (g.W.Sink.log c.write_number_line.new.out) (line_1 c.args.tenant.now) = rw (← c.from.ensures) c.in_ok-write_number_line.ensures in
    let all_1 = wrote_1 in
    let part : WrotePart (g.W.Sink.log c.write_number_line.new.out) (g.W.Sink.log c.write_status_line.new.out) (line_2 c.args.tenant.now) = c.in_err-write_status_line.ensures in
    err_writes _ _ c.from_residual-in_err-write_status_line.result _ _ (search rules) (part_more _ _ (lines_5 c.args.tenant.now) (line_6 c.args.tenant.now) (part_more _ _ (lines_4 c.args.tenant.now) (line_5 c.args.tenant.now) (part_more _ _ (lines_3 c.args.tenant.now) (line_4 c.args.tenant.now) (part_more _ _ (lines_2 c.args.tenant.now) (line_3 c.args.tenant.now) (then_part _ _ _ (lines_1 c.args.tenant.now) (line_2 c.args.tenant.now) all_1 part)))))

pub returns-in_err-write_number_line-2 : goal.returns-in_err-write_number_line-2
unfolding record_text
returns-in_err-write_number_line-2 g c =
    let wrote_1 : WroteAll (g.W.Sink.log c.args.out.now) (g.W.Sink.log c.write_number_line.new.out) (line_1 c.args.tenant.now) = rw (← c.from.ensures) c.in_ok-write_number_line.ensures in
    let all_1 = wrote_1 in
    let wrote_2 : WroteAll (g.W.Sink.log c.write_number_line.new.out) (g.W.Sink.log c.write_status_line.new.out) (line_2 c.args.tenant.now) = c.in_ok-write_status_line.ensures in
    let all_2 = then_all _ _ _ (lines_1 c.args.tenant.now) (line_2 c.args.tenant.now) all_1 wrote_2 in
    let part : WrotePart (g.W.Sink.log c.write_status_line.new.out) (g.W.Sink.log c.write_number_line-2.new.out) (line_3 c.args.tenant.now) = c.in_err-write_number_line-2.ensures in
    err_writes _ _ c.from_residual-in_err-write_number_line-2.result _ _ (search rules) (part_more _ _ (lines_5 c.args.tenant.now) (line_6 c.args.tenant.now) (part_more _ _ (lines_4 c.args.tenant.now) (line_5 c.args.tenant.now) (part_more _ _ (lines_3 c.args.tenant.now) (line_4 c.args.tenant.now) (then_part _ _ _ (lines_2 c.args.tenant.now) (line_3 c.args.tenant.now) all_2 part))))

pub returns-in_err-write_output_line : goal.returns-in_err-write_output_line
unfolding record_text
returns-in_err-write_output_line g c =
    let wrote_1 : WroteAll (g.W.Sink.log c.args.out.now) (g.W.Sink.log c.write_number_line.new.out) (line_1 c.args.tenant.now) = rw (← c.from.ensures) c.in_ok-write_number_line.ensures in
    let all_1 = wrote_1 in
    let wrote_2 : WroteAll (g.W.Sink.log c.write_number_line.new.out) (g.W.Sink.log c.write_status_line.new.out) (line_2 c.args.tenant.now) = c.in_ok-write_status_line.ensures in
    let all_2 = then_all _ _ _ (lines_1 c.args.tenant.now) (line_2 c.args.tenant.now) all_1 wrote_2 in
    let wrote_3 : WroteAll (g.W.Sink.log c.write_status_line.new.out) (g.W.Sink.log c.write_number_line-2.new.out) (line_3 c.args.tenant.now) = c.in_ok-write_number_line-2.ensures in
    let all_3 = then_all _ _ _ (lines_2 c.args.tenant.now) (line_3 c.args.tenant.now) all_2 wrote_3 in
    let part : WrotePart (g.W.Sink.log c.write_number_line-2.new.out) (g.W.Sink.log c.write_output_line.new.out) (line_4 c.args.tenant.now) = rw (← c.as_slice.ensures) c.in_err-write_output_line.ensures in
    err_writes _ _ c.from_residual-in_err-write_output_line.result _ _ (search rules) (part_more _ _ (lines_5 c.args.tenant.now) (line_6 c.args.tenant.now) (part_more _ _ (lines_4 c.args.tenant.now) (line_5 c.args.tenant.now) (then_part _ _ _ (lines_3 c.args.tenant.now) (line_4 c.args.tenant.now) all_3 part)))

pub returns-in_err-write_calls : goal.returns-in_err-write_calls
unfolding record_text
returns-in_err-write_calls g c =
    let wrote_1 : WroteAll (g.W.Sink.log c.args.out.now) (g.W.Sink.log c.write_number_line.new.out) (line_1 c.args.tenant.now) = rw (← c.from.ensures) c.in_ok-write_number_line.ensures in
    let all_1 = wrote_1 in
    let wrote_2 : WroteAll (g.W.Sink.log c.write_number_line.new.out) (g.W.Sink.log c.write_status_line.new.out) (line_2 c.args.tenant.now) = c.in_ok-write_status_line.ensures in
    let all_2 = then_all _ _ _ (lines_1 c.args.tenant.now) (line_2 c.args.tenant.now) all_1 wrote_2 in
    let wrote_3 : WroteAll (g.W.Sink.log c.write_status_line.new.out) (g.W.Sink.log c.write_number_line-2.new.out) (line_3 c.args.tenant.now) = c.in_ok-write_number_line-2.ensures in
    let all_3 = then_all _ _ _ (lines_2 c.args.tenant.now) (line_3 c.args.tenant.now) all_2 wrote_3 in
    let wrote_4 : WroteAll (g.W.Sink.log c.write_number_line-2.new.out) (g.W.Sink.log c.write_output_line.new.out) (line_4 c.args.tenant.now) = rw (← c.as_slice.ensures) c.in_ok-write_output_line.ensures in
    let all_4 = then_all _ _ _ (lines_3 c.args.tenant.now) (line_4 c.args.tenant.now) all_3 wrote_4 in
    let part : WrotePart (g.W.Sink.log c.write_output_line.new.out) (g.W.Sink.log c.write_calls.new.out) (line_5 c.args.tenant.now) = c.in_err-write_calls.ensures in
    err_writes _ _ c.from_residual-in_err-write_calls.result _ _ (search rules) (part_more _ _ (lines_5 c.args.tenant.now) (line_6 c.args.tenant.now) (then_part _ _ _ (lines_4 c.args.tenant.now) (line_5 c.args.tenant.now) all_4 part))

pub returns : goal.returns
unfolding record_text
returns g c =
    let wrote_1 : WroteAll (g.W.Sink.log c.args.out.now) (g.W.Sink.log c.write_number_line.new.out) (line_1 c.args.tenant.now) = rw (← c.from.ensures) c.in_ok-write_number_line.ensures in
    let all_1 = wrote_1 in
    let wrote_2 : WroteAll (g.W.Sink.log c.write_number_line.new.out) (g.W.Sink.log c.write_status_line.new.out) (line_2 c.args.tenant.now) = c.in_ok-write_status_line.ensures in
    let all_2 = then_all _ _ _ (lines_1 c.args.tenant.now) (line_2 c.args.tenant.now) all_1 wrote_2 in
    let wrote_3 : WroteAll (g.W.Sink.log c.write_status_line.new.out) (g.W.Sink.log c.write_number_line-2.new.out) (line_3 c.args.tenant.now) = c.in_ok-write_number_line-2.ensures in
    let all_3 = then_all _ _ _ (lines_2 c.args.tenant.now) (line_3 c.args.tenant.now) all_2 wrote_3 in
    let wrote_4 : WroteAll (g.W.Sink.log c.write_number_line-2.new.out) (g.W.Sink.log c.write_output_line.new.out) (line_4 c.args.tenant.now) = rw (← c.as_slice.ensures) c.in_ok-write_output_line.ensures in
    let all_4 = then_all _ _ _ (lines_3 c.args.tenant.now) (line_4 c.args.tenant.now) all_3 wrote_4 in
    let wrote_5 : WroteAll (g.W.Sink.log c.write_output_line.new.out) (g.W.Sink.log c.write_calls.new.out) (line_5 c.args.tenant.now) = c.in_ok-write_calls.ensures in
    let all_5 = then_all _ _ _ (lines_4 c.args.tenant.now) (line_5 c.args.tenant.now) all_4 wrote_5 in
    then_writes _ _ _ c.write_parts.result (lines_5 c.args.tenant.now) (line_6 c.args.tenant.now) all_5 c.write_parts.ensures
