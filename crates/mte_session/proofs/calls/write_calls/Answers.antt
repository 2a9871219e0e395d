use Rattle.std.proofs.Common.{rules, codes, map}
use Rattle.std.specs.List.{concat}
use Rattle.mte_streams.specs.Writing.{WroteAll, WrotePart}
use Rattle.mte_session.specs.Report.{number_line, call_line}
use Rattle.mte_session.proofs.ReportLemmas.{err_writes, then_writes, part_more}
use Rattle.mte_session.proofs.calls.write_calls.Goals as goal

pub returns-in_err-write_number_line : goal.returns-in_err-write_number_line
returns-in_err-write_number_line g c =
    let part : WrotePart (g.W.Sink.log c.args.out.now) (g.W.Sink.log c.write_number_line.new.out) (number_line (codes "heap ") c.args.calls.now.count) = rw (← c.count.ensures) c.in_err-write_number_line.ensures in
    err_writes _ _ c.from_residual.result _ _ (search rules) (part_more _ _ (number_line (codes "heap ") c.args.calls.now.count) (concat (map call_line c.args.calls.now.last)) part)

pub returns : goal.returns
returns g c =
    let all : WroteAll (g.W.Sink.log c.args.out.now) (g.W.Sink.log c.write_number_line.new.out) (number_line (codes "heap ") c.args.calls.now.count) = rw (← c.count.ensures) c.in_ok-write_number_line.ensures in
    then_writes _ _ _ c.write_kept_calls.result (number_line (codes "heap ") c.args.calls.now.count) (concat (map call_line c.args.calls.now.last)) all c.write_kept_calls.ensures
