use Rattle.std.proofs.Common.{◌≡◌, ◌∙◌, sym, rules, arith, get_or}
use Rattle.std.proofs.lemmas.Option.{get_or_from_slice_get}
use Rattle.mte_streams.specs.Writing.{WroteAll, WrotePart}
use Rattle.mte_svc.specs.declared.calls.AnsweredCall.{AnsweredCall}
use Rattle.mte_session.specs.Report.{call_line}
use Rattle.mte_session.proofs.ReportLemmas.{err_writes, then_all_more, then_part_more}
use Rattle.mte_session.proofs.calls.write_kept_calls.Goals as goal

pub returns-in_err-write_call : goal.returns-in_err-write_call
returns-in_err-write_call g c =
    let call : AnsweredCall = c.in-Some.call in
    let there : get_or c.args.calls.now.last c.loop-i.i call ≡ call = get_or_from_slice_get c.args.calls.now.last c.loop-i.i call call (sym c.get.ensures ∙ c.in-Some.is) in
    let part : WrotePart (g.W.Sink.log c.loop-i.out) (g.W.Sink.log c.write_call.new.out) (call_line (get_or c.args.calls.now.last c.loop-i.i call)) = rw there c.in_err-write_call.ensures in
    err_writes _ _ c.from_residual.result _ _ (search rules) (then_part_more _ _ _ call_line c.args.calls.now.last c.loop-i.i call (omega arith) c.loop-i.invariant.wrote part)

pub loop-i-preserved : goal.loop-i-preserved
loop-i-preserved g c =
    let call : AnsweredCall = c.in-Some.call in
    let there : get_or c.args.calls.now.last c.loop-i.i call ≡ call = get_or_from_slice_get c.args.calls.now.last c.loop-i.i call call (sym c.get.ensures ∙ c.in-Some.is) in
    let all : WroteAll (g.W.Sink.log c.loop-i.out) (g.W.Sink.log c.write_call.new.out) (call_line (get_or c.args.calls.now.last c.loop-i.i call)) = rw there c.in_ok-write_call.ensures in
    record {
      within = omega arith;
      wrote = then_all_more _ _ _ call_line c.args.calls.now.last c.loop-i.i call (omega arith) c.loop-i.invariant.wrote all;
    }
