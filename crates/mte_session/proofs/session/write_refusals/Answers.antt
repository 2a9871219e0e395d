use Rattle.std.proofs.Common.{rules, arith}
use Rattle.mte_session.specs.Sessions.{refused_text}
use Rattle.mte_session.proofs.ReportLemmas.{err_writes, then_all_more, then_part_more}
use Rattle.mte_session.proofs.session.write_refusals.Goals as goal

pub returns-in_err-write_refusal : goal.returns-in_err-write_refusal
returns-in_err-write_refusal g c =
    err_writes _ _ c.from_residual.result _ _ (search rules) (then_part_more _ _ _ refused_text c.args.refused.now c.loop-refusal.refusal-index _ (omega arith) c.loop-refusal.invariant c.in_err-write_refusal.ensures)

pub loop-refusal-preserved : goal.loop-refusal-preserved
loop-refusal-preserved g c =
    then_all_more _ _ _ refused_text c.args.refused.now c.loop-refusal.refusal-index _ (omega arith) c.loop-refusal.invariant c.in_ok-write_refusal.ensures
