use Rattle.tombolopan_c.proofs.Traced.{has_traced}
use Rattle.tombolopan_c.proofs.traces.tb_run_traced.Goals as goal

pub returns-clause-traced : goal.returns-clause-traced
returns-clause-traced c = λ ok.
    has_traced c.args.request.now _ _ _ _ _ _ c.run_traced-ended.result _ _ _ _
    c.regs-own.ensures.regs
    c.new-memory.ensures.memory
    c.set.ensures
    c.of.ensures.report
    c.run_traced-ended.ensures.traced
    c.run_traced-ended.ensures.within
    c.run_traced-ended.ensures.whole
    c.run_traced-ended.ensures.full
