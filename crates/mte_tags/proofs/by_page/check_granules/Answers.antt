use Rattle.std.proofs.Common.{◌≡◌, ◌∙◌, sym, ap, arith}
use Rattle.mte_tags.specs.Accesses.{result_of, first_fault, granules}
use Rattle.mte_tags.proofs.GranuleLists.{first_fault_by_run}
use Rattle.mte_tags.proofs.by_page.check_granules.Goals as goal

pub returns-in-Some-clause-answer : goal.returns-in-Some-clause-answer
returns-in-Some-clause-answer g c =
    let n = c.min-run.result in
    let v = c.loop-left.invariant in
    sym (ap result_of (v.rest ∙ first_fault_by_run _ _ _ c.loop-left.place n _ _ c.in-Some.ensures.answer v.same c.requires.unchecked (omega (arith, c.min-run.ensures)) (omega (arith, c.min-run.ensures)) v.aligned (omega (arith, c.min-run.ensures)) v.plain))

pub loop-left-preserved : goal.loop-left-preserved
loop-left-preserved g c =
    let n = c.min-run.result in
    let v = c.loop-left.invariant in
    record {
      plain = omega arith;
      aligned = omega arith;
      same = c.fault_of_run.ensures.memory ∙ v.same;
      kept = g.met.S.PageStore.kept_on _ _ _ v.kept c.fault_of_run.ensures.kept;
      rest = v.rest ∙ first_fault_by_run _ _ _ c.loop-left.place n _ _ (sym c.in_default.is ∙ c.fault_of_run.ensures.answer) v.same c.requires.unchecked (omega (arith, c.min-run.ensures)) (omega (arith, c.min-run.ensures)) v.aligned (omega (arith, c.min-run.ensures)) v.plain;
    }

pub returns-clause-answer : goal.returns-clause-answer
unfolding first_fault granules
returns-clause-answer g c =
    let e : c.loop-left.left ≡ 0 = omega arith in
    sym (ap result_of (c.loop-left.invariant.rest ∙ ap (λ k. first_fault (g.S.PageStore.memory c.args.store.now) c.args.access.now (granules c.loop-left.place k)) e))
