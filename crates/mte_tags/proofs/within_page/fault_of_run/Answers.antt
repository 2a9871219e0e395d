use Rattle.std.proofs.Common.{◌∙◌, sym, ap, Some}
use Rattle.mte_tags.proofs.FoundPages.{page_run, fault_missing}
use Rattle.mte_tags.proofs.within_page.fault_of_run.Goals as goal

pub returns-in-None-clause-answer : goal.returns-in-None-clause-answer
returns-in-None-clause-answer g c =
    ap (λ v. Some v) c.fault.ensures
    ∙ sym (fault_missing (g.S.PageStore.memory c.args.store.now) c.args.at c.args.count c.args.access.now c.requires.run.some c.requires.run.inside c.requires.run.plain c.in-None.ensures.page)

pub returns-in-Some-clause-answer : goal.returns-in-Some-clause-answer
returns-in-Some-clause-answer g c =
    c.run_fault.ensures
    ∙ page_run (g.S.PageStore.memory c.args.store.now) _ c.args.at c.args.count c.args.access.now c.in-Some.ensures.page c.requires.run.inside c.requires.run.plain
