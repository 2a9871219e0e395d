use Rattle.std.proofs.Common.{◌∙◌, sym, ap, length, Err}
use Rattle.mte_tags.specs.Accesses.{result_of}
use Rattle.mte_tags.proofs.FoundPages.{page_run, page_replaced, fault_missing}
use Rattle.mte_tags.proofs.within_page.write_in_page.Goals as goal

pub returns-in_default-clause-answer : goal.returns-in_default-clause-answer
returns-in_default-clause-answer g c =
    ap (λ f. Err f) c.fault.ensures
    ∙ sym (ap result_of (fault_missing (g.S.PageStore.memory c.args.store.now) c.args.at (length c.args.bytes.now) c.args.access.now c.requires.run.some c.requires.run.inside c.requires.run.plain c.in_default.ensures.page))

pub returns-in-Some-run_fault-clause-answer : goal.returns-in-Some-run_fault-clause-answer
returns-in-Some-run_fault-clause-answer g c =
    ap result_of (c.in-Some-run_fault.ensures ∙ page_run (g.S.PageStore.memory c.args.store.now) _ c.args.at (length c.args.bytes.now) c.args.access.now c.in-Some.ensures.page c.requires.run.inside c.requires.run.plain)

pub returns-clause-answer : goal.returns-clause-answer
returns-clause-answer g c =
    ap result_of (sym c.in_default-run_fault.is ∙ c.run_fault.ensures ∙ page_run (g.S.PageStore.memory c.args.store.now) _ c.args.at (length c.args.bytes.now) c.args.access.now c.in-Some.ensures.page c.requires.run.inside c.requires.run.plain)

pub returns-clause-memory : goal.returns-clause-memory
returns-clause-memory g c =
    c.replace_run.ensures.memory
    ∙ page_replaced (g.S.PageStore.memory c.args.store.now) _ _ _ c.args.at c.args.bytes.now c.in-Some.ensures.memory c.in-Some.ensures.number c.in-Some.ensures.page c.requires.run.inside c.requires.run.plain
