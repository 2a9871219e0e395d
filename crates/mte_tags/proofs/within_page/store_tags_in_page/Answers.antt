use Rattle.std.proofs.Common.{◌∙◌, sym, ap, Err}
use Rattle.mte_tags.specs.Accesses.{result_of}
use Rattle.mte_tags.proofs.FoundPages.{page_granules, granules_fault_missing, page_retagged_at}
use Rattle.mte_tags.proofs.within_page.store_tags_in_page.Goals as goal

pub returns-in_default-clause-answer : goal.returns-in_default-clause-answer
returns-in_default-clause-answer g c =
    ap (λ f. Err f) c.fault.ensures
    ∙ sym (ap result_of (granules_fault_missing (g.S.PageStore.memory c.args.store.now) c.args.at c.args.count c.args.access.now c.requires.unchecked c.requires.some c.requires.aligned c.requires.inside c.requires.plain c.in_default.ensures.page))

pub returns-in-Some-run_fault-clause-answer : goal.returns-in-Some-run_fault-clause-answer
returns-in-Some-run_fault-clause-answer g c =
    ap result_of (c.in-Some-run_fault.ensures
    ∙ page_granules (g.S.PageStore.memory c.args.store.now) _ c.args.at c.args.count c.args.access.now c.in-Some.ensures.page c.requires.unchecked c.requires.some c.requires.aligned c.requires.inside c.requires.plain)

pub returns-clause-answer : goal.returns-clause-answer
returns-clause-answer g c =
    ap result_of (sym c.in_default-run_fault.is ∙ c.run_fault.ensures
    ∙ page_granules (g.S.PageStore.memory c.args.store.now) _ c.args.at c.args.count c.args.access.now c.in-Some.ensures.page c.requires.unchecked c.requires.some c.requires.aligned c.requires.inside c.requires.plain)

pub returns-clause-memory : goal.returns-clause-memory
returns-clause-memory g c =
    c.retag.ensures.memory
    ∙ page_retagged_at (g.S.PageStore.memory c.args.store.now) _ _ _ c.args.at c.args.count c.args.tag c.args.zero c.in-Some.ensures.memory c.in-Some.ensures.number c.in-Some.ensures.page c.requires.aligned c.requires.inside c.requires.plain c.retag.ensures.long
