use Rattle.std.proofs.Common.{◌∙◌, sym, ap, Err, Ok}
use Rattle.mte_tags.specs.Accesses.{fetch_cases}
use Rattle.mte_tags.proofs.FoundPages.{fetch_missing, page_fetched, page_word}
use Rattle.mte_tags.proofs.within_page.fetch_aligned.Goals as goal

pub returns-in_default-clause-answer : goal.returns-in_default-clause-answer
returns-in_default-clause-answer g c =
    ap (λ f. Err f) c.fault.ensures
    ∙ fetch_missing (g.S.PageStore.memory c.args.store.now) c.args.pc c.plain-at.result c.fetching-access.result c.requires.aligned c.plain-at.ensures c.fetching-access.ensures c.in_default.ensures.page

pub returns-in-Some-run_fault-clause-answer : goal.returns-in-Some-run_fault-clause-answer
returns-in-Some-run_fault-clause-answer g c =
    let m = g.S.PageStore.memory c.args.store.now in
    ap (fetch_cases m c.args.pc) c.in-Some-run_fault.ensures
    ∙ page_fetched m _ c.args.pc c.plain-at.result c.fetching-access.result c.in-Some.ensures.page c.requires.aligned c.plain-at.ensures c.fetching-access.ensures

pub returns-clause-answer : goal.returns-clause-answer
returns-clause-answer g c =
    let m = g.S.PageStore.memory c.args.store.now in
    ap (λ w. Ok w) (c.word_in_page.ensures.word ∙ page_word m _ c.args.pc c.plain-at.result c.in-Some.ensures.page c.requires.aligned c.plain-at.ensures c.word_in_page.ensures.long)
    ∙ ap (fetch_cases m c.args.pc) (sym c.in_default-run_fault.is ∙ c.run_fault.ensures)
    ∙ page_fetched m _ c.args.pc c.plain-at.result c.fetching-access.result c.in-Some.ensures.page c.requires.aligned c.plain-at.ensures c.fetching-access.ensures
