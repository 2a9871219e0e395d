use Rattle.std.proofs.Common.{◌∙◌, sym, ap, Err, Ok}
use Rattle.mte_tags.specs.Memory.{tag_at}
use Rattle.mte_tags.specs.Accesses.{tag_result}
use Rattle.mte_tags.proofs.FoundPages.{page_byte, page_tag, byte_fault_missing}
use Rattle.mte_tags.proofs.within_page.granule_tag_at.Goals as goal

pub returns-in_default-clause-answer : goal.returns-in_default-clause-answer
returns-in_default-clause-answer g c =
    let m = g.S.PageStore.memory c.args.store.now in
    ap (λ f. Err f) c.fault.ensures
    ∙ sym (ap (λ o. tag_result o (tag_at m c.args.at)) (byte_fault_missing m c.args.at c.args.access.now c.in_default.ensures.page))

pub returns-in-Some-run_fault-clause-answer : goal.returns-in-Some-run_fault-clause-answer
returns-in-Some-run_fault-clause-answer g c =
    let m = g.S.PageStore.memory c.args.store.now in
    ap (λ o. tag_result o (tag_at m c.args.at)) (c.in-Some-run_fault.ensures ∙ page_byte m _ c.args.at c.args.access.now c.in-Some.ensures.page c.requires)

pub returns-clause-answer : goal.returns-clause-answer
returns-clause-answer g c =
    let m = g.S.PageStore.memory c.args.store.now in
    ap (λ t. Ok t) (c.tag_in_page.ensures.tag ∙ sym (page_tag m _ c.args.at c.in-Some.ensures.page))
    ∙ ap (λ o. tag_result o (tag_at m c.args.at)) (sym c.in_default-run_fault.is ∙ c.run_fault.ensures ∙ page_byte m _ c.args.at c.args.access.now c.in-Some.ensures.page c.requires)
