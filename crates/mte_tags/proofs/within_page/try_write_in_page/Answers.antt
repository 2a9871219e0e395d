use Rattle.std.proofs.Common.{◌∙◌, sym, length, refl, arith}
use Rattle.mte_tags.proofs.FoundPages.{page_run_passed, page_replaced}
use Rattle.mte_tags.proofs.SameAccess.{written_or_left_as}
use Rattle.mte_tags.proofs.within_page.try_write_in_page.Goals as goal

pub returns-clause-written : goal.returns-clause-written
returns-clause-written g c =
    let m = g.S.PageStore.memory c.args.store.now in
    let at = c.plain-at.result in
    let n = length c.args.bytes.now in
    let inside = c.if-not-fits_one_page.ensures.inside refl in
    written_or_left_as _ _ _ _ _ _ c.writing-access.ensures c.plain-at.ensures _ _ record {
      passed = λ _. page_run_passed m _ at n c.writing-access.result c.in-Some.ensures.page inside (search arith) (sym c.run_passes.ensures ∙ c.if-not-run_passes.false);
      memory = c.replace_run.ensures.memory ∙ page_replaced m _ _ _ at c.args.bytes.now c.in-Some.ensures.memory c.in-Some.ensures.number c.in-Some.ensures.page inside (search arith);
    }
