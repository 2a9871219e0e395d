use Rattle.std.proofs.Common.{◌∙◌, sym, length, refl, arith}
use Rattle.mte_tags.proofs.FoundPages.{page_run_passed, page_read}
use Rattle.mte_tags.proofs.SameAccess.{read_or_left_as}
use Rattle.mte_tags.proofs.within_page.try_read_in_page.Goals as goal

pub returns-clause-read : goal.returns-clause-read
returns-clause-read g c =
    let m = g.S.PageStore.memory c.args.store.now in
    let at = c.plain-at.result in
    let n = length c.args.buffer.now in
    let inside = c.if-not-fits_one_page.ensures.inside refl in
    read_or_left_as _ _ _ _ _ _ c.reading-access.ensures c.plain-at.ensures _ _ _ record {
      passed = λ _. page_run_passed m _ at n c.reading-access.result c.in-Some.ensures.page inside (search arith) (sym c.run_passes.ensures ∙ c.if-not-run_passes.false);
      bytes = page_read m _ at n _ c.copy_out.new.buffer c.in-Some.ensures.page inside (search arith) c.copy_out.auto.buffer refl c.copy_out.ensures.bytes;
      memory = c.in-Some.ensures.memory;
    }
