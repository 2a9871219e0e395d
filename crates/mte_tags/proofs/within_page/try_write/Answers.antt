use Rattle.std.proofs.Common.{◌≡◌, ◌∙◌, ◌%◌, sym, ap, subst, length, refl, is_none, true, Some, None, arith}
use Rattle.std.specs.List.{range_with_len}
use Rattle.a64_bits.specs.Addresses.{plain}
use Rattle.mte_tags.specs.Memory.{with_page}
use Rattle.mte_tags.specs.Runs.{with_bytes_in}
use Rattle.mte_tags.specs.Accesses.{first_fault, addresses}
use Rattle.mte_tags.specs.Inner.{first_in}
use Rattle.mte_tags.proofs.PageRuns.{granule_in_page}
use Rattle.mte_tags.proofs.FoundPages.{page_run_passed, page_replaced}
use Rattle.mte_tags.proofs.within_page.try_write.Goals as goal

pub returns-clause-written : goal.returns-clause-written
returns-clause-written g c =
    let m = g.S.PageStore.memory c.args.store.now in
    let p = g.S.PageStore.page_in c.args.store.now c.in-Some.place in
    let q = g.S.PageStore.number_in c.args.store.now c.in-Some.place in
    let at = plain c.args.addr in
    let n = length c.args.bytes.now in
    let x = c.writing-access.result in
    let e = c.plain-at.ensures in
    let inside = granule_in_page at n c.in-Some.ensures.inside in
    let passed = subst (λ k. is_none (first_in x (Some p) (range_with_len k n)) ≡ true) e (sym c.granule_passes.ensures ∙ c.if-not-granule_passes.false) in
    record {
      passed = λ _. subst (λ y. first_fault m y (addresses at n) ≡ None) c.writing-access.ensures (page_run_passed m p at n x c.in-Some.ensures.page inside (search arith) passed);
      memory = c.replace_run.ensures.memory ∙ ap (λ k. with_page m q (with_bytes_in p (k % 4096) c.args.bytes.now)) e ∙ page_replaced m m q p at c.args.bytes.now refl c.in-Some.ensures.number c.in-Some.ensures.page inside (search arith);
    }
