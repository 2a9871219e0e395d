use Rattle.std.proofs.Common.{◌≡◌, ◌∙◌, ◌+◌, ◌%◌, sym, subst, length, refl, is_none, true, Some, None, slice_range, arith}
use Rattle.std.specs.List.{range_with_len}
use Rattle.a64_bits.specs.Addresses.{plain}
use Rattle.mte_tags.specs.Accesses.{first_fault, addresses}
use Rattle.mte_tags.specs.Inner.{first_in}
use Rattle.mte_tags.proofs.PageRuns.{granule_in_page}
use Rattle.mte_tags.proofs.FoundPages.{page_run_passed, page_read}
use Rattle.mte_tags.proofs.within_page.try_read.Goals as goal

pub returns-clause-read : goal.returns-clause-read
returns-clause-read g c =
    let m = g.S.PageStore.memory c.args.store.now in
    let p = g.S.PageStore.page_in c.args.store.now c.in-Some.place in
    let at = plain c.args.addr in
    let n = length c.args.buffer.now in
    let x = c.reading-access.result in
    let e = c.plain-at.ensures in
    let inside = granule_in_page at n c.in-Some.ensures.inside in
    let passed = subst (λ k. is_none (first_in x (Some p) (range_with_len k n)) ≡ true) e (sym c.granule_passes.ensures ∙ c.if-not-granule_passes.false) in
    record {
      passed = λ _. subst (λ y. first_fault m y (addresses at n) ≡ None) c.reading-access.ensures (page_run_passed m p at n x c.in-Some.ensures.page inside (search arith) passed);
      bytes = page_read m p at n n c.copy_out.new.buffer c.in-Some.ensures.page inside (search arith) c.copy_out.auto.buffer refl (subst (λ k. c.copy_out.new.buffer ≡ slice_range p.bytes (k % 4096) (k % 4096 + n)) e c.copy_out.ensures.bytes);
      memory = refl;
    }
