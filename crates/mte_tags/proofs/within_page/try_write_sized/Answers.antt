use Rattle.std.proofs.Common.{◌≡◌, ◌∙◌, ◌%◌, ◌+◌, ◌≤◌, sym, ap, subst, length, refl, is_none, true, Some, None, arith, List, ℕ}
use Rattle.std.specs.List.{range_with_len}
use Rattle.std.proofs.lemmas.List.{take_all}
use Rattle.a64_bits.specs.Addresses.{plain}
use Rattle.mte_tags.specs.Memory.{with_page}
use Rattle.mte_tags.specs.Runs.{with_bytes_in}
use Rattle.mte_tags.specs.Accesses.{first_fault, addresses}
use Rattle.mte_tags.specs.Inner.{first_in}
use Rattle.mte_tags.proofs.FoundPages.{page_run_passed, page_replaced}
use Rattle.mte_tags.proofs.within_page.try_write_sized.Goals as goal

pub returns-clause-written : goal.returns-clause-written
returns-clause-written g c =
    let m = g.S.PageStore.memory c.args.store.now in
    let p = g.S.PageStore.page_in c.args.store.now c.in-Some.place in
    let q = g.S.PageStore.number_in c.args.store.now c.in-Some.place in
    let at = plain c.args.addr in
    let bytes = c.args.bytes.now in
    let n = length bytes in
    let x = c.writing-access.result in
    let e = c.plain-at.ensures in
    let all : c.bytes-size.result ≡ n = c.bytes-size.ensures.bytes ∙ sym c.requires.size in
    let inside = subst (λ k. k % 4096 + n ≤ 4096) e (subst (λ k. c.plain-at.result % 4096 + k ≤ 4096) all (c.if-not-fits_one_page.ensures.inside refl)) in
    let passed = subst (λ k. is_none (first_in x (Some p) (range_with_len at k)) ≡ true) all (subst (λ k. is_none (first_in x (Some p) (range_with_len k c.bytes-size.result)) ≡ true) e (sym c.granules_pass.ensures ∙ c.if-not-granules_pass.false)) in
    let whole : lib.ListN.take c.bytes-size.result bytes ≡ bytes = take_all c.bytes-size.result bytes (omega arith) in
    record {
      passed = λ _. subst (λ y. first_fault m y (addresses at n) ≡ None) c.writing-access.ensures (page_run_passed m p at n x c.in-Some.ensures.page inside (search arith) passed);
      memory = c.replace_run.ensures.memory
          ∙ ap (λ (l : List ℕ). with_page m q (with_bytes_in p (c.plain-at.result % 4096) l)) whole
          ∙ ap (λ k. with_page m q (with_bytes_in p (k % 4096) bytes)) e
          ∙ page_replaced m m q p at bytes refl c.in-Some.ensures.number c.in-Some.ensures.page inside (search arith);
    }
