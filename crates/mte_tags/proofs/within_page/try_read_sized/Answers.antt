use Rattle.std.proofs.Common.{◌≡◌, ◌∙◌, ◌++◌, ◌%◌, ◌+◌, ◌≤◌, sym, ap, subst, length, refl, is_none, true, Some, None, slice_range, arith}
use Rattle.std.specs.List.{range_with_len}
use Rattle.std.proofs.lemmas.List.{append-nil, drop_all, take_all}
use Rattle.a64_bits.specs.Addresses.{plain}
use Rattle.mte_tags.specs.Accesses.{first_fault, addresses}
use Rattle.mte_tags.specs.Inner.{first_in}
use Rattle.mte_tags.proofs.FoundPages.{page_run_passed, page_read}
use Rattle.mte_tags.proofs.within_page.try_read_sized.Goals as goal

pub returns-clause-read : goal.returns-clause-read
returns-clause-read g c =
    let m = g.S.PageStore.memory c.args.store.now in
    let p = g.S.PageStore.page_in c.args.store.now c.in-Some.place in
    let at = plain c.args.addr in
    let n = length c.args.buffer.now in
    let x = c.reading-access.result in
    let e = c.plain-at.ensures in
    let all : c.bytes-size.result ≡ n = c.bytes-size.ensures.bytes ∙ sym c.requires.size in
    let piece = c.copy_out.new.buffer in
    let inside = subst (λ k. k % 4096 + n ≤ 4096) e (subst (λ k. c.plain-at.result % 4096 + k ≤ 4096) all (c.if-not-fits_one_page.ensures.inside refl)) in
    let passed = subst (λ k. is_none (first_in x (Some p) (range_with_len at k)) ≡ true) all (subst (λ k. is_none (first_in x (Some p) (range_with_len k c.bytes-size.result)) ≡ true) e (sym c.granules_pass.ensures ∙ c.if-not-granules_pass.false)) in
    let rest : piece ++ lib.ListN.drop c.bytes-size.result c.args.buffer.now ≡ piece =
    ap (λ r. piece ++ r) (drop_all c.bytes-size.result c.args.buffer.now (omega arith)) ∙ append-nil piece in
    record {
      passed = λ _. subst (λ y. first_fault m y (addresses at n) ≡ None) c.reading-access.ensures (page_run_passed m p at n x c.in-Some.ensures.page inside (search arith) passed);
      bytes = rest ∙ page_read m p at n n piece c.in-Some.ensures.page inside (search arith) (search arith) refl (search arith);
      memory = refl;
    }
