use Rattle.std.proofs.Common.{◌≡◌, ◌&&◌, true, false, ◌∙◌, sym, subst}
use Rattle.mte_tags.specs.Memory.{has}
use Rattle.mte_tags.proofs.PageRuns.{first_in-refused, first_in-untagged}
use Rattle.mte_tags.proofs.page.run_fault.Goals as goal

pub returns-then-not-is_permitted : goal.returns-then-not-is_permitted
returns-then-not-is_permitted g c =
    let p = g.S.PageStore.page_in c.args.store.now c.args.place in
    let x = c.args.access.now in
    let refused : has p.attrs x.need ≡ false = subst (λ k. has k x.need ≡ false) c.attrs-attrs.ensures (sym c.is_permitted.ensures ∙ c.if-not-is_permitted.true) in
    let e = first_in-refused x p c.args.at c.args.count c.requires.run.some refused in
    cc (e, c.fault.ensures)

pub returns-then-not-is_compared : goal.returns-then-not-is_compared
returns-then-not-is_compared g c =
    let p = g.S.PageStore.page_in c.args.store.now c.args.place in
    let x = c.args.access.now in
    let permitted = subst (λ k. has k x.need ≡ true) c.attrs-attrs.ensures (sym c.is_permitted.ensures ∙ c.if-not-is_permitted.false) in
    let plain = subst (λ k. (x.checked && has k 8) ≡ false) c.attrs-attrs.ensures (sym c.is_compared.ensures ∙ c.if-not-is_compared.true) in
    sym (first_in-untagged x p c.args.at c.args.count permitted plain)
