use Rattle.std.proofs.Common.{◌≡◌, ◌==◌, ◌&&◌, true, false, ◌∙◌, refl, sym, ap, is_none, subst}
use Rattle.mte_tags.specs.Memory.{has}
use Rattle.mte_tags.proofs.PageRuns.{uncompared_passes, first_in-tag, short_run_passes}
use Rattle.mte_tags.proofs.page.granules_pass.Goals as goal

pub returns-then-not-is_compared : goal.returns-then-not-is_compared
returns-then-not-is_compared g c =
    let p = g.S.PageStore.page_in c.args.store.now c.args.place in
    sym c.requires.permitted
    ∙ uncompared_passes c.args.access.now p c.args.at c.args.count p.attrs refl c.requires.run.some (subst (λ k. (c.args.access.now.checked && has k 8) ≡ false) c.attrs.ensures (sym c.is_compared.ensures ∙ c.if-not-is_compared.true))

pub returns-then-granule_tag-access : goal.returns-then-granule_tag-access
returns-then-granule_tag-access g c =
    let p = g.S.PageStore.page_in c.args.store.now c.args.place in
    let x = c.args.access.now in
    let compared : (x.checked && has p.attrs 8) ≡ true = subst (λ k. (x.checked && has k 8) ≡ true) c.attrs.ensures (sym c.is_compared.ensures ∙ c.if-not-is_compared.false) in
    sym (ap is_none (first_in-tag x p c.args.at c.args.count c.requires.run.some c.requires.permitted compared (λ e. c.if-granule_tag-access.true (c.granule_tag.ensures.tag ∙ e))))

pub returns : goal.returns
returns g c =
    let p = g.S.PageStore.page_in c.args.store.now c.args.place in
    let x = c.args.access.now in
    let compared : (x.checked && has p.attrs 8) ≡ true = subst (λ k. (x.checked && has k 8) ≡ true) c.attrs.ensures (sym c.is_compared.ensures ∙ c.if-not-is_compared.false) in
    ap (λ t. t == x.tag) c.granule_tag-2.ensures.tag
    ∙ short_run_passes x p c.args.at c.args.count c.requires.run.some c.requires.most c.requires.run.inside c.requires.permitted compared (sym c.granule_tag.ensures.tag ∙ c.if-granule_tag-access.false)
