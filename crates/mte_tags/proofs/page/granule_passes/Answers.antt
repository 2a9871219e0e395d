use Rattle.std.proofs.Common.{◌≡◌, ◌==◌, ◌&&◌, true, false, ◌∙◌, refl, sym, ap, subst}
use Rattle.mte_tags.specs.Memory.{has}
use Rattle.mte_tags.proofs.PageRuns.{uncompared_passes, granule_passes}
use Rattle.mte_tags.proofs.page.granule_passes.Goals as goal

pub returns-then-not-is_compared : goal.returns-then-not-is_compared
returns-then-not-is_compared g c =
    let p = g.S.PageStore.page_in c.args.store.now c.args.place in
    sym c.requires.permitted
    ∙ uncompared_passes c.args.access.now p c.args.at c.args.count p.attrs refl c.requires.some (subst (λ k. (c.args.access.now.checked && has k 8) ≡ false) c.attrs.ensures (sym c.is_compared.ensures ∙ c.if-not-is_compared.true))

pub returns : goal.returns
returns g c =
    let p = g.S.PageStore.page_in c.args.store.now c.args.place in
    let x = c.args.access.now in
    let compared : (x.checked && has p.attrs 8) ≡ true = subst (λ k. (x.checked && has k 8) ≡ true) c.attrs.ensures (sym c.is_compared.ensures ∙ c.if-not-is_compared.false) in
    ap (λ t. t == x.tag) c.granule_tag.ensures.tag
    ∙ granule_passes x p c.args.at c.args.count c.requires.some c.requires.inside c.requires.permitted compared
