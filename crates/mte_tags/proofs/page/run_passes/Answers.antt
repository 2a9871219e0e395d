use Rattle.std.proofs.Common.{◌≡◌, false, true, ◌∙◌, sym, subst}
use Rattle.mte_tags.specs.Memory.{has}
use Rattle.mte_tags.proofs.PageRuns.{refused_passes}
use Rattle.mte_tags.proofs.page.run_passes.Goals as goal

pub granules_pass-requires-clause-permitted : goal.granules_pass-requires-clause-permitted
granules_pass-requires-clause-permitted g c =
    subst (λ k. has k c.args.access.now.need ≡ true) c.attrs.ensures (sym c.is_permitted.ensures ∙ c.if-not-is_permitted.false)

pub returns-then-not-is_permitted : goal.returns-then-not-is_permitted
returns-then-not-is_permitted g c =
    let p = g.S.PageStore.page_in c.args.store.now c.args.place in
    let refused = sym c.is_permitted.ensures ∙ c.if-not-is_permitted.true in
    sym refused ∙ refused_passes c.args.access.now p c.args.at c.args.count _ c.attrs.ensures c.requires.run.some refused
