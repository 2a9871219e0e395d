use Rattle.std.proofs.Common.{◌∙◌, sym, ap, subst, map}
use Rattle.mte_flat.specs.Inner.MappedSlots.{mapped_in}
use Rattle.mte_flat.specs.MappedPages.{attrs_in, AreApart}
use Rattle.mte_flat.specs.Inner.Places.{beside_pages}
use Rattle.mte_flat.proofs.PageLists.{mapped_each, mapped_once}
use Rattle.mte_flat.proofs.pages.Pages.mapped_pages.Goals as goal

pub returns-clause-each : goal.returns-clause-each
returns-clause-each c = λ q.
    let f = c.args.self.now in
    ap (λ ps. attrs_in ps q) (c.in_ok-pages.ensures ∙ ap (map mapped_in) c.as_slice.ensures.value) ∙ mapped_each (beside_pages f) f.slots.items q

pub returns-clause-once : goal.returns-clause-once
returns-clause-once c =
    subst AreApart (sym (c.in_ok-pages.ensures ∙ ap (map mapped_in) c.as_slice.ensures.value)) (mapped_once c.args.self.now.slots.items c.args.self.now.are_slots)
