use Rattle.std.proofs.Common.{Some, refl}
use Rattle.mte_flat.specs.Inner.Places.{beside_pages}
use Rattle.mte_flat.proofs.Found.{found_slot}
use Rattle.mte_flat.proofs.pages.PagesPageStore.find_code.Goals as goal

pub returns-then-holds-clause-page : goal.returns-then-holds-clause-page
returns-then-holds-clause-page c =
    let p = c.args.self.now in
    found_slot (beside_pages p) p.slots.items c.deref.result.now c.args.page (Some p.finder.code) p.are_slots c.deref.ensures.value (c.if-holds.ensures.0 refl) (λ no. cc)

pub returns-clause-page : goal.returns-clause-page
returns-clause-page c =
    let p = c.args.self.now in
    found_slot (beside_pages p) p.slots.items c.deref-2.result.now c.args.page c.find_other_code.result p.are_slots c.deref-2.ensures.value c.find_other_code.ensures.some c.find_other_code.ensures.none
