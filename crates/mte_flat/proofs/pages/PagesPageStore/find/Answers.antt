use Rattle.mte_flat.specs.Inner.Places.{beside_pages}
use Rattle.mte_flat.proofs.Found.{found_slot}
use Rattle.mte_flat.proofs.pages.PagesPageStore.find.Goals as goal

pub returns-clause-page : goal.returns-clause-page
returns-clause-page c =
    let p = c.args.self.now in
    found_slot (beside_pages p) p.slots.items c.deref.result.now c.args.page c.find.result p.are_slots c.deref.ensures.value c.find.ensures.some c.find.ensures.none
