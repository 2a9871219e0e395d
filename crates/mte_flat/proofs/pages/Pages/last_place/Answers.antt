use Rattle.std.proofs.Common.{◌≡◌, ◌/◌, Some, refl, subst}
use Rattle.mte_tags.specs.Memory.{page_at}
use Rattle.mte_flat.specs.Inner.Places.{memory_of, page_in, beside_pages}
use Rattle.mte_flat.proofs.Found.{found_slot}
use Rattle.mte_flat.proofs.pages.Pages.last_place.Goals as goal

pub returns-then-plain-size-clause-page : goal.returns-then-plain-size-clause-page
returns-then-plain-size-clause-page c =
    let p = c.args.self.now in
    let i = c.last-place.result in
    subst (λ k. page_at (memory_of p) (k / 4096) ≡ Some (page_in p i)) c.plain-page.ensures
    (found_slot (beside_pages p) p.slots.items c.deref.result.now (c.plain-page.result / 4096) (Some i) p.are_slots c.deref.ensures.value (c.if-holds.ensures.0 refl) (λ no. cc))
