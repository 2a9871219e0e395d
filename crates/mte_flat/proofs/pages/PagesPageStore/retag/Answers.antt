use Rattle.std.proofs.Common.{◌∙◌}
use Rattle.std.proofs.lemmas.List.{get_or_default}
use Rattle.mte_flat.specs.Inner.Places.{beside_pages, no_slot}
use Rattle.mte_flat.proofs.Found.{slot_retagged}
use Rattle.mte_flat.proofs.pages.PagesPageStore.retag.Goals as goal

pub returns-clause-memory : goal.returns-clause-memory
returns-clause-memory c =
    let p = c.args.self.now in
    slot_retagged (beside_pages p) p.slots.items c.args.place c.args.first c.args.count c.args.tag c.args.zero c.index_mut.result.now c.retag.new.self p.are_slots c.requires.place (c.index_mut.ensures.value ∙ get_or_default p.slots.items c.args.place _ no_slot c.requires.place) c.retag.ensures.page c.retag.ensures.small c.retag.ensures.holds
