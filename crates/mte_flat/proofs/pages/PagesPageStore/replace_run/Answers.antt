use Rattle.std.proofs.Common.{◌∙◌}
use Rattle.std.proofs.lemmas.List.{get_or_default}
use Rattle.mte_flat.specs.Inner.Places.{beside_pages, no_slot}
use Rattle.mte_flat.proofs.Found.{slot_replaced}
use Rattle.mte_flat.proofs.pages.PagesPageStore.replace_run.Goals as goal

pub returns-clause-memory : goal.returns-clause-memory
returns-clause-memory c =
    let p = c.args.self.now in
    slot_replaced (beside_pages p) p.slots.items c.args.place c.args.at c.args.bytes.now c.index_mut.result.now c.copy_in.new.self p.are_slots c.requires.place (c.index_mut.ensures.value ∙ get_or_default p.slots.items c.args.place _ no_slot c.requires.place) c.copy_in.ensures
