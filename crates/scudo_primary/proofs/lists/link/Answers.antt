use Rattle.std.proofs.Common.{◌<◌, arith, length, sym, subst}
use Rattle.scudo_primary.specs.Inner.{list_at}
use Rattle.scudo_primary.proofs.BlockLemmas.{block-IsCell}
use Rattle.scudo_primary.proofs.TableLemmas.{slot-in, place-in}
use Rattle.scudo_primary.proofs.LinkLemmas.{linked, block-below, count-below}
use Rattle.scudo_primary.proofs.lists.link.Goals as goal

pub place-at-requires : goal.place-at-requires
place-at-requires c =
    let r = c.requires in
    record { class = r.class; inside = r.block.inside; slot = slot-in _ _ _ _ _ r.table.numbered r.class (block-IsCell _ _ _ r.class r.block) }

pub bounds-entries-at : goal.bounds-entries-at
bounds-entries-at c =
    let r = c.requires in
    subst (λ t. t < length c.args.entries.now) (sym c.place-at.ensures) (place-in _ _ _ _ _ r.table.numbered r.class (block-IsCell _ _ _ r.class r.block))

pub overflow_add-lists : goal.overflow_add-lists
unfolding list_at
overflow_add-lists c = let r = c.requires in let s = count-below _ _ _ _ r.table r.class in omega arith

pub overflow_cast-lists : goal.overflow_cast-lists
overflow_cast-lists c = let r = c.requires in let s = block-below _ _ _ r.class (r.table.numbered.few _ r.class) r.block in omega arith

pub returns : goal.returns
unfolding list_at
returns c =
    let r = c.requires in
    linked _ _ _ _ _ _ _ r.table r.class r.block r.unlisted r.room c.place-at.ensures
