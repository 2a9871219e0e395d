use Rattle.std.proofs.Common.{◌<◌, List, ℕ, arith, ap, length, sym, subst, slice_get}
use Rattle.scudo_primary.specs.Inner.{list_at}
use Rattle.scudo_primary.proofs.TableLemmas.{slot-in, place-in}
use Rattle.scudo_primary.proofs.LinkLemmas.{top-of, unlink-done, unlink-unlisted}
use Rattle.scudo_primary.proofs.lists.unlink.Goals as goal

pub place-requires : goal.place-requires
unfolding list_at
place-requires c = let r = c.requires in
    let top = (top-of _ _ _ _ r.table r.class r.some).cell in
    record { class = r.class; inside = top.inside; slot = slot-in _ _ _ _ _ r.table.numbered r.class top }

pub bounds-entries-place : goal.bounds-entries-place
unfolding list_at
bounds-entries-place c =
    let r = c.requires in
    subst (λ t. t < length c.args.entries.now) (sym c.place.ensures) (place-in _ _ _ _ _ r.table.numbered r.class (top-of _ _ _ _ r.table r.class r.some).cell)

pub set_mark-requires-clause-number : goal.set_mark-requires-clause-number
unfolding list_at
set_mark-requires-clause-number c = let r = c.requires in
    let top = (top-of _ _ _ _ r.table r.class r.some).cell in
    record { class = r.class; inside = top.inside; slot = slot-in _ _ _ _ _ r.table.numbered r.class top }

pub set_mark-requires-clause-place : goal.set_mark-requires-clause-place
unfolding list_at
set_mark-requires-clause-place c = let r = c.requires in place-in _ _ _ _ _ r.table.numbered r.class (top-of _ _ _ _ r.table r.class r.some).cell

pub overflow_sub-lists : goal.overflow_sub-lists
unfolding list_at
overflow_sub-lists c = let s = c.requires.some in omega arith

pub returns-clause-top : goal.returns-clause-top
unfolding list_at
returns-clause-top c = let r = c.requires in ap (λ (t : List ℕ). slice_get t 0) (top-of _ _ _ _ r.table r.class r.some).stack

pub returns-clause-block : goal.returns-clause-block
unfolding list_at
returns-clause-block c = let r = c.requires in (top-of _ _ _ _ r.table r.class r.some).block

pub returns-clause-unlisted : goal.returns-clause-unlisted
unfolding list_at
returns-clause-unlisted c =
    let r = c.requires in
    unlink-unlisted _ _ _ _ _ _ r.table r.class r.some (unlink-done _ _ _ _ _ _ r.table r.class r.some c.place.ensures c.set_mark.ensures)

pub returns-clause-rest : goal.returns-clause-rest
unfolding list_at
returns-clause-rest c =
    let r = c.requires in
    unlink-done _ _ _ _ _ _ r.table r.class r.some c.place.ensures c.set_mark.ensures
