use Rattle.std.proofs.Common.{◌<◌, ◌++◌, arith, length, drop, sym, subst, ap, ◌∙◌}
use Rattle.scudo_primary.specs.Inner.{list_at}
use Rattle.scudo_primary.proofs.TableLemmas.{slot-in, place-in}
use Rattle.scudo_primary.proofs.TakingLemmas.{taking-init, taking-next, taking-step, taken, taken-buffer, more-at-first}
use Rattle.scudo_primary.proofs.lists.unlink_batch.Goals as goal

pub loop-more-init : goal.loop-more-init
unfolding list_at
loop-more-init c =
    let m = more-at-first (list_at c.args.lists.now c.args.class).count in
    taking-init _ _ _ _ _ _ _ m.0 m.1

pub place-requires : goal.place-requires
unfolding list_at
place-requires c =
    let next = (taking-next _ _ _ _ _ _ _ _ _ c.requires.table c.requires.class c.loop-more.invariant c.loop-more-test.true).cell in
    record { class = c.requires.class; inside = next.inside; slot = slot-in _ _ _ _ _ c.requires.table.numbered c.requires.class next }

pub bounds-entries-place : goal.bounds-entries-place
unfolding list_at
bounds-entries-place c =
    subst (λ t. t < length c.args.entries.now) (sym c.place.ensures)
    (place-in _ _ _ _ _ c.requires.table.numbered c.requires.class (taking-next _ _ _ _ _ _ _ _ _ c.requires.table c.requires.class c.loop-more.invariant c.loop-more-test.true).cell)

pub bounds-buffer-count : goal.bounds-buffer-count
unfolding list_at
bounds-buffer-count c = (taking-next _ _ _ _ _ _ _ _ _ c.requires.table c.requires.class c.loop-more.invariant c.loop-more-test.true).fits

pub loop-more-preserved : goal.loop-more-preserved
unfolding list_at
loop-more-preserved c =
    let fits = (taking-next _ _ _ _ _ _ _ _ _ c.requires.table c.requires.class c.loop-more.invariant c.loop-more-test.true).fits in
    let room = c.loop-more.invariant.room in
    taking-step _ _ _ _ _ _ _ _ _ _ _ _ c.loop-more.invariant c.loop-more-test.true (omega arith) c.place.ensures c.goes_on-more.ensures

pub returns-clause-count : goal.returns-clause-count
unfolding list_at
returns-clause-count c = (c.loop-more.invariant.ends c.loop-more-test.false).0

pub returns-clause-buffer : goal.returns-clause-buffer
unfolding list_at
returns-clause-buffer c =
    ap (λ t. t ++ drop c.loop-more.count c.loop-more.buffer) c.reverse.ensures.after
    ∙ taken-buffer _ _ _ (list_at c.args.lists.now c.args.class) _ _ _ _ _ c.loop-more.invariant c.loop-more-test.false

pub returns-clause-rest : goal.returns-clause-rest
unfolding list_at
returns-clause-rest c = taken _ _ _ _ _ _ _ _ _ c.requires.table c.requires.class c.loop-more.invariant c.loop-more-test.false
