use Rattle.std.proofs.Common.{◌*◌, ◌/◌, ap, arith}
use Rattle.common.specs.declared.limits.TheConstants.{PAGE_SIZE}
use Rattle.scudo_primary.specs.Inner.{list_at}
use Rattle.scudo_primary.proofs.FillLemmas.{filled-pool}
use Rattle.scudo_primary.proofs.WidenLemmas.{filled-ready, ready-wide, old-below, carve-bounds, carve-all, carve-end, carve-invariant, carve-view}
use Rattle.scudo_primary.proofs.pool.Primary.carve.Goals as goal

pub overflow_add-own : goal.overflow_add-own
unfolding list_at
overflow_add-own c =
    let b = carve-bounds c.self.inside c.args.self.now _ c.args.pages c.self.view_is c.self.invariant c.requires.class c.requires.room in
    let x = b.fits in
    let z = b.limit in
    omega arith

pub overflow_mul-own : goal.overflow_mul-own
unfolding list_at
overflow_mul-own c =
    let b = carve-bounds c.self.inside c.args.self.now _ c.args.pages c.self.view_is c.self.invariant c.requires.class c.requires.room in
    let x = b.fits in
    let z = b.limit in
    omega arith

pub fill_up-requires-2 : goal.fill_up-requires-2
unfolding list_at
fill_up-requires-2 c =
    let b = carve-bounds c.self.inside c.args.self.now _ c.args.pages c.self.view_is c.self.invariant c.requires.class c.requires.room in
    let x = b.fits in
    let y = b.slots in
    omega arith

pub overflow_mul-list : goal.overflow_mul-list
unfolding list_at
overflow_mul-list c =
    let b = carve-bounds c.self.inside c.args.self.now _ c.args.pages c.self.view_is c.self.invariant c.requires.class c.requires.room in
    let x = b.fits in
    let z = b.limit in
    omega arith

pub overflow_mul-own-2 : goal.overflow_mul-own-2
unfolding list_at
overflow_mul-own-2 c =
    let b = carve-bounds c.self.inside c.args.self.now _ c.args.pages c.self.view_is c.self.invariant c.requires.class c.requires.room in
    let x = b.fits in
    let z = b.limit in
    omega arith

pub link_new-requires-clause-table : goal.link_new-requires-clause-table
unfolding list_at
link_new-requires-clause-table c =
    (ready-wide _ _ _ _ _ _ _ _ (filled-ready _ _ _ _ _ _ c.number_pages.new.numbers _ _ _ c.self.view_is c.self.invariant c.requires.class c.requires.room c.fill_up.ensures c.fill_up-2.ensures
    c.deref_mut-2.ensures.value c.deref_mut-2.ensures.len c.deref_mut.ensures.value c.deref_mut.ensures.len c.deref.ensures.value c.number_pages.ensures)).table

pub link_new-requires-clause-all : goal.link_new-requires-clause-all
unfolding list_at
link_new-requires-clause-all c =
    carve-all _ _ _ _ _ _ _ _ _ (filled-ready _ _ _ _ _ _ c.number_pages.new.numbers _ _ _ c.self.view_is c.self.invariant c.requires.class c.requires.room c.fill_up.ensures c.fill_up-2.ensures
    c.deref_mut-2.ensures.value c.deref_mut-2.ensures.len c.deref_mut.ensures.value c.deref_mut.ensures.len c.deref.ensures.value c.number_pages.ensures) c.size_of_class-size.ensures.size

pub link_new-requires-clause-new : goal.link_new-requires-clause-new
unfolding list_at
link_new-requires-clause-new c =
    old-below _ _ _ _ _ _ _ _ _ (filled-ready _ _ _ _ _ _ c.number_pages.new.numbers _ _ _ c.self.view_is c.self.invariant c.requires.class c.requires.room c.fill_up.ensures c.fill_up-2.ensures
    c.deref_mut-2.ensures.value c.deref_mut-2.ensures.len c.deref_mut.ensures.value c.deref_mut.ensures.len c.deref.ensures.value c.number_pages.ensures)
    (ap (λ s. PAGE_SIZE * (list_at c.self.inside.lists c.args.class).pages / s) c.size_of_class-size.ensures.size)

pub invariant_of-self : goal.invariant_of-self
unfolding list_at
invariant_of-self c =
    carve-invariant _ _ _ _ _ _ _ _ _ _ _ (filled-ready _ _ _ _ _ _ c.number_pages.new.numbers _ _ _ c.self.view_is c.self.invariant c.requires.class c.requires.room c.fill_up.ensures c.fill_up-2.ensures
    c.deref_mut-2.ensures.value c.deref_mut-2.ensures.len c.deref_mut.ensures.value c.deref_mut.ensures.len c.deref.ensures.value c.number_pages.ensures)
    (filled-pool _ _ _ _ _ c.fill_up.ensures c.fill_up-2.ensures c.self.invariant) c.link_new.ensures

pub returns : goal.returns
unfolding list_at
returns c =
    let r = (filled-ready _ _ _ _ _ _ c.number_pages.new.numbers _ _ _ c.self.view_is c.self.invariant c.requires.class c.requires.room c.fill_up.ensures c.fill_up-2.ensures
    c.deref_mut-2.ensures.value c.deref_mut-2.ensures.len c.deref_mut.ensures.value c.deref_mut.ensures.len c.deref.ensures.value c.number_pages.ensures) in
    carve-view _ _ _ _ _ _ _ _ _ _ r (carve-end _ _ _ _ _ _ _ _ _ _ _ r c.size_of_class-size.ensures.size c.link_new.ensures)
