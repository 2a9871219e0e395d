use Rattle.std.proofs.Common.{◌/◌, ap}
use Rattle.tombolopan_c.specs.LentPages.{state_of}
use Rattle.tombolopan_c.proofs.Found.{found_here, found_number, found_first_place}
use Rattle.tombolopan_c.proofs.lent.Lent.place_of_granule.Goals as goal

pub returns-clause-place : goal.returns-clause-place
returns-clause-place c =
    found_first_place c.args.self.now.pages.now c.pages.result.now _ c.in_ok-place.place c.pages.ensures c.in_ok-place.ensures.some

pub returns-clause-number : goal.returns-clause-number
returns-clause-number c =
    found_number c.args.self.now.pages.now c.pages.result.now _ _ c.in_ok-place.place c.pages.ensures (ap (λ k. k / 4096) c.plain-page.ensures) c.in_ok-place.ensures.some

pub returns-clause-page : goal.returns-clause-page
returns-clause-page c =
    let l = c.args.self.now in
    found_here (state_of l.state.now) l.pages.now c.pages.result.now _ _ c.in_ok-place.place c.pages.ensures (ap (λ k. k / 4096) c.plain-page.ensures) c.in_ok-place.ensures.some
