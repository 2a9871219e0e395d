use Rattle.std.proofs.Common.{arith}
use Rattle.mte_space.proofs.PlaceSteps.{page_of_place}
use Rattle.mte_space.proofs.space.Space.find_at.Goals as goal

pub returns-then-at-page-clause-page : goal.returns-then-at-page-clause-page
returns-then-at-page-clause-page c =
    let address = rw c.at.ensures at c.if-at-page.true in
    page_of_place c.args.self.now c.args.page c.args.place (search arith, omega (arith, address, c.requires.low)) (omega (arith, address))
