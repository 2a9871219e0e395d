use Rattle.tombolopan_c.specs.LentPages.{state_of}
use Rattle.tombolopan_c.proofs.Found.{found_among}
use Rattle.tombolopan_c.proofs.lent.LentPageStore.find_code.Goals as goal

pub returns-clause-page : goal.returns-clause-page
returns-clause-page c =
    let l = c.args.self.now in
    found_among (state_of l.state.now) l.pages.now c.pages.result.now c.args.page c.find.result c.pages.ensures c.find.ensures.some c.find.ensures.none
