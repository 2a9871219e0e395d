use Rattle.tombolopan_c.specs.LentPages.{state_of}
use Rattle.tombolopan_c.proofs.Found.{lent_retagged}
use Rattle.tombolopan_c.proofs.lent.LentPageStore.retag.Goals as goal

pub returns-clause-memory : goal.returns-clause-memory
returns-clause-memory c =
    let l = c.args.self.now in
    lent_retagged (state_of l.state.now) l.pages.now c.args.place c.args.first c.args.count c.args.tag c.args.zero _ c.retag.new.self c.requires.place c.retag.ensures.number c.retag.ensures.mapped c.retag.ensures.holds
