use Rattle.tombolopan_c.specs.LentPages.{state_of}
use Rattle.tombolopan_c.proofs.Found.{lent_replaced}
use Rattle.tombolopan_c.proofs.lent.LentPageStore.replace_run.Goals as goal

pub returns-clause-memory : goal.returns-clause-memory
returns-clause-memory c =
    let l = c.args.self.now in
    lent_replaced (state_of l.state.now) l.pages.now c.args.place c.args.at c.args.bytes.now _ c.copy_in.new.self c.requires.place c.copy_in.ensures
