use Rattle.std.proofs.Common.{rules}
use Rattle.tombolopan_c.specs.LentPages.{lent_memory}
use Rattle.tombolopan_c.proofs.lent.LentPageStore.tag_state.Goals as goal

pub returns-clause-answer : goal.returns-clause-answer
unfolding lent_memory
returns-clause-answer c = search rules
