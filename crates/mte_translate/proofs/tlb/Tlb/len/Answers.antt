use Rattle.std.proofs.Common.{subst}
use Rattle.mte_translate.specs.Translations.{IsOneEach}
use Rattle.mte_translate.proofs.tlb.Tlb.len.Goals as goal

pub returns-clause-one_each : goal.returns-clause-one_each
returns-clause-one_each c = subst IsOneEach c.self.view_is c.self.invariant.one_each
