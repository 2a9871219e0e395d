use Rattle.mte_translate.proofs.ChainLemmas.{IsPassed}
use Rattle.mte_translate.proofs.tlb.find.Given as goal

abbrev pub invariant-loop-end : goal.invariant-loop-end
invariant-loop-end l = IsPassed l.asid l.page l.translations.first l.translations.items l.end

abbrev pub decreases-loop-end : goal.decreases-loop-end
decreases-loop-end l = l.end
