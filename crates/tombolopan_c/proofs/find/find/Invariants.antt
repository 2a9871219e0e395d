use Rattle.tombolopan_c.specs.LentPages.{NoneBefore}
use Rattle.tombolopan_c.proofs.find.find.Given as goal

abbrev pub invariant-loop-i : goal.invariant-loop-i
invariant-loop-i l = NoneBefore l.pages l.i l.number
