use Rattle.std.proofs.Common.{◌≡◌, drop}
use Rattle.tombolopan_c.specs.HeapReplays.{bad_from, first_bad}
use Rattle.tombolopan_c.proofs.lent_step.find_bad.Given as goal

-- none of the steps before is bad
abbrev pub invariant-loop-i : goal.invariant-loop-i
invariant-loop-i l = bad_from l.steps l.i (drop l.i l.steps) ≡ first_bad l.steps
