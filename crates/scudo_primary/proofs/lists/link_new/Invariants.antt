use Rattle.std.proofs.Common.{◌-◌}
use Rattle.scudo_primary.proofs.CarveLemmas.{IsPartial}
use Rattle.scudo_primary.proofs.lists.link_new.Given as goal

abbrev pub invariant-loop-n : goal.invariant-loop-n
invariant-loop-n l = IsPartial l.fn.entries l.entries l.numbers l.fn.lists l.lists l.class l.from l.n l.to

abbrev pub decreases-loop-n : goal.decreases-loop-n
decreases-loop-n l = l.n - l.from
