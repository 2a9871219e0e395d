use Rattle.std.proofs.Common.{◌-◌}
use Rattle.std.specs.Prelude.{vec_len}
use Rattle.scudo_primary.specs.Inner.{IsFilledUp}
use Rattle.scudo_primary.proofs.lists.fill_up.Given as goal

abbrev pub invariant-loop-value : goal.invariant-loop-value
invariant-loop-value g l = IsFilledUp l.fn.list l.list 0 l.value

abbrev pub decreases-loop-value : goal.decreases-loop-value
decreases-loop-value g l = l.count - vec_len l.list
