use Rattle.std.proofs.Common.{◌-◌}
use Rattle.scudo_primary.proofs.TakingLemmas.{IsTaking}
use Rattle.scudo_primary.proofs.lists.unlink_batch.Given as goal

abbrev pub invariant-loop-more : goal.invariant-loop-more
invariant-loop-more l = IsTaking l.entries l.numbers l.class l.list.count l.list.head l.fn.buffer l.buffer l.count l.next l.more

abbrev pub decreases-loop-more : goal.decreases-loop-more
decreases-loop-more l = l.list.count - l.count
