use Rattle.std.proofs.Common.{◌∙◌}
use Rattle.scudo_heap.proofs.AllocationLemmas.{is-power}
use Rattle.scudo_heap.proofs.allocation.is_power.Goals as goal

pub returns-then-alignment-le-MAX_ALIGNMENT : goal.returns-then-alignment-le-MAX_ALIGNMENT
returns-then-alignment-le-MAX_ALIGNMENT c = c.is_power_of_two.ensures ∙ is-power c.args.alignment c.if-alignment-le-MAX_ALIGNMENT.true
