use Rattle.std.proofs.Common.{◌≡◌, ◌≤◌, ◌-◌}
use Rattle.scudo_heap.specs.Realloc.{after_copy}
use Rattle.scudo_heap.proofs.copying.copy_bytes.Given as goal

abbrev pub decreases-loop-done : goal.decreases-loop-done
decreases-loop-done g l = l.count - l.done

abbrev pub invariant-loop-done : goal.invariant-loop-done
invariant-loop-done g l = record {
  within : l.done ≤ l.count;
  memory : g.M.Tagged.memory l.memory ≡ after_copy (g.M.Tagged.memory l.fn.memory) l.from l.to l.done;
  kept : g.M.Tagged.kept l.fn.memory l.memory;
}
