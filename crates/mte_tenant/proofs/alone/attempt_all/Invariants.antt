use Rattle.std.proofs.Common.{◌≡◌}
use Rattle.mte_svc.specs.Ready.{IsReady}
use Rattle.mte_tenant.specs.Machines.{after_attempts, machine_of}
use Rattle.mte_tenant.specs.Watched.{with_shown, shown_of}
use Rattle.mte_tenant.proofs.alone.attempt_all.Given as goal

abbrev pub decreases-loop-left : goal.decreases-loop-left
decreases-loop-left g l = l.left

-- what is left from here, and to be shown, is what was left at the start
abbrev pub invariant-loop-left : goal.invariant-loop-left
invariant-loop-left g l = record {
  rest :
      after_attempts l.left (machine_of l.parts (g.M.Tagged.memory l.memory))
      ≡ after_attempts l.fn.steps (machine_of l.fn.parts (g.M.Tagged.memory l.fn.memory));
  shown :
      with_shown (g.W.Watch.log l.watch) (shown_of l.left (machine_of l.parts (g.M.Tagged.memory l.memory)))
      ≡ with_shown (g.W.Watch.log l.fn.watch) (shown_of l.fn.steps (machine_of l.fn.parts (g.M.Tagged.memory l.fn.memory)));
  ready : IsReady l.parts (g.M.Tagged.memory l.memory);
  kept : g.M.Tagged.kept l.fn.memory l.memory;
}
