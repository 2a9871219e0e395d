use Rattle.std.proofs.Common.{◌≡◌}
use Rattle.a64_run.specs.OpCaches.{Knows}
use Rattle.mte_svc.specs.Ready.{IsReady}
use Rattle.mte_tenant.specs.Machines.{after_attempts, machine_of}
use Rattle.mte_tenant.proofs.machine.slice_with_blocks.Given as goal

abbrev pub decreases-loop-left : goal.decreases-loop-left
decreases-loop-left g l = l.left

-- what is left from here is the slice from the start
abbrev pub invariant-loop-left : goal.invariant-loop-left
invariant-loop-left g l = record {
  rest :
      after_attempts l.left (machine_of l.parts (g.M.Tagged.memory l.memory))
      ≡ after_attempts l.fn.steps (machine_of l.fn.parts (g.M.Tagged.memory l.fn.memory));
  known : Knows (g.M.Tagged.memory l.memory) l.ops;
  found : g.T.CompiledBlocks.knows l.blocks (g.M.Tagged.memory l.memory);
  ready : IsReady l.parts (g.M.Tagged.memory l.memory);
  kept : g.M.Tagged.kept l.fn.memory l.memory;
}
