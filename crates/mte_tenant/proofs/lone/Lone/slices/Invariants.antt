use Rattle.std.proofs.Common.{◌≡◌, drop}
use Rattle.mte_tenant.specs.Machines.{machine_of}
use Rattle.mte_tenant.specs.Alone.{after_slices}
use Rattle.mte_tenant.proofs.lone.Lone.slices.Given as goal

-- the slices that are left, from here, come to what all do from the start
abbrev pub invariant-loop-steps : goal.invariant-loop-steps
invariant-loop-steps l =
    after_slices (machine_of l.self.parts l.self.memory) (drop l.steps-index l.slices)
    ≡ after_slices (machine_of l.fn.self.parts l.fn.self.memory) l.slices
