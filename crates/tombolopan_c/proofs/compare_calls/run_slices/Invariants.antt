use Rattle.std.proofs.Common.{◌≡◌, drop}
use Rattle.mte_tenant.specs.Alone.{after_slices}
use Rattle.tombolopan_c.specs.LentFuzz.{now_of, saved_of}
use Rattle.tombolopan_c.proofs.compare_calls.run_slices.Given as goal

-- the slices that are left, from here, come to what all do from the start
abbrev pub invariant-loop-steps : goal.invariant-loop-steps
invariant-loop-steps l = record {
  machine :
      after_slices (now_of l.machine) (drop l.steps-index l.slices)
      ≡ after_slices (now_of l.fn.machine) l.slices;
  saved : saved_of l.machine ≡ saved_of l.fn.machine;
}
