use Rattle.std.proofs.Common.{ap, ◌∙◌}
use Rattle.mte_tenant.specs.Machines.{machine_of}
use Rattle.debuggee.proofs.CourseLemmas.{at_start}
use Rattle.debuggee.proofs.tenant.Debuggee.new.Goals as goal

pub invariant_of-result-clause-law : goal.invariant_of-result-clause-law
invariant_of-result-clause-law c =
    ∣ at_start _ _ _ _ (ap (machine_of c.in_ok-parts.field-0.parts) c.new-2.ensures ∙ c.in_ok-parts.ensures.machine) c.next-cut.ensures ∣₁
