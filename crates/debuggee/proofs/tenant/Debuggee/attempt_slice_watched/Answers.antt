use Rattle.std.proofs.Common.{arith}
use Rattle.std.proofs.Math.Logic.{∥∥₁_map}
use Rattle.debuggee.proofs.CourseLemmas.{at_slice_end}
use Rattle.debuggee.proofs.tenant.Debuggee.attempt_slice_watched.Goals as goal

pub invariant_of-self-clause-law : goal.invariant_of-self-clause-law
invariant_of-self-clause-law g c =
    ∥∥₁_map c.args.self.now.law (λ h. at_slice_end _ _ _ _ _ _ _ _ h (omega arith) c.slice_with_edges.ensures.machine c.next-self.ensures)
