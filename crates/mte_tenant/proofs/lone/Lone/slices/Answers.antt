use Rattle.std.proofs.Common.{◌∙◌, sym}
use Rattle.mte_tenant.proofs.Slices.{slices_next, slices_done}
use Rattle.mte_tenant.proofs.lone.Lone.slices.Goals as goal

pub loop-steps-preserved : goal.loop-steps-preserved
loop-steps-preserved c =
    slices_next _ _ c.args.slices.now c.loop-steps.steps-index 0 c.loop-steps-test.true c.slice.ensures
    ∙ c.loop-steps.invariant

pub returns : goal.returns
returns c =
    sym (slices_done _ c.args.slices.now c.loop-steps.steps-index c.loop-steps-test.false) ∙ c.loop-steps.invariant
