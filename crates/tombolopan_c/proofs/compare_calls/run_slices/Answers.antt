use Rattle.std.proofs.Common.{◌∙◌, sym}
use Rattle.mte_tenant.proofs.Slices.{slices_next, slices_done}
use Rattle.tombolopan_c.proofs.compare_calls.run_slices.Goals as goal

pub loop-steps-preserved : goal.loop-steps-preserved
loop-steps-preserved c = record {
  machine =
      slices_next _ _ c.args.slices.now c.loop-steps.steps-index 0 c.loop-steps-test.true
      c.slice_compared.ensures.machine
      ∙ c.loop-steps.invariant.machine;
  saved = c.slice_compared.ensures.saved ∙ c.loop-steps.invariant.saved;
}

pub returns : goal.returns
returns c = record {
  machine =
      sym (slices_done _ c.args.slices.now c.loop-steps.steps-index c.loop-steps-test.false)
      ∙ c.loop-steps.invariant.machine;
  saved = c.loop-steps.invariant.saved;
}
