use Rattle.mte_laws.proofs.Clearing.{grown-zero}
use Rattle.mte_laws.proofs.call_laws.grown_granules_are_zero.Goals as goal

pub returns : goal.returns
returns c = grown-zero
