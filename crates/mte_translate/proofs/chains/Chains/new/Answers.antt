use Rattle.mte_translate.proofs.ChainLemmas.{chained-none}
use Rattle.mte_translate.proofs.chains.Chains.new.Goals as goal

pub returns : goal.returns
returns c = chained-none 256 _
