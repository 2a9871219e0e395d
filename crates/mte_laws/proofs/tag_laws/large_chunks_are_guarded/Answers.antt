use Rattle.mte_laws.proofs.LargeGuards.{large-guarded}
use Rattle.mte_laws.proofs.tag_laws.large_chunks_are_guarded.Goals as goal

pub returns : goal.returns
returns c = large-guarded
