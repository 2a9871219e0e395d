use Rattle.mte_elf.specs.Headers.{segments_of}
use Rattle.mte_elf.proofs.WholeLemmas.{image_whole, limit-with_segments, state-with_segments}
use Rattle.mte_elf.proofs.laws.loading_keeps_memories_whole.Goals as goal

pub returns-clause-whole : goal.returns-clause-whole
returns-clause-whole c = image_whole

pub returns-clause-limit : goal.returns-clause-limit
returns-clause-limit c = λ file m. limit-with_segments file m (segments_of file)

pub returns-clause-state : goal.returns-clause-state
returns-clause-state c = λ file m. state-with_segments file m (segments_of file)
