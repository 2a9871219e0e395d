use Rattle.mte_laws.proofs.Disciplines.{freed-blocks, freed-free, freed-pages}
use Rattle.mte_laws.proofs.tag_laws.freed_chunks_are_refused.Goals as goal

pub returns-clause-blocks : goal.returns-clause-blocks
returns-clause-blocks c = freed-blocks

pub returns-clause-free : goal.returns-clause-free
returns-clause-free c = freed-free

pub returns-clause-pages : goal.returns-clause-pages
returns-clause-pages c = freed-pages
