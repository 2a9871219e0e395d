use Rattle.std.proofs.Common.{◌∙◌}
use Rattle.scudo_heap.specs.Heaps.{heap_of}
use Rattle.scudo_heap.proofs.checks.find_chunk.Goals as goal

pub returns-in-Err-clause-answer : goal.returns-in-Err-clause-answer
returns-in-Err-clause-answer g c = c.in-Err.ensures.abort (heap_of c.args.parts.now.cookie c.args.parts.now.stacks c.args.parts.now.maps)

pub returns-in-Ok-clause-answer : goal.returns-in-Ok-clause-answer
returns-in-Ok-clause-answer g c =
    c.check_word.ensures.answer ∙ c.in-Ok.ensures.word (heap_of c.args.parts.now.cookie c.args.parts.now.stacks c.args.parts.now.maps)
