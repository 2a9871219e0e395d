use Rattle.std.proofs.Common.{arith}
use Rattle.scudo_heap.proofs.ClassLemmas.{user-near}
use Rattle.scudo_heap.proofs.placing.make_chunk.Goals as goal

pub overflow_cast-header-4 : goal.overflow_cast-header-4
overflow_cast-header-4 g c = let near = user-near c.args.place c.requires.place in omega arith
