use Rattle.scudo_heap.proofs.ReallocLemmas.{placed-fits}
use Rattle.scudo_heap.proofs.freeing.free_block.Goals as goal

pub write_freed-requires-clause-chunk : goal.write_freed-requires-clause-chunk
write_freed-requires-clause-chunk g c = record { place = placed-fits c.args.stacks.now c.args.place c.requires.found.place; small = c.requires.tag }
