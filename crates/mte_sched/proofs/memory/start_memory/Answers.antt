use Rattle.std.proofs.Common.{◌∙◌, ap, sum, sym, subst, arith}
use Rattle.mte_frames.specs.Pool.{KeepsOthers}
use Rattle.mte_frames.proofs.Keeps.{keeps_on}
use Rattle.mte_space.specs.Remembered.{IsRemembered}
use Rattle.mte_sched.proofs.MemoryLemmas.{first_placed, reserved_stays}
use Rattle.mte_sched.proofs.memory.start_memory.Goals as goal

pub returns-clause-placed : goal.returns-clause-placed
returns-clause-placed c =
    let made = c.reserve_memory-memory.ensures in
    let fill = c.fill_memory.ensures in
    let room = c.requires.image.room in
    first_placed c.reserve_memory-memory.new.pool c.fill_memory.new.pool c.fill_memory.new.tlb c.args.asid c.args.admission.now.terms.pages c.reserve_memory-memory.result c.fill_memory.new.memory
    made.taken made.charged made.len made.leaves fill.rest fill.same fill.space fill.cached fill.remembered (omega arith) c.requires.most

pub returns-clause-reserved : goal.returns-clause-reserved
returns-clause-reserved c =
    ap sum (reserved_stays c.reserve_memory-memory.new.pool c.fill_memory.new.pool c.reserve_memory-memory.result.quota c.recall.ensures.sound c.recall-2.ensures.sound c.fill_memory.ensures.rest.others c.fill_memory.ensures.rest.reserved)
    ∙ c.reserve_memory-memory.ensures.reserved

pub returns-clause-others : goal.returns-clause-others
returns-clause-others c =
    subst (λ k. KeepsOthers k c.args.pool.now c.fill_memory.new.pool) (sym c.fill_memory.ensures.same)
    (keeps_on c.reserve_memory-memory.result.quota c.args.pool.now c.reserve_memory-memory.new.pool c.fill_memory.new.pool c.reserve_memory-memory.ensures.others c.fill_memory.ensures.rest.others)

pub fill_memory-requires-clause-remembered : goal.fill_memory-requires-clause-remembered
fill_memory-requires-clause-remembered c =
    subst (IsRemembered _) (sym c.reserve_memory-memory.ensures.remembered) (c.requires.remembered _)
