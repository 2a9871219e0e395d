use Rattle.std.proofs.Common.{◌∙◌, ap, arith, length}
use Rattle.mte_translate.proofs.EntryLemmas.{entry-written}
use Rattle.mte_translate.proofs.entries.set_entry.Goals as goal

pub returns-clause-wrote : goal.returns-clause-wrote
returns-clause-wrote c = entry-written c.args.pool.now c.requires.out.0 c.args.frame c.args.index c.args.entry c.data_mut.result.now c.copy_from_slice.new.self c.recall.ensures.sound c.recall.ensures.sized
    c.requires.out.1 c.requires.low (omega arith) c.data_mut.ensures.value (c.copy_from_slice.ensures.after ∙ c.to_le_bytes.ensures) (ap length (c.copy_from_slice.ensures.after ∙ c.to_le_bytes.ensures))
