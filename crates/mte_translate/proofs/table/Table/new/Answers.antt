use Rattle.mte_translate.proofs.StepLemmas.{took}
use Rattle.mte_translate.proofs.TableLemmas.{table-new, pages-new, once-empty}
use Rattle.mte_translate.proofs.table.Table.new.Goals as goal

pub returns-clause-table : goal.returns-clause-table
returns-clause-table c = let take = c.take.ensures in
    rw take.same (table-new c.args.pool.now _ _ _ (took c.args.pool.now _ _ _ _ take.within take.vacant take.out take.still_out take.pool))

pub returns-clause-pages : goal.returns-clause-pages
returns-clause-pages c = let take = c.take.ensures in
    pages-new c.args.pool.now _ _ _ (took c.args.pool.now _ _ _ _ take.within take.vacant take.out take.still_out take.pool)

pub returns-clause-once : goal.returns-clause-once
returns-clause-once c = let take = c.take.ensures in
    once-empty _ (pages-new c.args.pool.now _ _ _ (took c.args.pool.now _ _ _ _ take.within take.vacant take.out take.still_out take.pool))
