use Rattle.std.proofs.Common.{arith, ◌∙◌, ◌-◌, ap, sym}
use Rattle.mte_frames.proofs.Keeps.{keeps_on}
use Rattle.mte_translate.specs.Tables.{count_in}
use Rattle.mte_translate.proofs.TreeLemmas.{Edit, edit-here, edit-leaf, edit-other, edit-tree, edit-rest, mapped-leaf, leaf-out}
use Rattle.mte_translate.proofs.StepLemmas.{root-out, page-taken, leaf-counts, count-much}
use Rattle.mte_translate.proofs.tree.take_page.Goals as goal
use Rattle.mte_translate.proofs.tree.take_page.Goals.{After-set_entry-2}

pub set_entry-requires : goal.set_entry-requires
set_entry-requires c = let low = c.requires.page.low in record { out = (c.args.quota.now, leaf-out _ _ _ _ _ _ _ c.requires.page.tree.tree c.requires.page.low (mapped-leaf _ _ _ c.requires.there) c.entry-root_entry.ensures c.leaf-leaf.ensures); low = omega arith }

pub overflow_sub-root_entry : goal.overflow_sub-root_entry
overflow_sub-root_entry c = count-much _ (λ z. leaf-counts _ _ _ _ _ c.requires.page.tree.tree c.requires.page.low c.requires.there (ap count_in (sym c.entry-root_entry.ensures) ∙ z))

pub set_entry-requires-2 : goal.set_entry-requires-2
set_entry-requires-2 c = let low = c.requires.page.low in record { out = (c.args.quota.now, root-out _ _ _ _ _ _ _ _ c.requires.page.tree.tree c.set_entry.ensures.wrote); low = omega arith }

taken : (c : After-set_entry-2) → Edit c.args.pool.now c.set_entry-2.new.pool c.args.quota.now c.args.root c.args.page (c.entry-root_entry.result - 2) 0 c.requires.page.tree.use_of c.requires.page.tree.use_of
taken c = page-taken _ c.set_entry.new.pool _ _ _ _ c.entry-root_entry.result _ c.requires.page.tree.tree c.requires.page.low c.entry-root_entry.ensures c.requires.there (rw c.leaf-leaf.ensures at c.set_entry.ensures.wrote) c.set_entry-2.ensures.wrote

pub returns-clause-tree : goal.returns-clause-tree
returns-clause-tree c = record { use_of = c.requires.page.tree.use_of; tree = edit-tree _ _ _ _ _ _ _ _ _ (taken c) }

pub returns-clause-walk : goal.returns-clause-walk
returns-clause-walk c = edit-here _ _ _ _ _ _ _ _ _ (taken c)

pub returns-clause-walks : goal.returns-clause-walks
returns-clause-walks c = edit-other _ _ _ _ _ _ _ _ _ (taken c)

pub returns-clause-leaf : goal.returns-clause-leaf
returns-clause-leaf c = edit-leaf _ _ _ _ _ _ _ _ _ (taken c)

pub returns-clause-rest : goal.returns-clause-rest
returns-clause-rest c = let k = c.args.quota.now in
    edit-rest _ _ _ _ _ _ _ _ _ (taken c) (keeps_on k _ _ _ (c.set_entry.ensures.others k (leaf-out _ _ _ _ _ _ _ c.requires.page.tree.tree c.requires.page.low (mapped-leaf _ _ _ c.requires.there) c.entry-root_entry.ensures c.leaf-leaf.ensures)) (c.set_entry-2.ensures.others k (root-out _ _ _ _ _ _ _ _ c.requires.page.tree.tree c.set_entry.ensures.wrote)))
