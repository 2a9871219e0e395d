use Rattle.std.proofs.Common.{arith, ◌∙◌, ◌+◌}
use Rattle.mte_frames.proofs.Keeps.{keeps_on}
use Rattle.mte_translate.proofs.TreeLemmas.{Edit, edit-here, edit-other, edit-tree, edit-rest, leaf-out}
use Rattle.mte_translate.proofs.StepLemmas.{root-out, use_with, page-put}
use Rattle.mte_translate.proofs.tree.put_page.Goals as goal
use Rattle.mte_translate.proofs.tree.put_page.Goals.{After-set_entry-2}

pub set_entry-requires : goal.set_entry-requires
set_entry-requires c = let low = c.requires.page.low in record { out = (c.args.quota.now, leaf-out _ _ _ _ _ _ _ c.requires.page.tree.tree c.requires.page.low c.requires.leaf c.entry-root_entry.ensures c.leaf-leaf.ensures); low = omega arith }

pub set_entry-requires-2 : goal.set_entry-requires-2
set_entry-requires-2 c = let low = c.requires.page.low in record { out = (c.args.quota.now, root-out _ _ _ _ _ _ _ _ c.requires.page.tree.tree c.set_entry.ensures.wrote); low = omega arith }

put : (c : After-set_entry-2) → Edit c.args.pool.now c.set_entry-2.new.pool c.args.quota.now c.args.root c.args.page (c.entry-root_entry.result + 2) c.new.result.0 c.requires.page.tree.use_of (use_with c.requires.page.tree.use_of c.args.frame 513)
put c = page-put _ c.set_entry.new.pool _ _ _ _ _ c.args.attrs.0 _ c.entry-root_entry.result _ c.requires.page.tree.tree c.requires.page.low c.entry-root_entry.ensures c.requires.leaf c.requires.absent
    c.requires.out c.requires.apart (rw c.leaf-leaf.ensures at c.set_entry.ensures.wrote) c.set_entry-2.ensures.wrote c.new.ensures.value c.new.ensures.attrs

pub returns-clause-tree : goal.returns-clause-tree
returns-clause-tree c = record { use_of = use_with c.requires.page.tree.use_of c.args.frame 513; tree = edit-tree _ _ _ _ _ _ _ _ _ (put c) }

pub returns-clause-walk : goal.returns-clause-walk
returns-clause-walk c = edit-here _ _ _ _ _ _ _ _ _ (put c) ∙ c.new.ensures.value

pub returns-clause-walks : goal.returns-clause-walks
returns-clause-walks c = edit-other _ _ _ _ _ _ _ _ _ (put c)

pub returns-clause-rest : goal.returns-clause-rest
returns-clause-rest c = let k = c.args.quota.now in
    edit-rest _ _ _ _ _ _ _ _ _ (put c) (keeps_on k _ _ _ (c.set_entry.ensures.others k (leaf-out _ _ _ _ _ _ _ c.requires.page.tree.tree c.requires.page.low c.requires.leaf c.entry-root_entry.ensures c.leaf-leaf.ensures)) (c.set_entry-2.ensures.others k (root-out _ _ _ _ _ _ _ _ c.requires.page.tree.tree c.set_entry.ensures.wrote)))
