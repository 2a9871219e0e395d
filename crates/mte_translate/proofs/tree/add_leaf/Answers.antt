use Rattle.std.proofs.Common.{◌+◌}
use Rattle.mte_frames.proofs.Keeps.{keeps_on}
use Rattle.mte_translate.proofs.TreeLemmas.{Hang, hang-walk, hang-tree, hang-rest}
use Rattle.mte_translate.proofs.StepLemmas.{use_with, took, leaf-hung}
use Rattle.mte_translate.proofs.tree.add_leaf.Goals as goal

hung : (c : goal.After-set_entry) → Hang c.args.pool.now c.set_entry.new.pool c.args.quota.now c.args.root c.args.slot c.take-leaf.result c.new.result.0 c.requires.slot.tree.use_of (use_with c.requires.slot.tree.use_of c.take-leaf.result (1 + c.args.slot))
hung c = let take = c.take-leaf.ensures in
    leaf-hung _ c.take-leaf.new.self _ _ _ _ _ _ _ c.requires.slot.tree.tree c.requires.slot.low c.requires.absent (took _ _ _ _ _ take.within take.vacant take.out take.still_out take.pool) c.set_entry.ensures.wrote c.new.ensures

pub returns-clause-tree : goal.returns-clause-tree
returns-clause-tree c = rw c.take-leaf.ensures.same (record { use_of = use_with c.requires.slot.tree.use_of c.take-leaf.result (1 + c.args.slot); tree = hang-tree _ _ _ _ _ _ _ _ _ (hung c) })

pub returns-clause-walks : goal.returns-clause-walks
returns-clause-walks c = hang-walk _ _ _ _ _ _ _ _ _ (hung c)

pub returns-clause-rest : goal.returns-clause-rest
returns-clause-rest c = let k = c.args.quota.now in
    hang-rest _ _ _ _ _ _ _ _ _ (hung c) (keeps_on k _ _ _ c.take-leaf.ensures.others (c.set_entry.ensures.others k (c.take-leaf.ensures.still_out c.args.root k c.requires.slot.tree.tree.own_root.out)))
