use Rattle.std.proofs.Common.{◌+◌, ◌∙◌, ap, get_or, None}
use Rattle.mte_frames.proofs.Keeps.{keeps_on}
use Rattle.mte_frames.specs.Pool.{IsHeldBy}
use Rattle.mte_translate.specs.Tables.{is_valid, leaf_in, IsUsed}
use Rattle.mte_translate.proofs.TreeLemmas.{Hang, hang-walk, hang-tree, hang-rest}
use Rattle.mte_translate.proofs.StepLemmas.{gave, taken-gave, leaf-dropped}
use Rattle.mte_translate.proofs.tree.drop_leaf.Goals as goal

dropped : (c : goal.After-give) → Hang c.args.pool.now c.give.new.self c.args.quota.now c.args.root c.args.slot c.leaf-leaf.result 0 c.requires.slot.tree.use_of c.requires.slot.tree.use_of
dropped c =
    leaf-dropped _ c.set_entry.new.pool _ _ _ _ _ c.entry.result _ c.requires.slot.tree.tree c.requires.slot.low c.entry.ensures c.requires.there c.requires.empty c.leaf-leaf.ensures c.set_entry.ensures.wrote
    (gave _ _ _ _ _ _ c.give.ensures.still_out c.give.ensures.pool)

pub returns-clause-tree : goal.returns-clause-tree
returns-clause-tree c = rw c.give.ensures.same (record { use_of = c.requires.slot.tree.use_of; tree = hang-tree _ _ _ _ _ _ _ _ _ (dropped c) })

pub returns-clause-absent : goal.returns-clause-absent
returns-clause-absent c = let h = dropped c in ap is_valid h.here

pub returns-clause-walks : goal.returns-clause-walks
returns-clause-walks c = hang-walk _ _ _ _ _ _ _ _ _ (dropped c)

pub returns-clause-rest : goal.returns-clause-rest
returns-clause-rest c = let k = c.args.quota.now in
    hang-rest _ _ _ _ _ _ _ _ _ (dropped c) (keeps_on k _ _ _ (c.set_entry.ensures.others k c.requires.slot.tree.tree.own_root.out) c.give.ensures.others)

pub returns-clause-taken : goal.returns-clause-taken
returns-clause-taken c =
    let w = c.set_entry.ensures.wrote in
    let k = c.args.quota.now in
    let leaf : IsUsed c.args.pool.now k c.requires.slot.tree.use_of c.leaf-leaf.result (1 + c.args.slot) = rw (c.leaf-leaf.ensures ∙ ap leaf_in c.entry.ensures) (c.requires.slot.tree.tree.leaves c.args.slot c.requires.slot.low c.requires.there) in
    let out : IsHeldBy c.set_entry.new.pool c.leaf-leaf.result k = ap (λ os. get_or os c.leaf-leaf.result None) w.owners ∙ leaf.out in
    taken-gave c.set_entry.new.pool _ k c.leaf-leaf.result _ c.recall.ensures.sound out c.give.ensures.pool ∙ ap (λ ts. get_or ts k 0) w.taken
