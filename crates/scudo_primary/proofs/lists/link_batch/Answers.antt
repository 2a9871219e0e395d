use Rattle.std.proofs.Common.{arith}
use Rattle.std.proofs.lemmas.List.{get_or_default}
use Rattle.scudo_primary.proofs.BatchLemmas.{pushing-init, pushing-step, pushing-block, pushing-unlisted, pushing-room, pushing-end}
use Rattle.scudo_primary.proofs.lists.link_batch.Goals as goal

pub loop-block-init : goal.loop-block-init
loop-block-init c = pushing-init _ _ _ _ _ c.requires.table

pub link-requires-clause-block : goal.link-requires-clause-block
link-requires-clause-block c =
    pushing-block _ _ _ _ _ _ _ _ _ _ c.requires.class c.requires.blocks c.loop-block.invariant c.loop-block-test.true (get_or_default c.args.blocks.now c.loop-block.block-index 0 _ c.loop-block-test.true)

pub link-requires-clause-unlisted : goal.link-requires-clause-unlisted
link-requires-clause-unlisted c =
    pushing-unlisted _ _ _ _ _ _ _ _ _ _ c.requires.blocks c.requires.batch.distinct c.loop-block.invariant c.loop-block-test.true (get_or_default c.args.blocks.now c.loop-block.block-index 0 _ c.loop-block-test.true)

pub link-requires-clause-room : goal.link-requires-clause-room
link-requires-clause-room c =
    pushing-room _ _ _ _ _ _ _ _ _ c.requires.class c.requires.table c.requires.batch.most c.loop-block.invariant c.loop-block-test.true

pub loop-block-preserved : goal.loop-block-preserved
loop-block-preserved c =
    pushing-step _ _ _ _ _ _ _ _ _ _ _ _ c.requires.blocks c.loop-block.invariant c.loop-block-test.true (get_or_default c.args.blocks.now c.loop-block.block-index 0 _ c.loop-block-test.true) c.link.ensures

pub returns : goal.returns
returns c =
    let i = c.loop-block-test.false in
    let j = c.loop-block.auto.block-index-end in
    pushing-end _ _ _ _ _ _ _ _ _ c.loop-block.invariant (omega arith) c.requires.batch.some
