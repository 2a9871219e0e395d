use Rattle.scudo_primary.proofs.BatchLemmas.{IsPushing}
use Rattle.scudo_primary.proofs.lists.link_batch.Given as goal

abbrev pub invariant-loop-block : goal.invariant-loop-block
invariant-loop-block l = IsPushing l.fn.entries l.entries l.numbers l.fn.lists l.lists l.class l.blocks l.block-index l.last
