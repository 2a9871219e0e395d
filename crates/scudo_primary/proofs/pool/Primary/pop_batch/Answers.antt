use Rattle.scudo_primary.proofs.TakenLemmas.{BatchDone, batch-done}
use Rattle.scudo_primary.proofs.pool.Primary.pop_batch.Goals as goal

done : (c : goal.After-unlink_batch) → BatchDone c.self.inside c.args.self.now c.unlink_batch.new.lists c.args.class c.unlink_batch.result c.args.buffer.now c.unlink_batch.new.buffer
done c =
    batch-done c.self.inside c.args.self.now _ _ _ _ _ _ _ c.self.view_is c.self.invariant c.requires.class c.deref.ensures.value c.deref-2.ensures.value
    c.unlink_batch.ensures.count c.unlink_batch.ensures.buffer c.unlink_batch.ensures.rest

pub invariant_of-self : goal.invariant_of-self
invariant_of-self c = (done c).invariant

pub returns-clause-count : goal.returns-clause-count
returns-clause-count c = (done c).count

pub returns-clause-blocks : goal.returns-clause-blocks
returns-clause-blocks c = (done c).blocks

pub returns-clause-pool : goal.returns-clause-pool
returns-clause-pool c = (done c).view

pub returns-clause-most : goal.returns-clause-most
returns-clause-most c = (done c).most

pub returns-clause-empty : goal.returns-clause-empty
returns-clause-empty c = (done c).empty

pub returns-clause-stack : goal.returns-clause-stack
returns-clause-stack c = (done c).stack

pub returns-clause-cached : goal.returns-clause-cached
returns-clause-cached c = (done c).cached

pub returns-clause-distinct : goal.returns-clause-distinct
returns-clause-distinct c = (done c).distinct
