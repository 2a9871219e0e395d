use Rattle.std.proofs.Common.{ap}
use Rattle.scudo_primary.specs.Caches.{CacheState}
use Rattle.scudo_heap.proofs.StackLemmas.{view-new}
use Rattle.scudo_primary.proofs.CacheLaws.{above-new}
use Rattle.scudo_primary.proofs.StackLemmas.{stacks-new}
use Rattle.scudo_heap.proofs.stacks.Stacks.new.Goals as goal

pub invariant_of-result : goal.invariant_of-result
invariant_of-result c =
    let none = ap (λ (t : CacheState). t.classes) c.in_ok-cache.ensures in
    record {
      above = above-new c.in_ok-cache.cache c.in_ok-pool.pool none;
      stacks = stacks-new c.in_ok-cache.cache c.in_ok-pool.pool c.args.pages _ none c.in_ok-pool.ensures;
    }

pub returns : goal.returns
returns c = view-new (record { pool = c.in_ok-pool.pool; cache = c.in_ok-cache.cache }) c.args.pages c.in_ok-pool.ensures c.in_ok-cache.ensures
