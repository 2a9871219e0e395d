use Rattle.std.proofs.Common.{arith}
use Rattle.scudo_primary.specs.Inner.{list_at}
use Rattle.scudo_primary.proofs.BlockLemmas.{block-test, no-room}
use Rattle.scudo_primary.proofs.ModelLemmas.{pages-few, pages-value}
use Rattle.scudo_primary.proofs.pool.Primary.is_block.Goals as goal

pub overflow_mul-bytes : goal.overflow_mul-bytes
unfolding list_at
overflow_mul-bytes c = let few = pages-few c.self.inside _ c.self.invariant c.requires.class in omega arith

pub is_multiple-requires-clause-near : goal.is_multiple-requires-clause-near
unfolding list_at
is_multiple-requires-clause-near c =
    let few = pages-few c.self.inside _ c.self.invariant c.requires.class in
    let least = c.size_of_class-size.ensures.least in
    let room = c.saturating_sub.ensures in
    let fits = c.if-size-saturating_sub.true in
    omega arith

pub returns-then-size-saturating_sub : goal.returns-then-size-saturating_sub
unfolding list_at
returns-then-size-saturating_sub c =
    block-test c.args.class _ (list_at c.self.inside.lists c.args.class).pages c.args.block _ _ _ _ c.requires.class (pages-value c.self.inside c.args.self.now _ c.self.view_is c.requires.class)
    c.region_start-start.ensures c.size_of_class-size.ensures.size c.if-block-start.false c.if-size-saturating_sub.true c.saturating_sub.ensures c.is_multiple.ensures

pub returns-else-size-saturating_sub : goal.returns-else-size-saturating_sub
unfolding list_at
returns-else-size-saturating_sub c =
    no-room c.args.class _ (list_at c.self.inside.lists c.args.class).pages c.args.block _ _ _ c.requires.class (pages-value c.self.inside c.args.self.now _ c.self.view_is c.requires.class)
    c.region_start-start.ensures c.size_of_class-size.ensures.size c.if-block-start.false c.if-size-saturating_sub.false c.saturating_sub.ensures
