use Rattle.std.proofs.Common.{◌-◌, ◌≡◌, arith, ap, sym}
use Rattle.scudo_primary.specs.Pools.{PoolState}
use Rattle.scudo_primary.specs.Inner.{list_at}
use Rattle.scudo_primary.proofs.ModelLemmas.{pages-value}
use Rattle.scudo_primary.proofs.pool.Primary.pages.Goals as goal

pub returns-clause-pages : goal.returns-clause-pages
unfolding list_at
returns-clause-pages c = sym (pages-value c.self.inside c.args.self.now _ c.self.view_is c.requires.class)

pub returns-clause-most : goal.returns-clause-most
unfolding list_at
returns-clause-most c =
    let i = c.self.invariant in
    let few = i.few c.args.class c.requires.class in
    let below = i.below in
    let most = i.most in
    let left : c.self.inside.limit - c.self.inside.used ≡ c.args.self.now.left = ap (λ (p : PoolState). p.left) c.self.view_is in
    omega arith
