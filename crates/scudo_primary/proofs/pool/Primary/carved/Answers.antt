use Rattle.std.proofs.Common.{◌*◌, ◌/◌, arith, ap, sym, ◌∙◌}
use Rattle.scudo_header.specs.Classes.{size_of}
use Rattle.common.specs.declared.limits.TheConstants.{PAGE_SIZE}
use Rattle.scudo_primary.specs.Inner.{list_at}
use Rattle.scudo_primary.proofs.ModelLemmas.{pages-few, pages-value}
use Rattle.scudo_primary.proofs.pool.Primary.carved.Goals as goal

pub overflow_mul-result : goal.overflow_mul-result
unfolding list_at
overflow_mul-result c = let few = pages-few c.self.inside _ c.self.invariant c.requires.class in omega arith

pub returns : goal.returns
unfolding list_at
returns c =
    ap (λ s. PAGE_SIZE * (list_at c.self.inside.lists c.args.class).pages / s) c.size_of_class.ensures.size
    ∙ ap (λ n. PAGE_SIZE * n / size_of c.args.class) (sym (pages-value c.self.inside c.args.self.now _ c.self.view_is c.requires.class))
