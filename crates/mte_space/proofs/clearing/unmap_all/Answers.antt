use Rattle.std.proofs.Common.{◌∙◌, subst}
use Rattle.mte_space.specs.Spaces.{KeepsRest}
use Rattle.mte_space.specs.KeptSpaces.{rest_on}
use Rattle.mte_space.proofs.clearing.unmap_all.Goals as goal

pub loop-page-preserved : goal.loop-page-preserved
loop-page-preserved c =
    let was = c.loop-page.invariant in
    let unmap = c.unmap_page.ensures in
    record {
      space = unmap.space;
      rest = rest_on c.args.quota.now c.args.pool.now c.loop-page.pool _ c.args.table.now c.loop-page.table _ was.rest (subst (λ k. KeepsRest k c.loop-page.pool c.unmap_page.new.pool c.loop-page.table c.unmap_page.new.table) was.same unmap.rest);
      same = unmap.same ∙ was.same;
    }
