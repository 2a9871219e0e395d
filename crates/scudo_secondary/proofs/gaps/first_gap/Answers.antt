use Rattle.std.proofs.Common.{◌+◌, ◌∙◌, sym, ap, arith, cond, Some, None}
use Rattle.common.specs.declared.limits.TheConstants.{PAGE_SIZE}
use Rattle.common.specs.declared.ranges.TheConstants.{SECONDARY_START}
use Rattle.scudo_secondary.specs.Mappings.{AreMappings}
use Rattle.scudo_secondary.proofs.PlaceLemmas.{passed, gap_here, gap_later, gap_at_end, gap_from}
use Rattle.scudo_secondary.proofs.gaps.first_gap.Goals as goal

pub loop-mapping-init : goal.loop-mapping-init
unfolding AreMappings
loop-mapping-init c = record { above = c.requires; rest = λ i. gap_from (SECONDARY_START + PAGE_SIZE) c.args.pages c.args.mappings.now }

pub returns-then-fits_below : goal.returns-then-fits_below
returns-then-fits_below c =
    let p = passed c.args.mappings.now c.loop-mapping.mapping-index c.loop-mapping.start c.args.pages (record { start = 0; pages = 0; user = 0 }) c.loop-mapping.invariant.above c.loop-mapping-test.true in
    gap_here _ _ _ c.args.pages _ c.fits_below.result c.requires p c.loop-mapping.invariant.rest c.fits_below.ensures c.if-fits_below.true

pub overflow_mul-start : goal.overflow_mul-start
overflow_mul-start c =
    let p = passed c.args.mappings.now c.loop-mapping.mapping-index c.loop-mapping.start c.args.pages (record { start = 0; pages = 0; user = 0 }) c.loop-mapping.invariant.above c.loop-mapping-test.true in
    omega (arith, p.end)

pub overflow_add-start-in-loop-mapping : goal.overflow_add-start-in-loop-mapping
overflow_add-start-in-loop-mapping c =
    let p = passed c.args.mappings.now c.loop-mapping.mapping-index c.loop-mapping.start c.args.pages (record { start = 0; pages = 0; user = 0 }) c.loop-mapping.invariant.above c.loop-mapping-test.true in
    omega (arith, p.end)

pub overflow_add-start-in-loop-mapping-2 : goal.overflow_add-start-in-loop-mapping-2
overflow_add-start-in-loop-mapping-2 c =
    let p = passed c.args.mappings.now c.loop-mapping.mapping-index c.loop-mapping.start c.args.pages (record { start = 0; pages = 0; user = 0 }) c.loop-mapping.invariant.above c.loop-mapping-test.true in
    omega (arith, p.end)

pub loop-mapping-preserved : goal.loop-mapping-preserved
loop-mapping-preserved c =
    let p = passed c.args.mappings.now c.loop-mapping.mapping-index c.loop-mapping.start c.args.pages (record { start = 0; pages = 0; user = 0 }) c.loop-mapping.invariant.above c.loop-mapping-test.true in
    record {
      above = p.more;
      rest = gap_later c.args.mappings.now c.loop-mapping.mapping-index c.loop-mapping.start c.args.pages _ c.fits_below.result p c.loop-mapping.invariant.rest c.fits_below.ensures c.if-fits_below.false;
    }

pub returns-then-fits_below-2 : goal.returns-then-fits_below-2
returns-then-fits_below-2 c =
    ap (λ x. cond x (Some c.loop-mapping.start) None) (sym c.if-fits_below-2.true)
    ∙ gap_at_end c.args.mappings.now c.loop-mapping.mapping-index c.loop-mapping.start c.args.pages c.fits_below-2.result c.requires c.loop-mapping-test.false c.loop-mapping.invariant.rest c.fits_below-2.ensures

pub returns-else-fits_below-2 : goal.returns-else-fits_below-2
returns-else-fits_below-2 c =
    ap (λ x. cond x (Some c.loop-mapping.start) None) (sym c.if-fits_below-2.false)
    ∙ gap_at_end c.args.mappings.now c.loop-mapping.mapping-index c.loop-mapping.start c.args.pages c.fits_below-2.result c.requires c.loop-mapping-test.false c.loop-mapping.invariant.rest c.fits_below-2.ensures
