use Rattle.std.proofs.Common.{◌≡◌, ◌∙◌, sym, ap, arith, Some}
use Rattle.std.specs.List.{range_with_len}
use Rattle.mte_tags.specs.Inner.{first_in}
use Rattle.mte_tags.proofs.PageRuns.{first_in-tag, first_in-next}
use Rattle.mte_tags.proofs.page.tag_fault.Goals as goal

pub returns-then-tag-access : goal.returns-then-tag-access
returns-then-tag-access g c =
    let e = first_in-tag c.args.access.now (g.S.PageStore.page_in c.args.store.now c.args.place) c.loop-left.address c.loop-left.left c.loop-left-test.true c.requires.permitted c.requires.checked (λ same. c.if-tag-access.true (c.granule_tag-tag.ensures.tag ∙ same)) in
    cc (e, c.fault.ensures, c.granule_tag-tag.ensures.tag)

pub loop-left-preserved : goal.loop-left-preserved
loop-left-preserved g c = record {
  address = omega arith;
  whole = omega arith;
  rest = c.loop-left.invariant.rest
      ∙ first_in-next c.args.access.now (g.S.PageStore.page_in c.args.store.now c.args.place) c.loop-left.address c.min-run.result c.loop-left.left (omega (arith, c.min-run.ensures)) (omega (arith, c.min-run.ensures)) c.requires.permitted (sym c.granule_tag-tag.ensures.tag ∙ c.if-tag-access.false);
}

pub returns : goal.returns
unfolding first_in
returns g c =
    let e : c.loop-left.left ≡ 0 = omega arith in
    sym (c.loop-left.invariant.rest ∙ ap (λ n. first_in c.args.access.now (Some (g.S.PageStore.page_in c.args.store.now c.args.place)) (range_with_len c.loop-left.address n)) e)
