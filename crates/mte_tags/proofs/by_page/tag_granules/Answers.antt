use Rattle.std.proofs.Common.{◌≡◌, ◌∙◌, ◌+◌, ◌-◌, ◌*◌, ◌%◌, ◌^◌, Ok, is_ok, sym, ap, subst, arith}
use Rattle.std.proofs.lemmas.Bool.{cond-true}
use Rattle.mte_tags.specs.Memory.{with_granules}
use Rattle.mte_tags.specs.Accesses.{result_of, granules, AreMapped}
use Rattle.mte_tags.proofs.RunSteps.{no_fault_where_mapped}
use Rattle.mte_tags.proofs.GranuleLists.{AreMapped_granules, with_granules_run, AreMapped-with_granules}
use Rattle.mte_tags.proofs.by_page.tag_granules.Goals as goal

pub loop-left-preserved : goal.loop-left-preserved
loop-left-preserved g c =
    let m = g.S.PageStore.memory c.loop-left.store in
    let n = c.min-run.result in
    let place = c.loop-left.place in
    let both = AreMapped_granules m place n c.loop-left.left c.loop-left.invariant.plain (omega (arith, c.min-run.ensures)) c.loop-left.invariant.mapped in
    let fine : c.store_tags_in_page.result ≡ Ok tt = c.store_tags_in_page.ensures.answer ∙ ap result_of (no_fault_where_mapped _ _ _ c.mapped-access.ensures both.0) in
    let new : g.S.PageStore.memory c.store_tags_in_page.new.store ≡ with_granules m place n c.args.tag c.args.zero = c.store_tags_in_page.ensures.memory ∙ cond-true _ _ _ (ap is_ok fine) in
    record {
      plain = omega arith;
      aligned = omega arith;
      kept = g.met.S.PageStore.kept_on _ _ _ c.loop-left.invariant.kept c.store_tags_in_page.ensures.kept;
      mapped = subst (λ k. AreMapped k (granules ((place + 16 * n) % 2 ^ 56) (c.loop-left.left - n))) (sym new) (AreMapped-with_granules n m place c.args.tag c.args.zero _ both.1);
      tags =
          ap (λ k. with_granules k ((place + 16 * n) % 2 ^ 56) (c.loop-left.left - n) c.args.tag c.args.zero) new
          ∙ sym (with_granules_run m place n c.loop-left.left c.args.tag c.args.zero c.loop-left.invariant.plain (omega (arith, c.min-run.ensures)))
          ∙ c.loop-left.invariant.tags;
    }

pub returns-clause-memory : goal.returns-clause-memory
unfolding with_granules
returns-clause-memory g c =
    let e : c.loop-left.left ≡ 0 = omega arith in
    ap (λ k. with_granules (g.S.PageStore.memory c.loop-left.store) c.loop-left.place k c.args.tag c.args.zero) (sym e) ∙ c.loop-left.invariant.tags
