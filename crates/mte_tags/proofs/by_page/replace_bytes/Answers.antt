use Rattle.std.proofs.Common.{◌≡◌, ◌≤◌, ◌∙◌, ◌+◌, ◌-◌, ◌%◌, ◌^◌, Ok, is_ok, sym, ap, subst, arith, length, drop}
use Rattle.std.specs.List.{slice_range}
use Rattle.std.proofs.lemmas.Bool.{cond-true}
use Rattle.mte_tags.specs.Accesses.{result_of, with_bytes, addresses, AreMapped}
use Rattle.mte_tags.proofs.RunSteps.{AreMapped_run, copied_in, length_range, AreMapped-with_bytes, no_fault_where_mapped}
use Rattle.mte_tags.proofs.by_page.replace_bytes.Goals as goal

pub loop-done-preserved : goal.loop-done-preserved
loop-done-preserved g c =
    let m = g.S.PageStore.memory c.loop-done.store in
    let n = c.min-run.result in
    let place = c.loop-done.place in
    let total = length c.args.bytes.now in
    let within : c.loop-done.done + n ≤ total = omega (arith, c.min-run.ensures) in
    let both = AreMapped_run m place n (total - c.loop-done.done) c.loop-done.invariant.plain (omega (arith, c.min-run.ensures)) c.loop-done.invariant.mapped in
    let t : total - c.loop-done.done - n ≡ total - (c.loop-done.done + n) = omega arith in
    let piece = slice_range c.args.bytes.now c.loop-done.done (c.loop-done.done + n) in
    let long : length piece ≡ n = length_range c.args.bytes.now c.loop-done.done n within in
    let there = subst (λ k. AreMapped m (addresses place k)) (sym long) both.0 in
    let fine : c.write_in_page.result ≡ Ok tt = c.write_in_page.ensures.answer ∙ ap result_of (no_fault_where_mapped _ _ _ c.mapped-access.ensures there) in
    let new : g.S.PageStore.memory c.write_in_page.new.store ≡ with_bytes m (addresses place n) piece =
    c.write_in_page.ensures.memory ∙ cond-true _ _ _ (ap is_ok fine) ∙ ap (λ k. with_bytes m (addresses place k) piece) long in
    record {
      plain = omega arith;
      within = within;
      kept = g.met.S.PageStore.kept_on _ _ _ c.loop-done.invariant.kept c.write_in_page.ensures.kept;
      mapped =
          subst (λ k. AreMapped k (addresses ((place + n) % 2 ^ 56) (total - (c.loop-done.done + n)))) (sym new)
          (AreMapped-with_bytes m (addresses place n) _ piece (subst (λ k. AreMapped m (addresses ((place + n) % 2 ^ 56) k)) t both.1));
      bytes = copied_in m _ c.args.bytes.now c.loop-done.done n place c.loop-done.invariant.plain within new ∙ c.loop-done.invariant.bytes;
    }

pub returns-clause-memory : goal.returns-clause-memory
unfolding addresses with_bytes
returns-clause-memory g c =
    let e : length c.args.bytes.now - c.loop-done.done ≡ 0 = omega arith in
    ap (λ k. with_bytes (g.S.PageStore.memory c.loop-done.store) (addresses c.loop-done.place k) (drop c.loop-done.done c.args.bytes.now)) (sym e)
    ∙ c.loop-done.invariant.bytes
