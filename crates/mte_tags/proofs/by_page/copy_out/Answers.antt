use Rattle.std.proofs.Common.{◌≡◌, ◌≤◌, ◌∙◌, ◌+◌, ◌-◌, ◌%◌, ◌^◌, ◌++◌, Ok, is_ok, sym, ap, subst, arith, length, take}
use Rattle.std.specs.List.{slice_range}
use Rattle.std.proofs.lemmas.Bool.{cond-true}
use Rattle.std.proofs.lemmas.List.{take_all, append-nil}
use Rattle.mte_tags.specs.Accesses.{result_of, bytes_at, addresses, AreMapped}
use Rattle.mte_tags.proofs.RunSteps.{AreMapped_run, copied_out, length_range, no_fault_where_mapped}
use Rattle.mte_tags.proofs.by_page.copy_out.Goals as goal

pub loop-done-preserved : goal.loop-done-preserved
loop-done-preserved g c =
    let m = g.S.PageStore.memory c.args.store.now in
    let n = c.min-run.result in
    let place = c.loop-done.place in
    let total = length c.args.buffer.now in
    let within : c.loop-done.done + n ≤ total = omega (arith, c.min-run.ensures) in
    let both = AreMapped_run m place n (total - c.loop-done.done) c.loop-done.invariant.plain (omega (arith, c.min-run.ensures)) c.loop-done.invariant.mapped in
    let t : total - c.loop-done.done - n ≡ total - (c.loop-done.done + n) = omega arith in
    let asked : length (slice_range c.loop-done.buffer c.loop-done.done (c.loop-done.done + n)) ≡ n = length_range c.loop-done.buffer c.loop-done.done n (omega (arith, c.loop-done.auto.buffer)) in
    let long : length c.read_in_page.new.buffer ≡ n = c.read_in_page.auto.buffer ∙ asked in
    let same = c.loop-done.invariant.same in
    let there = subst (λ k. AreMapped k (addresses place (length (slice_range c.loop-done.buffer c.loop-done.done (c.loop-done.done + n))))) (sym same) (subst (λ k. AreMapped m (addresses place k)) (sym asked) both.0) in
    let fine : c.read_in_page.result ≡ Ok tt = c.read_in_page.ensures.answer ∙ ap result_of (no_fault_where_mapped _ _ _ c.mapped-access.ensures there) in
    let piece : c.read_in_page.new.buffer ≡ bytes_at m (addresses place n) =
    c.read_in_page.ensures.bytes ∙ cond-true _ _ _ (ap is_ok fine) ∙ ap (λ k. bytes_at k (addresses place (length (slice_range c.loop-done.buffer c.loop-done.done (c.loop-done.done + n))))) same ∙ ap (λ k. bytes_at m (addresses place k)) asked in
    record {
      plain = omega arith;
      within = within;
      same = c.read_in_page.ensures.memory ∙ same;
      kept = g.met.S.PageStore.kept_on _ _ _ c.loop-done.invariant.kept c.read_in_page.ensures.kept;
      mapped = subst (λ k. AreMapped m (addresses ((place + n) % 2 ^ 56) k)) t both.1;
      bytes = copied_out m c.loop-done.buffer c.read_in_page.new.buffer c.loop-done.done n total place c.loop-done.invariant.plain within c.loop-done.auto.buffer long piece ∙ c.loop-done.invariant.bytes;
    }

pub returns-clause-bytes : goal.returns-clause-bytes
unfolding bytes_at addresses
returns-clause-bytes g c =
    let m = g.S.PageStore.memory c.args.store.now in
    let e : length c.args.buffer.now - c.loop-done.done ≡ 0 = omega (arith, c.loop-done.auto.buffer) in
    let whole : length c.loop-done.buffer ≤ c.loop-done.done = omega arith in
    sym (append-nil _ ∙ take_all c.loop-done.done c.loop-done.buffer whole)
    ∙ ap (λ k. take c.loop-done.done c.loop-done.buffer ++ bytes_at m (addresses c.loop-done.place k)) (sym e)
    ∙ c.loop-done.invariant.bytes
