use Rattle.std.proofs.Common.{◌∙◌, sym, ap, length, Err, refl}
use Rattle.mte_tags.specs.Accesses.{result_of}
use Rattle.mte_tags.proofs.FoundPages.{page_run, page_read, fault_missing}
use Rattle.mte_tags.proofs.within_page.read_in_page.Goals as goal

pub returns-in_default-clause-answer : goal.returns-in_default-clause-answer
returns-in_default-clause-answer g c =
    ap (λ f. Err f) c.fault.ensures
    ∙ sym (ap result_of (fault_missing (g.S.PageStore.memory c.args.store.now) c.args.at (length c.args.buffer.now) c.args.access.now c.requires.run.some c.requires.run.inside c.requires.run.plain c.in_default.ensures.page))

pub returns-in-Some-run_fault-clause-answer : goal.returns-in-Some-run_fault-clause-answer
returns-in-Some-run_fault-clause-answer g c =
    ap result_of (c.in-Some-run_fault.ensures ∙ page_run (g.S.PageStore.memory c.args.store.now) _ c.args.at (length c.args.buffer.now) c.args.access.now c.in-Some.ensures.page c.requires.run.inside c.requires.run.plain)

pub returns-clause-answer : goal.returns-clause-answer
returns-clause-answer g c =
    ap result_of (sym c.in_default-run_fault.is ∙ c.run_fault.ensures ∙ page_run (g.S.PageStore.memory c.args.store.now) _ c.args.at (length c.args.buffer.now) c.args.access.now c.in-Some.ensures.page c.requires.run.inside c.requires.run.plain)

pub returns-clause-bytes : goal.returns-clause-bytes
returns-clause-bytes g c =
    page_read (g.S.PageStore.memory c.args.store.now) _ c.args.at (length c.args.buffer.now) _ c.copy_out.new.buffer c.in-Some.ensures.page c.requires.run.inside c.requires.run.plain c.copy_out.auto.buffer refl c.copy_out.ensures.bytes
