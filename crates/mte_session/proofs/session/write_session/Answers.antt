use Rattle.std.proofs.Common.{◌≡◌, rules, ap, sym, ◌∙◌}
use Rattle.mte_sched.specs.Hosts.{content_of}
use Rattle.mte_session.specs.Sessions.{refused_texts, tenant_texts}
use Rattle.mte_session.specs.Progress.{record_texts}
use Rattle.mte_session.proofs.SessionLemmas.{texts_of_records}
use Rattle.mte_session.proofs.ReportLemmas.{err_writes, then_writes, part_more}
use Rattle.mte_session.proofs.session.write_session.Goals as goal

pub returns-in_err-write_refusals : goal.returns-in_err-write_refusals
returns-in_err-write_refusals g c =
    err_writes _ _ c.from_residual.result _ _ (search rules) (part_more _ _ (refused_texts c.args.refused.now) (tenant_texts (content_of c.args.host.now).tenants) c.in_err-write_refusals.ensures)

pub returns : goal.returns
returns g c =
    let same : record_texts c.tenants.result.now ≡ tenant_texts (content_of c.args.host.now).tenants =
    sym (ap tenant_texts c.tenants.ensures ∙ texts_of_records c.args.host.now c.tenants.result.now) in
    then_writes _ _ _ c.write_tenants.result (refused_texts c.args.refused.now) (tenant_texts (content_of c.args.host.now).tenants) c.in_ok-write_refusals.ensures
    (rw same at c.write_tenants.ensures)
