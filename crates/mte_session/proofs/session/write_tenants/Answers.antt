use Rattle.std.proofs.Common.{◌≡◌, rules, arith, get_or, take}
use Rattle.std.proofs.lemmas.List.{take_all}
use Rattle.mte_streams.specs.Writing.{WroteAll, WrotePart}
use Rattle.mte_sched.specs.declared.tenant.Tenant as code
use Rattle.mte_sched.specs.Tenants.{record_in}
use Rattle.mte_session.specs.Report.{record_text}
use Rattle.mte_session.proofs.ReportLemmas.{err_writes, then_all_more, then_part_more}
use Rattle.mte_session.proofs.session.write_tenants.Goals as goal

pub returns-in_err-write_report : goal.returns-in_err-write_report
returns-in_err-write_report g c =
    let t : code.Tenant = c.tenant-item.result in
    let same : get_or c.args.tenants.now c.loop-tenant.tenant-index t ≡ t = search rules in
    let wrote : WrotePart (g.W.Sink.log c.loop-tenant.out) (g.W.Sink.log c.write_report.new.out) (record_text (record_in t)) = rw (← c.record.ensures) c.in_err-write_report.ensures in
    let part : WrotePart (g.W.Sink.log c.loop-tenant.out) (g.W.Sink.log c.write_report.new.out) (record_text (record_in (get_or c.args.tenants.now c.loop-tenant.tenant-index t))) = rw same wrote in
    err_writes _ _ c.from_residual.result _ _ (search rules) (then_part_more _ _ _ (λ u. record_text (record_in u)) c.args.tenants.now c.loop-tenant.tenant-index t (omega arith) c.loop-tenant.invariant part)

pub loop-tenant-preserved : goal.loop-tenant-preserved
loop-tenant-preserved g c =
    let t : code.Tenant = c.tenant-item.result in
    let same : get_or c.args.tenants.now c.loop-tenant.tenant-index t ≡ t = search rules in
    let wrote : WroteAll (g.W.Sink.log c.loop-tenant.out) (g.W.Sink.log c.write_report.new.out) (record_text (record_in t)) = rw (← c.record.ensures) c.in_ok-write_report.ensures in
    let all : WroteAll (g.W.Sink.log c.loop-tenant.out) (g.W.Sink.log c.write_report.new.out) (record_text (record_in (get_or c.args.tenants.now c.loop-tenant.tenant-index t))) = rw same wrote in
    then_all_more _ _ _ (λ u. record_text (record_in u)) c.args.tenants.now c.loop-tenant.tenant-index t (omega arith) c.loop-tenant.invariant all

pub returns : goal.returns
returns g c =
    let whole : take c.loop-tenant.tenant-index c.args.tenants.now ≡ c.args.tenants.now = take_all c.loop-tenant.tenant-index c.args.tenants.now (omega arith) in
    rw whole at c.loop-tenant.invariant
