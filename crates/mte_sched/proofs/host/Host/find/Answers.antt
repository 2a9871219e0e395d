use Rattle.std.proofs.Common.{◌∙◌, None, Some, sym, subst}
use Rattle.std.specs.Slice.{IsItemAt}
use Rattle.std.proofs.lemmas.Bool.{eqb-true}
use Rattle.mte_tenant.specs.Ledger.{has_id}
use Rattle.mte_sched.specs.Tenants.{record_in}
use Rattle.mte_sched.proofs.IndexLemmas.{lent_at, none_past, none_other}
use Rattle.mte_sched.proofs.host.Host.find.Goals as goal

pub returns-in_err-tenant-clause-none : goal.returns-in_err-tenant-clause-none
returns-in_err-tenant-clause-none c = λ _.
    let h = c.args.self.now in
    none_past h.index.positions.items h.tenants.items c.args.id (has_id c.args.id) h.indexed (λ e t. eqb-true e.id c.args.id t) c.position-i.result c.position-i.ensures
    (subst (λ l. IsItemAt l c.position-i.result None) c.deref.ensures.value c.in_err-tenant.ensures.lookup)

pub returns-then-has_id-clause-some : goal.returns-then-has_id-clause-some
returns-then-has_id-clause-some c =
    let at = lent_at c.args.self.now.tenants.items c.position-i.result (Some c.in_ok-tenant.tenant) (subst (λ l. IsItemAt l c.position-i.result (Some c.in_ok-tenant.tenant)) c.deref.ensures.value c.in_ok-tenant.ensures.lookup) in
    record { at = c.position-i.result; stands = sym at; number = eqb-true (record_in c.in_ok-tenant.tenant.now).id c.args.id (sym c.has_id.ensures ∙ c.if-has_id.true) }

pub returns-else-has_id-clause-none : goal.returns-else-has_id-clause-none
returns-else-has_id-clause-none c = λ _.
    let h = c.args.self.now in
    none_other h.index.positions.items h.tenants.items c.args.id (has_id c.args.id) h.indexed (λ e t. eqb-true e.id c.args.id t) c.position-i.result c.position-i.ensures c.in_ok-tenant.tenant
    (subst (λ l. IsItemAt l c.position-i.result (Some c.in_ok-tenant.tenant)) c.deref.ensures.value c.in_ok-tenant.ensures.lookup) (sym c.has_id.ensures ∙ c.if-has_id.false)
