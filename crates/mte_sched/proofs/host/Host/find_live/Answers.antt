use Rattle.std.proofs.Common.{◌==◌, ◌∙◌, None, Some, ap, sym, subst}
use Rattle.std.specs.Slice.{IsItemAt}
use Rattle.std.proofs.lemmas.Bool.{eqb-true}
use Rattle.mte_tenant.specs.Ledger.{has_live_id}
use Rattle.mte_sched.specs.Sharing.{has_live_in}
use Rattle.mte_sched.proofs.TurnLemmas.{both_right}
use Rattle.mte_sched.proofs.IndexLemmas.{lent_at, none_past, none_other}
use Rattle.mte_sched.proofs.host.Host.find_live.Goals as goal

pub returns-in_err-tenant-clause-none : goal.returns-in_err-tenant-clause-none
returns-in_err-tenant-clause-none c = λ _.
    let h = c.args.self.now in
    none_past h.index.positions.items h.tenants.items c.args.id (has_live_id c.args.id) h.indexed (λ e t. eqb-true e.id c.args.id (both_right e.live (e.id == c.args.id) t)) c.position-i.result c.position-i.ensures
    (subst (λ l. IsItemAt l c.position-i.result None) c.deref.ensures.value c.in_err-tenant.ensures.lookup)

pub returns-then-has_live_id-clause-some : goal.returns-then-has_live_id-clause-some
returns-then-has_live_id-clause-some c =
    let at = lent_at c.args.self.now.tenants.items c.position-i.result (Some c.in_ok-tenant.tenant) (subst (λ l. IsItemAt l c.position-i.result (Some c.in_ok-tenant.tenant)) c.deref.ensures.value c.in_ok-tenant.ensures.lookup) in
    ap (has_live_in c.args.id) (sym at) ∙ sym c.has_live_id.ensures ∙ c.if-has_live_id.true

pub returns-else-has_live_id-clause-none : goal.returns-else-has_live_id-clause-none
returns-else-has_live_id-clause-none c = λ _.
    let h = c.args.self.now in
    none_other h.index.positions.items h.tenants.items c.args.id (has_live_id c.args.id) h.indexed (λ e t. eqb-true e.id c.args.id (both_right e.live (e.id == c.args.id) t)) c.position-i.result c.position-i.ensures c.in_ok-tenant.tenant
    (subst (λ l. IsItemAt l c.position-i.result (Some c.in_ok-tenant.tenant)) c.deref.ensures.value c.in_ok-tenant.ensures.lookup) (sym c.has_live_id.ensures ∙ c.if-has_live_id.false)
